-- The value of what this project writes is what was written: of every number that fits its type.
-- Assumes nothing.
use Rattle.std.specs.Prelude.{◌≡◌, refl, Bool, true, false, ◌&&◌, ◌||◌, List, [], ◌∷◌, ℕ, ◌-◌, ◌^◌, ◌≤◌, ◌<◌, eqb, length, Some}
use Rattle.basis.specs.Kit.{sym, ap, ◌∙◌}
use Rattle.basis.proofs.Kit.{arith, ne_eqb}
use mathlib.Core.Path.{subst}
use mathlib.Core.Bool.{false≢true}
use mathlib.Core.List.{append-nil}
use mathlib.Core.Logic.{inl, inr}
use borrow.Author.Tests.{eqb-true, eqb-false}
use lib.Dec.{T}
use mir.Facts.{and_yes}
use Rattle.types.specs.Types.{is_any, wire_of, I64, LEN, SGROUP, I32, VARINT}
use Rattle.types.specs.Types.{TYPE_DOUBLE, TYPE_FIXED64, TYPE_SFIXED64, TYPE_STRING, TYPE_BYTES, TYPE_MESSAGE, TYPE_GROUP}
use Rattle.types.specs.Types.{TYPE_FLOAT, TYPE_INT32, TYPE_FIXED32, TYPE_BOOL, TYPE_UINT32, TYPE_ENUM, TYPE_SFIXED32}
use Rattle.types.specs.Types.{TYPE_SINT32, TYPE_SINT64}
use Rattle.varint.specs.Varint.{varint, read_varint, read}
use Rattle.varint.proofs.VarintLaws.{read-varint}
use Rattle.wire.specs.Fixed.{little_of}
use Rattle.wire.proofs.FixedLaws.{little-little-of}
use Rattle.wire.specs.Numbers.{zigzag_of, unzigzag_of, low32_of, widen32_of}
use Rattle.wire.proofs.NumberLaws.{zigzag-plus, zigzag-minus, low32-mod, widen32-plus, widen32-minus, unzigzag-zigzag}
use Rattle.payloads.specs.Value.{said, lows, wides, value_of, Widened, FitsBy, Fits}
use Rattle.payloads.proofs.ValueLaws.{value-plain}

-- ---- what its payload says
unfoldable pub raw_of : (typ bits : ℕ) → ℕ
raw_of t v = elim (eqb (wire_of t) I32) [
  | true ↦ low32_of v
  | false ↦ elim (is_any t (TYPE_SINT32 ∷ TYPE_SINT64 ∷ [])) [ true ↦ zigzag_of v | false ↦ v ]
]

widened_small : (v : ℕ) → Widened v → v < 2 ^ 64
widened_small v (inl h) = omega arith
widened_small v (inr h) = h.1

pub fits-small : (t v : ℕ) → Fits t v → v < 2 ^ 64
unfolding Fits
fits-small t v = go (eqb t TYPE_BOOL) (is_any t lows) (is_any t (TYPE_SINT32 ∷ wides))
  where
    go : (b l w : Bool) → FitsBy b l w v → v < 2 ^ 64
    go true l w h = omega arith
    go false true w h = omega arith
    go false false true h = widened_small v h
    go false false false h = h

-- ---- the numbers
bit-back : (v : ℕ) → v ≤ 1 → elim (eqb v 0) [ true ↦ 0 | false ↦ 1 ] ≡ v
bit-back v h = go (eqb v 0) refl
  where
    go : (t : Bool) → eqb v 0 ≡ t → elim t [ true ↦ 0 | false ↦ 1 ] ≡ v
    go true e = sym (eqb-true v 0 e)
    go false e = let n : v ≡ 0 → ⊥ = eqb-false v 0 e in omega arith

low_same : (v : ℕ) → v < 2 ^ 32 → low32_of v ≡ v
low_same v h = sym (low32-mod v) ∙ omega arith

low-low : (v : ℕ) → low32_of (low32_of v) ≡ low32_of v
low-low v = low_same (low32_of v) (omega (arith, low32-mod v))

wide_back : (v : ℕ) → Widened v → widen32_of (low32_of v) ≡ v
wide_back v (inl h) = ap widen32_of (low_same v (omega arith)) ∙ sym (widen32-plus v h)
wide_back v (inr h) =
    let low : low32_of v ≡ v - (2 ^ 64 - 2 ^ 32) = sym (low32-mod v) ∙ omega arith in
    rw (low, ← (widen32-minus (v - (2 ^ 64 - 2 ^ 32)) (omega arith))) (omega arith)

zigzag-low : (v : ℕ) → Widened v → zigzag_of v < 2 ^ 32
zigzag-low v (inl h) = omega (arith, zigzag-plus v (omega arith))
zigzag-low v (inr h) = omega (arith, zigzag-minus v (omega arith))

zigzag-back : (v : ℕ) → Widened v → unzigzag_of (low32_of (zigzag_of v)) ≡ v
zigzag-back v h = ap unzigzag_of (low_same (zigzag_of v) (zigzag-low v h)) ∙ unzigzag-zigzag v (widened_small v h)

-- ---- what is written says its number
module _ (v : ℕ) where
  pub said-varint : v < 2 ^ 64 → said VARINT (varint v) ≡ v
  unfolding said
  said-varint h =
      let here : read_varint (varint v) ≡ Some (read v (length (varint v))) = rw append-nil at (read-varint v [] h) in
      rw here

  pub said-four : v < 2 ^ 32 → said I32 (little_of 4 v) ≡ v
  unfolding said
  said-four = little-little-of 4 v

  pub said-eight : v < 2 ^ 64 → said I64 (little_of 8 v) ≡ v
  unfolding said
  said-eight = little-little-of 8 v

-- ---- a statement of each of some types, of one that is any of them
abbrev Each : (P : ℕ → Type 0) → List ℕ → Type 0
Each P [] = Unit {0}
Each P (x ∷ xs) = P x × Each P xs

module _ (t : ℕ) where
  any-each : (P : ℕ → Type 0) (ts : List ℕ) → Each P ts → is_any t ts ≡ true → P t
  any-each P [] each = λ e. absurd (false≢true e)
  any-each P (x ∷ xs) each = go (eqb t x) refl (any-each P xs each.1)
    where
      go : (b : Bool) → eqb t x ≡ b → (is_any t xs ≡ true → P t) → (b || is_any t xs) ≡ true → P t
      go true p rest e = subst P (sym (eqb-true t x p)) each.0
      go false p rest e = rest e

-- ---- the types whose values are not simply what is said
abbrev fours : List ℕ
fours = TYPE_FIXED32 ∷ TYPE_SFIXED32 ∷ TYPE_FLOAT ∷ []

abbrev changed : List ℕ
changed = TYPE_BOOL ∷ TYPE_UINT32 ∷ TYPE_FIXED32 ∷ TYPE_FLOAT ∷ TYPE_INT32 ∷ TYPE_ENUM ∷ TYPE_SFIXED32 ∷ TYPE_SINT32 ∷ TYPE_SINT64 ∷ []

abbrev all_changed : List ℕ → Bool
all_changed [] = true
all_changed (x ∷ xs) = is_any x changed && all_changed xs

module _ (t v : ℕ) (none : is_any t changed ≡ false) where
  other : (x : ℕ) → T (is_any x changed) → t ≡ x → ⊥
  other x h e = rw (← e, none) at h

  others : (ts : List ℕ) → T (all_changed ts) → is_any t ts ≡ false
  others [] h = refl
  others (x ∷ xs) h =
      let tests : T (is_any x changed) × T (all_changed xs) = and_yes (is_any x changed) (all_changed xs) h in
      rw (ne_eqb t x (other x tests.0)) (others xs tests.1)

  not-four : eqb (wire_of t) I32 ≡ false
  unfolding wire_of
  not-four = go (is_any t (TYPE_FIXED64 ∷ TYPE_SFIXED64 ∷ TYPE_DOUBLE ∷ [])) (is_any t (TYPE_STRING ∷ TYPE_BYTES ∷ TYPE_MESSAGE ∷ []))
      (is_any t (TYPE_GROUP ∷ [])) (is_any t fours) (others fours tt)
    where
      go : (x y z f : Bool) → f ≡ false → eqb (elim x [
        | true ↦ I64
        | false ↦ elim y [ true ↦ LEN | false ↦ elim z [ true ↦ SGROUP | false ↦ elim f [ true ↦ I32 | false ↦ VARINT ] ] ]
      ]) I32 ≡ false
      go true y z f e = refl
      go false true z f e = refl
      go false false true f e = refl
      go false false false f e = rw e

  raw_same : raw_of t v ≡ v
  unfolding raw_of
  raw_same = rw (raw_of, not-four, others (TYPE_SINT32 ∷ TYPE_SINT64 ∷ []) tt)

  plain_back : value_of t (raw_of t v) ≡ v
  plain_back =
      rw raw_same
      (value-plain t v (other TYPE_BOOL tt) (others lows tt) (others wides tt)
      (other TYPE_SINT32 tt) (other TYPE_SINT64 tt))

-- ---- the statement
pub value-said : (t v : ℕ) → Fits t v → value_of t (raw_of t v) ≡ v
unfolding value_of raw_of wire_of Fits
value-said t v = go (is_any t changed) refl
  where
    Back : ℕ → Type 0
    Back t = Fits t v → value_of t (raw_of t v) ≡ v

    fixed : v < 2 ^ 32 → low32_of (low32_of v) ≡ v
    fixed h = low-low v ∙ low_same v h

    sfixed : Widened v → widen32_of (low32_of (low32_of v)) ≡ v
    sfixed h = ap widen32_of (low-low v) ∙ wide_back v h

    go : (b : Bool) → is_any t changed ≡ b → Back t
    go true e =
        any-each t Back changed
        (bit-back v, (low_same v, (fixed, (fixed, (wide_back v, (wide_back v, (sfixed, (zigzag-back v, (unzigzag-zigzag v, tt))))))))) e
    go false e = λ h. plain_back t v e
