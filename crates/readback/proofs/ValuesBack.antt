-- The value of a record that was written by its own type: the number that was written, and 0 of a length-delimited one.
-- Assumes nothing.
use Rattle.std.specs.Prelude.{◌≡◌, refl, Bool, true, false, ◌||◌, List, [], ◌∷◌, ℕ, ◌%◌, ◌^◌, ◌<◌, eqb}
use Rattle.basis.specs.Kit.{ap, ◌∙◌}
use Rattle.basis.proofs.Kit.{arith}
use borrow.Author.Tests.{eqb-true}
use Rattle.types.specs.Types.{is_any, wire_of, VARINT, I64, LEN, I32, TYPE_FLOAT, TYPE_INT32, TYPE_FIXED32, TYPE_BOOL, TYPE_UINT32, TYPE_ENUM}
use Rattle.types.specs.Types.{TYPE_SFIXED32, TYPE_SINT32, TYPE_SINT64}
use Rattle.wire.specs.Numbers.{low32_of, widen32_of, unzigzag_of}
use Rattle.payloads.specs.Value.{said, value_of, Fits}
use Rattle.payloads.proofs.ValueFacts.{raw_of, said-varint, said-four, said-eight, value-said}
use Rattle.records.specs.Records.{payload}
use Rattle.records.proofs.PayloadLaws.{on_type, on-type-lt, payload-four, payload-eight, payload-varint}
use Rattle.records.proofs.ReadBack.{number-wire}

-- no fixed width is written by zigzag
eight-plain : (t : ℕ) → wire_of t ≡ I64 → is_any t (TYPE_SINT32 ∷ TYPE_SINT64 ∷ []) ≡ false
unfolding wire_of
eight-plain t e = go (eqb t TYPE_SINT32) (eqb t TYPE_SINT64) refl refl
  where
    go : (x y : Bool) → eqb t TYPE_SINT32 ≡ x → eqb t TYPE_SINT64 ≡ y → (x || (y || false)) ≡ false
    go true y p q = let z : 0 ≡ I64 = rw (eqb-true t TYPE_SINT32 p) at e in absurd (omega arith)
    go false true p q = let z : 0 ≡ I64 = rw (eqb-true t TYPE_SINT64 q) at e in absurd (omega arith)
    go false false p q = refl

module _ (t v : ℕ) (h : v < 2 ^ 64) where
  said-payload : is_any (wire_of t) (VARINT ∷ I64 ∷ I32 ∷ []) ≡ true → said (wire_of t) (payload t v) ≡ raw_of t v
  unfolding raw_of low32_of
  said-payload k =
      number-wire (wire_of t) (λ w. wire_of t ≡ w → said w (payload t v) ≡ raw_of t v)
      (λ e. rw (payload-varint t v (λ c. omega arith) (λ c. omega arith)) (said-varint (on_type t v) (on-type-lt t v h) ∙ rw (raw_of, e)))
      (λ e. rw (payload-eight t v e) (said-eight v h ∙ rw (raw_of, e, eight-plain t e)))
      (λ e. rw (payload-four t v e) (said-four (v % 2 ^ 32) (omega arith) ∙ rw (raw_of, e)))
      k refl

  pub value-back : is_any (wire_of t) (VARINT ∷ I64 ∷ I32 ∷ []) ≡ true → Fits t v → value_of t (said (wire_of t) (payload t v)) ≡ v
  value-back k f = ap (value_of t) (said-payload k) ∙ value-said t v f

value-zero : (t : ℕ) → value_of t 0 ≡ 0
unfolding value_of low32_of widen32_of unzigzag_of
value-zero t =
    go (eqb t TYPE_BOOL) (is_any t (TYPE_UINT32 ∷ TYPE_FIXED32 ∷ TYPE_FLOAT ∷ [])) (is_any t (TYPE_INT32 ∷ TYPE_ENUM ∷ TYPE_SFIXED32 ∷ []))
    (eqb t TYPE_SINT32) (eqb t TYPE_SINT64)
  where
    go : (a b c d e : Bool) → ◌≡◌ {A = ℕ} (elim a [
      | true ↦ elim (eqb 0 0) [ true ↦ 0 | false ↦ 1 ]
      | false ↦ elim b [
        | true ↦ low32_of 0
        | false ↦ elim c [
          | true ↦ widen32_of (low32_of 0)
          | false ↦ elim d [ true ↦ unzigzag_of (low32_of 0) | false ↦ elim e [ true ↦ unzigzag_of 0 | false ↦ 0 ] ]
        ]
      ]
    ]) 0
    go true b c d e = refl
    go false true c d e = refl
    go false false true d e = refl
    go false false false true e = refl
    go false false false false true = refl
    go false false false false false = refl

pub value_none : (t : ℕ) (bs : List ℕ) → value_of t (said LEN bs) ≡ 0
unfolding said
value_none t bs = value-zero t
