-- The payload of a number: its three forms, how many bytes it has, and that the number is read back from it.
-- Assumes nothing.
use Rattle.std.specs.Prelude.{◌≡◌, refl, Bool, true, false, [], ◌∷◌, ℕ, ◌%◌, ◌^◌, ◌≤◌, ◌<◌, eqb, ltb, length, Some}
use Rattle.basis.specs.Kit.{sym, ap, ◌∙◌}
use Rattle.basis.proofs.Kit.{arith, ne_eqb}
use mathlib.Core.List.{append-nil}
use borrow.Author.Tests.{ltb-true, ltb-false}
use Rattle.limits.specs.Figures.{most_varint}
use Rattle.types.specs.Types.{is_any, wire_of, I32, I64, TYPE_SINT32, TYPE_SINT64}
use Rattle.varint.specs.Varint.{varint, read_varint, read}
use Rattle.varint.proofs.VarintLaws.{varint-few, read-varint}
use Rattle.wire.specs.Fixed.{little_of, little}
use Rattle.wire.specs.Numbers.{zigzag_of, low32_of}
use Rattle.wire.proofs.FixedLaws.{little-of-length, little-little-of}
use Rattle.wire.proofs.NumberLaws.{zigzag-plus, zigzag-minus}
use Rattle.records.specs.Records.{payload}

-- the number that a varint is: by zigzag on two types
abbrev pub on_type : (typ bits : ℕ) → ℕ
on_type t v = elim (is_any t (TYPE_SINT32 ∷ TYPE_SINT64 ∷ [])) [ true ↦ zigzag_of v | false ↦ v ]

zigzag-lt : (v : ℕ) → v < 2 ^ 64 → zigzag_of v < 2 ^ 64
zigzag-lt v h = go (ltb v (2 ^ 63)) refl
  where
    go : (t : Bool) → ltb v (2 ^ 63) ≡ t → zigzag_of v < 2 ^ 64
    go true e = let low : v < 2 ^ 63 = ltb-true v (2 ^ 63) e in omega (arith, zigzag-plus v low)
    go false e = let high : 2 ^ 63 ≤ v = ltb-false v (2 ^ 63) e in omega (arith, zigzag-minus v high)

module _ (t v : ℕ) where
  pub on-type-lt : v < 2 ^ 64 → on_type t v < 2 ^ 64
  on-type-lt h = go (is_any t (TYPE_SINT32 ∷ TYPE_SINT64 ∷ []))
    where
      go : (b : Bool) → elim b [ true ↦ zigzag_of v | false ↦ v ] < 2 ^ 64
      go true = zigzag-lt v h
      go false = h

  pub payload-four : wire_of t ≡ I32 → payload t v ≡ little_of 4 (low32_of v)
  unfolding payload
  payload-four e = simp (payload, e)

  pub payload-eight : wire_of t ≡ I64 → payload t v ≡ little_of 8 v
  unfolding payload
  payload-eight e = simp (payload, e) (rw e)

  pub payload-varint : (wire_of t ≡ I32 → ⊥) → (wire_of t ≡ I64 → ⊥) → payload t v ≡ varint (on_type t v)
  unfolding payload
  payload-varint c d =
      simp (payload, ne_eqb (wire_of t) I32 c, ne_eqb (wire_of t) I64 d) (go (is_any t (TYPE_SINT32 ∷ TYPE_SINT64 ∷ [])))
    where
      go : (b : Bool) → elim b [ true ↦ varint (zigzag_of v) | false ↦ varint v ] ≡ varint (elim b [ true ↦ zigzag_of v | false ↦ v ])
      go true = refl
      go false = refl

  -- ---- how many bytes it has
  pub payload-few : length (payload t v) ≤ most_varint
  unfolding payload
  payload-few = go (eqb (wire_of t) I32) (eqb (wire_of t) I64) (is_any t (TYPE_SINT32 ∷ TYPE_SINT64 ∷ []))
    where
      go : (x y z : Bool) → length {A = ℕ} (elim x [
        | true ↦ little_of 4 (low32_of v)
        | false ↦ elim y [ true ↦ little_of 8 v | false ↦ elim z [ true ↦ varint (zigzag_of v) | false ↦ varint v ] ]
      ]) ≤ most_varint
      go true y z = omega (arith, little-of-length 4 (low32_of v))
      go false true z = omega (arith, little-of-length 8 v)
      go false false true = varint-few (zigzag_of v)
      go false false false = varint-few v

  -- ---- reading it
  module _ (h : v < 2 ^ 64) where
    pub four-back : wire_of t ≡ I32 → little (payload t v) ≡ low32_of v
    unfolding low32_of
    four-back e = ap little (payload-four e) ∙ little-little-of 4 (v % 2 ^ 32) (omega arith)

    pub eight-back : wire_of t ≡ I64 → little (payload t v) ≡ v
    eight-back e = ap little (payload-eight e) ∙ little-little-of 8 v h

    pub varint-back : (wire_of t ≡ I32 → ⊥) → (wire_of t ≡ I64 → ⊥) → read_varint (payload t v) ≡ Some (read (on_type t v) (length (payload t v)))
    varint-back c d =
        let x = on_type t v in
        rw (payload-varint c d) (ap read_varint (sym (append-nil (varint x))) ∙ read-varint x [] (on-type-lt h))
