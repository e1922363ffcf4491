-- The record of a scalar constant: the ways through `put_scalar`, and how many bytes the record has.
-- Assumes nothing.
use Rattle.std.specs.Prelude.{◌≡◌, refl, List, ℕ, ◌+◌, ◌≤◌, length, Err, Ok, Result}
use Rattle.basis.specs.Kit.{sym, ap, ◌∙◌}
use Rattle.basis.proofs.Kit.{arith}
use Rattle.basis.proofs.Never.{never}
use mathlib.Core.Path.{subst}
use Rattle.limits.specs.Figures.{most_varint}
use Rattle.octets.specs.inner.Laid.{Laid}
use Rattle.octets.proofs.Parts.{part_length}
use Rattle.reply.specs.declared.Refusal.{Refusal}
use Rattle.reply.specs.declared.Refusal.TheVariants.{UnknownEnumValue}
use Rattle.field.specs.Leaf.{text, Lies}
use Rattle.sheet.specs.declared.declaration.Shape.{Shape}
use Rattle.request.specs.declared.constant.Constant.{Constant}
use Rattle.request.specs.declared.constant.Constant.TheVariants.{Bool as BoolOf, Integer, Float as FloatOf, NotANumber}
use Rattle.request.specs.declared.constant.Constant.TheVariants.{Text, Ident, Message as MessageOf, List as ListOf}
use Rattle.records.specs.declared.Body.{Body}
use Rattle.records.specs.declared.Body.TheVariants.{Bits, Bytes}
use Rattle.records.specs.Records.{record_of, encode}
use Rattle.records.specs.inner.Emits.{wrote_of, Emits}
use Rattle.records.proofs.RecsLaws.{number-few, bytes-few}
use Rattle.records.proofs.EmitsLaws.{wrote-tells, refuses, emits-laid}
use Rattle.lookups.specs.Lookups.{Lookups}
use Rattle.scalars.specs.Scalars.{scalar_on}
use Rattle.scalars.specs.inner.Inside.{Inside}
use Rattle.scalars.proofs.BodyLaws.{bytes_of, body-inside}
use Rattle.values.specs.Values.{made_of, scalar_made}
use Rattle.values.specs.inner.Writers.{most_scalar}

-- a message constant and a list fit nothing
bits_most : (L : Lookups) (s r : List ℕ) (u : Refusal) (h : Shape) (c : Constant) (b : ℕ) → scalar_on L s r u h c ≡ Ok (Bits b)
    → most_varint + most_varint ≤ most_scalar c
unfolding scalar_on
bits_most L s r u h (BoolOf x) b e = omega arith
bits_most L s r u h (Integer m n) b e = omega arith
bits_most L s r u h (FloatOf x) b e = omega arith
bits_most L s r u h (NotANumber x) b e = omega arith
bits_most L s r u h (Text q) b e = omega arith
bits_most L s r u h (Ident q) b e = omega arith
bits_most L s r u h (MessageOf q) b e = never cc
bits_most L s r u h (ListOf q) b e = never cc

module _ (L : Lookups) (s r : List ℕ) (h : Shape) (c : Constant) (x : Result Body Refusal) (q : x ≡ scalar_on L s r UnknownEnumValue h c) where
  pub scalar-refused : (w : Refusal) → x ≡ Err w → (k : ℕ) (l : List ℕ) (at : ℕ) (l' : List ℕ)
      → Emits wrote_of (scalar_made L s r c h) k l at l' (Err w)
  unfolding scalar_made
  scalar-refused w g k l at l' = refuses wrote-tells w (ap (made_of r h) (sym q ∙ g)) refl

  record-few : Inside c r → (b : Body) → x ≡ Ok b → length (encode (record_of r h b)) ≤ most_scalar c
  unfolding Inside
  record-few i (Bits v) g =
      omega (arith, number-few h.number h.typ v, bits_most L s r UnknownEnumValue h c v (sym q ∙ g))
  record-few i (Bytes p) g =
      let e : c ≡ Text p = bytes_of p L s r UnknownEnumValue h c (sym q ∙ g) in
      let l : Lies p r = subst (λ (y : Constant). Inside y r) e i in
      rw e (omega (arith, bytes-few h.number h.typ (text r p), part_length r p.from p.to l.1))

  pub scalar-wrote : (b : Body) → x ≡ Ok b → Inside c r → (l : List ℕ) (at : ℕ) (l' : List ℕ) (n : ℕ)
      → Laid l at (encode (record_of r h b)) l' n → Emits wrote_of (scalar_made L s r c h) (most_scalar c) l at l' (Ok n)
  unfolding scalar_made
  scalar-wrote b g i l at l' n a =
      emits-laid wrote-tells (record_of r h b) n a (ap (made_of r h) (sym q ∙ g)) (record-few i b g) refl

pub ruleset put_scalar_laws = (scalar-refused, scalar-wrote, body-inside)
