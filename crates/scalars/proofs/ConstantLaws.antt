-- Identifiers on enums and scalar constants on fields, over any look-ups: the ways through `ident_on` and `scalar_on`.
-- Assumes nothing.
use Rattle.std.specs.Prelude.{◌≡◌, refl, Bool, List, ℕ, ◌≤◌, length, Option, None, Some, Err, Ok, Result}
use Rattle.basis.specs.Kit.{sym, ap, ◌∙◌}
use Rattle.basis.proofs.Kit.{eq-eqb, ne_eqb}
use Rattle.basis.proofs.Never.{never}
use mathlib.Core.Bool.{not}
use lib.Dec.{T}
use lib.Ieee.{Float, binary64, to_bits, is_nan}
use Rattle.reply.specs.declared.Refusal.{Refusal}
use Rattle.reply.specs.declared.Refusal.TheVariants.{UnsupportedExtensionType}
use Rattle.field.specs.declared.Span.{Span}
use Rattle.field.specs.Leaf.{text, Lies}
use Rattle.wire.specs.Numbers.{widen32_of}
use Rattle.types.specs.Types.{TYPE_ENUM}
use Rattle.sheet.specs.declared.declaration.Shape.{Shape}
use Rattle.sheet.specs.declared.declaration.Value.{Value}
use Rattle.scope.specs.inner.Answers.{valued}
use Rattle.request.specs.declared.constant.Constant.{Constant}
use Rattle.request.specs.declared.constant.Constant.TheVariants.{Bool as BoolOf, Integer, Float as FloatOf, NotANumber}
use Rattle.request.specs.declared.constant.Constant.TheVariants.{Text, Ident, Message as MessageOf, List as ListOf}
use Rattle.records.specs.declared.Body.TheVariants.{Bits}
use Rattle.lookups.specs.Lookups.{Lookups, value_in}
use Rattle.lookups.proofs.LookupLaws.{enum-ordered, enum-within}
use Rattle.scalars.specs.Scalars.{listed, among, integer_on, float_on, string_on, bool_on, ident_on, scalar_on}
use Rattle.scalars.specs.inner.Inside.{Inside}
use Rattle.records.specs.declared.Body.{Body}

-- ---- ident_on
listed_of : (u : Refusal) (o : Option Value) (z : Option Value) → z ≡ valued o → z ≡ None → Err u ≡ listed u o
listed_of u None z m g = refl
listed_of u (Some v) z m g = never cc

listed-is : (u : Refusal) (o : Option Value) (z : Option Value) → z ≡ valued o → (v : Value) → z ≡ Some v → (b : ℕ) → b ≡ widen32_of v.number
    → Ok (Bits b) ≡ listed u o
listed-is u None z m v g b e = never cc
listed-is u (Some x) z m v g b e = let y : x ≡ v = cc in rw (y, e) refl

module _ (L : Lookups) (s r : List ℕ) (u : Refusal) (h : Shape) (p : Span) (t : ℕ) (k : t ≡ h.typ) where
  pub ident-other : (t ≡ TYPE_ENUM → ⊥) → Err UnsupportedExtensionType ≡ ident_on L s r u h p
  unfolding ident_on
  ident-other d = simp (ident_on, ← k, ne_eqb t TYPE_ENUM d)

  module _ (e : t ≡ TYPE_ENUM) (v : Result Span Refusal) (q : v ≡ L.enumeration (text s h.path)) where
    ident-among : among u s (text r p) v ≡ ident_on L s r u h p
    unfolding ident_on
    ident-among = simp (ident_on, ← k, eq-eqb t TYPE_ENUM e, ← q)

    pub ident-none : (w : Refusal) → v ≡ Err w → Err w ≡ ident_on L s r u h p
    ident-none w g = sym (ap (among u s (text r p)) g) ∙ ident-among

    module _ (x : Span) (g : v ≡ Ok x) (z : Option Value) (m : z ≡ valued (value_in s (text r p) x)) where
      pub ident-unlisted : z ≡ None → Err u ≡ ident_on L s r u h p
      ident-unlisted n = listed_of u (value_in s (text r p) x) z m n ∙ sym (ap (among u s (text r p)) g) ∙ ident-among

      pub ident-is : (y : Value) → z ≡ Some y → (b : ℕ) → b ≡ widen32_of y.number → Ok (Bits b) ≡ ident_on L s r u h p
      ident-is y n b c = listed-is u (value_in s (text r p) x) z m y n b c ∙ sym (ap (among u s (text r p)) g) ∙ ident-among

pub ruleset ident_laws = (ident-other, ident-none, ident-unlisted, ident-is, enum-ordered, enum-within)

-- ---- scalar_on
module _ (L : Lookups) (s r : List ℕ) (u : Refusal) (h : Shape) (c : Constant) (x : Result Body Refusal) where
  module _ (t : ℕ) (k : t ≡ h.typ) where
    pub scalar-bool : (b : Bool) → c ≡ BoolOf b → x ≡ bool_on t b → x ≡ scalar_on L s r u h c
    unfolding scalar_on
    scalar-bool b g e = rw (g, ← k) e

    pub scalar-integer : (m : Bool) (n : ℕ) → c ≡ Integer m n → x ≡ integer_on t m n → x ≡ scalar_on L s r u h c
    unfolding scalar_on
    scalar-integer m n g e = rw (g, ← k) e

    pub scalar-float : (f : Float) → c ≡ FloatOf f → (b : ℕ) → b ≡ to_bits binary64 f → x ≡ float_on t b → x ≡ scalar_on L s r u h c
    unfolding scalar_on
    scalar-float f g b q e = rw (g, ← k, ← q) e

    pub scalar-nan : (b : ℕ) → c ≡ NotANumber b → x ≡ float_on t b → x ≡ scalar_on L s r u h c
    unfolding scalar_on
    scalar-nan b g e = rw (g, ← k) e

    pub scalar-text : (p : Span) → c ≡ Text p → x ≡ string_on r t p → x ≡ scalar_on L s r u h c
    unfolding scalar_on
    scalar-text p g e = rw (g, ← k) e

  pub scalar-ident : (p : Span) → c ≡ Ident p → x ≡ ident_on L s r u h p → x ≡ scalar_on L s r u h c
  unfolding scalar_on
  scalar-ident p g e = rw g e

module _ (L : Lookups) (s r : List ℕ) (u : Refusal) (h : Shape) (c : Constant) (p : Span) where
  pub scalar-message : c ≡ MessageOf p → Err UnsupportedExtensionType ≡ scalar_on L s r u h c
  unfolding scalar_on
  scalar-message g = rw g refl

  pub scalar-list : c ≡ ListOf p → Err UnsupportedExtensionType ≡ scalar_on L s r u h c
  unfolding scalar_on
  scalar-list g = rw g refl

module _ (c : Constant) (r : List ℕ) (i : Inside c r) where
  pub inside-float : (x : Float) → c ≡ FloatOf x → T (not (is_nan x))
  unfolding Inside
  inside-float x g = rw g at i

  text-lies : (p : Span) → c ≡ Text p → Lies p r
  unfolding Inside
  text-lies p g = rw g at i

  ident-lies : (p : Span) → c ≡ Ident p → Lies p r
  unfolding Inside
  ident-lies p g = rw g at i

  pub text-ordered : (p : Span) → c ≡ Text p → p.from ≤ p.to
  text-ordered p g = (text-lies p g).0

  pub text-within : (p : Span) → c ≡ Text p → p.to ≤ length r
  text-within p g = (text-lies p g).1

  pub ident-ordered : (p : Span) → c ≡ Ident p → p.from ≤ p.to
  ident-ordered p g = (ident-lies p g).0

  pub ident-within : (p : Span) → c ≡ Ident p → p.to ≤ length r
  ident-within p g = (ident-lies p g).1

pub ruleset scalar_laws = (
  scalar-bool,
  scalar-integer,
  scalar-float,
  scalar-nan,
  scalar-text,
  scalar-ident,
  scalar-message,
  scalar-list,
  inside-float,
  text-ordered,
  text-within,
  ident-ordered,
  ident-within,
)
