-- Builtins, over any look-ups: the ways through the functions that say what a constant on one comes to.
-- Assumes nothing.
use Rattle.std.specs.Prelude.{◌≡◌, refl, Bool, true, false, ◌||◌, List, [], ◌∷◌, ℕ, ◌-◌, eqb, Some, Err, None, Ok, Option, Result}
use Rattle.basis.specs.Kit.{sym, ap, ◌∙◌}
use Rattle.basis.proofs.Kit.{eq-eqb, ne_eqb}
use Rattle.limits.specs.Figures.{most_constants}
use Rattle.reply.specs.declared.Refusal.{Refusal}
use Rattle.reply.specs.declared.Refusal.TheVariants.{BuiltinOptionNotFound, BuiltinOptionPointsToNonSingularField}
use Rattle.reply.specs.declared.Refusal.TheVariants.{UnsupportedExtensionType}
use Rattle.types.specs.Types.{is_any, TYPE_BOOL, TYPE_STRING, TYPE_ENUM}
use Rattle.sheet.specs.declared.declaration.Shape.{Shape}
use Rattle.sheet.specs.declared.declaration.Declaration.{Declaration}
use Rattle.scope.specs.declared.lookup.LookupScope.{LookupScope}
use Rattle.scope.specs.inner.Answers.{declared}
use Rattle.scope.proofs.Answers.{declared-none, declared-some}
use Rattle.request.specs.declared.constant.Constant.{Constant}
use Rattle.request.specs.declared.constant.Constant.TheVariants.{Bool as BoolOf, Integer, Float as FloatOf, NotANumber}
use Rattle.request.specs.declared.constant.Constant.TheVariants.{Text, Ident, Message as MessageOf, List as ListOf}
use Rattle.request.specs.Constant.{constant_of}
use Rattle.request.specs.Tree.{unnamed, Constants, none as no_constant, ConstantReader, grown, if_held, constant_in}
use Rattle.records.specs.declared.Body.{Body}
use Rattle.lookups.specs.Lookups.{Lookups, field_named}
use Rattle.lookups.proofs.LookupLaws.{field-path-ordered, field-path-within}
use Rattle.scalars.specs.Scalars.{unsupported, scalar_on}
use Rattle.scalars.proofs.ReadLaws.{read-inside}
use Rattle.builtins.specs.declared.Built.{Built}
use Rattle.builtins.specs.Builtins.{repeated, is_skipped, built_of, builtin_on, builtin_field, builtin_of, built}

-- ---- is_plain
-- the types that a builtin may have
abbrev pub plain : List ℕ
plain = TYPE_BOOL ∷ TYPE_ENUM ∷ TYPE_STRING ∷ []

pub plain_is : (t : ℕ) → (eqb t TYPE_BOOL || eqb t TYPE_ENUM || eqb t TYPE_STRING) ≡ is_any t plain
plain_is t = go (eqb t TYPE_BOOL) (eqb t TYPE_ENUM) (eqb t TYPE_STRING)
  where
    go : (a b c : Bool) → (a || b || c) ≡ (a || (b || (c || false)))
    go true b c = refl
    go false true c = refl
    go false false true = refl
    go false false false = refl

-- ---- builtin_on
-- what reads the constants that the outermost one holds
abbrev pub inside : List ℕ → ConstantReader
inside r = constant_in (most_constants - 1) r

module _ (L : Lookups) (s r : List ℕ) (h : Shape) where
  pub held_plain : (inner : ConstantReader) (c : Constant) → is_any h.typ plain ≡ true
      → scalar_on L s r UnsupportedExtensionType h c ≡ builtin_on L s r h (grown inner r unnamed no_constant c)
  unfolding scalar_on
  held_plain inner (BoolOf b) e = rw (e, builtin_on)
  held_plain inner (Integer m n) e = rw (e, builtin_on)
  held_plain inner (FloatOf x) e = rw (e, builtin_on)
  held_plain inner (NotANumber b) e = rw (e, builtin_on)
  held_plain inner (Text p) e = rw (e, builtin_on)
  held_plain inner (Ident p) e = rw (e, builtin_on)
  held_plain inner (MessageOf p) e = refl
  held_plain inner (ListOf p) e = refl

  pub held-other : (inner : ConstantReader) (c : Constant) → is_any h.typ plain ≡ false
      → unsupported ≡ builtin_on L s r h (grown inner r unnamed no_constant c)
  held-other inner (BoolOf b) e = rw (e, builtin_on)
  held-other inner (Integer m n) e = rw (e, builtin_on)
  held-other inner (FloatOf x) e = rw (e, builtin_on)
  held-other inner (NotANumber b) e = rw (e, builtin_on)
  held-other inner (Text p) e = rw (e, builtin_on)
  held-other inner (Ident p) e = rw (e, builtin_on)
  held-other inner (MessageOf p) e = refl
  held-other inner (ListOf p) e = refl

  module _ (t a e : ℕ) (v : Option Constant) (q : v ≡ constant_of r t a e) where
    on-held : builtin_on L s r h (if_held (inside r) r unnamed no_constant v)
        ≡ builtin_on L s r h (constant_in most_constants r unnamed t a e no_constant)
    on-held = ap (λ u. builtin_on L s r h (if_held (inside r) r unnamed no_constant u)) q

    pub on_none : v ≡ None → Err UnsupportedExtensionType ≡ builtin_on L s r h (constant_in most_constants r unnamed t a e no_constant)
    on_none g = sym (ap (λ u. builtin_on L s r h (if_held (inside r) r unnamed no_constant u)) g) ∙ on-held

    module _ (c : Constant) (g : v ≡ Some c) (k : ℕ) (o : k ≡ h.typ) (b : Bool) (p : b ≡ is_any k plain) where
      plain_type : is_any h.typ plain ≡ b
      plain_type = rw (← o) (sym p)

      held_on : builtin_on L s r h (grown (inside r) r unnamed no_constant c)
          ≡ builtin_on L s r h (constant_in most_constants r unnamed t a e no_constant)
      held_on = sym (ap (λ u. builtin_on L s r h (if_held (inside r) r unnamed no_constant u)) g) ∙ on-held

      pub on-plain : b ≡ true → (x : Result Body Refusal) → x ≡ scalar_on L s r UnsupportedExtensionType h c
          → x ≡ builtin_on L s r h (constant_in most_constants r unnamed t a e no_constant)
      on-plain d x y = y ∙ held_plain (inside r) c (plain_type ∙ d) ∙ held_on

      pub on-other : b ≡ false → Err UnsupportedExtensionType ≡ builtin_on L s r h (constant_in most_constants r unnamed t a e no_constant)
      on-other d = held-other (inside r) c (plain_type ∙ d) ∙ held_on

pub ruleset on_laws = (on_none, on-plain, on-other, read-inside)

-- ---- builtin_field
module _ (L : Lookups) (s r : List ℕ) (d : Declaration) (c : Constants) where
  pub field-repeated : d.shape.label ≡ repeated → Err BuiltinOptionPointsToNonSingularField ≡ builtin_field L s r c (Some d)
  field-repeated e = rw (eq-eqb d.shape.label repeated e, builtin_field)

  module _ (o : d.shape.label ≡ repeated → ⊥) (x : Result Body Refusal) (q : x ≡ builtin_on L s r d.shape c) where
    field_is : built_of d.shape x ≡ builtin_field L s r c (Some d)
    field_is = rw (ne_eqb d.shape.label repeated o, builtin_field) (ap (built_of d.shape) q)

    pub field_fits : (b : Body) → x ≡ Ok b → Ok (Some (built d.shape b)) ≡ builtin_field L s r c (Some d)
    field_fits b g = sym (ap (built_of d.shape) g) ∙ field_is

    pub field-misfit : (w : Refusal) → x ≡ Err w → Err w ≡ builtin_field L s r c (Some d)
    field-misfit w g = sym (ap (built_of d.shape) g) ∙ field_is

pub ruleset field_laws = (field-repeated, field_fits, field-misfit)

-- ---- builtin_of
module _ (L : Lookups) (s r m : List ℕ) (p : LookupScope) (n : List ℕ) (c : Constants) (b : Bool) (q : b ≡ is_skipped m n) where
  pub of-skipped : b ≡ true → Ok None ≡ builtin_of L s r (record { name = m; place = p }) n c
  unfolding builtin_of
  of-skipped g = simp (builtin_of, ← q, g)

  module _ (g : b ≡ false) (x : Option Declaration) (y : x ≡ declared (field_named s n p)) where
    of_field : builtin_field L s r c (field_named s n p) ≡ builtin_of L s r (record { name = m; place = p }) n c
    unfolding builtin_of
    of_field = simp (builtin_of, ← q, g)

    pub of_none : x ≡ None → Err BuiltinOptionNotFound ≡ builtin_of L s r (record { name = m; place = p }) n c
    of_none e = sym (ap (builtin_field L s r c) (declared-none x (field_named s n p) y e)) ∙ of_field

    pub of-found : (d : Declaration) → x ≡ Some d → (z : Result (Option Built) Refusal) → z ≡ builtin_field L s r c (Some d)
        → z ≡ builtin_of L s r (record { name = m; place = p }) n c
    of-found d e z o = o ∙ sym (ap (builtin_field L s r c) (declared-some x (field_named s n p) y d e)) ∙ of_field

pub ruleset of_laws = (of-skipped, of_none, of-found, field-path-ordered, field-path-within)
