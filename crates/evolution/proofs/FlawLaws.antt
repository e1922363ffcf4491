-- The laws of flaws: the ways through the functions that look at one declaration, or at one number.
-- Assumes nothing.
use Rattle.std.specs.Prelude.{◌≡◌, refl, Bool, true, false, List, ℕ, eqb, Option, Some}
use Rattle.basis.specs.Kit.{sym, ap, ◌∙◌}
use Rattle.basis.specs.Count.{once}
use Rattle.basis.proofs.Kit.{eq-eqb, ne_eqb, not-true, not-false}
use Rattle.field.specs.declared.Span.{Span}
use Rattle.field.specs.Leaf.{span, text}
use Rattle.types.specs.Types.{TYPE_ENUM}
use Rattle.sheet.specs.declared.declaration.Declaration.{Declaration}
use Rattle.sheet.specs.Declaration.{has_type_path}
use Rattle.sheet.specs.Table.{message_tag, enum_tag}
use Rattle.names.specs.Names.{any_kind, every_declared}
use Rattle.names.specs.Numbers.{every_number}
use Rattle.names.specs.Clean.{names_one, clean_path, same_number}
use Rattle.likeness.specs.inner.Likes.{is_like}
use Rattle.census.specs.inner.Census.{bearing, numbered}
use Rattle.reasons.specs.declared.Why.TheVariants as why
use Rattle.reasons.specs.declared.Reason.{Reason}
use Rattle.reasons.specs.Reasons.{reason, or_no, number_flaw}
use Rattle.roster.specs.declared.Bearer.{Bearer}
use Rattle.roster.specs.declared.Bearer.TheVariants.{Message, Enum, Extension}
use Rattle.evolution.specs.inner.Bearers.{number_for, rest_flaw, own_flaw}
use Rattle.evolution.proofs.LiesLaws.{declared_lies_laws, bearer_lies_laws}

-- ---- names_one
pub names_one_is : (s t : List ℕ) (k n : ℕ) → n ≡ bearing k t (every_declared s) → eqb n 1 ≡ names_one s k t
names_one_is s t k n q = rw q refl

-- ---- path_named
module _ (s : List ℕ) (d : Declaration) (t : ℕ) (e : t ≡ d.shape.typ) (b : Bool) (q : b ≡ has_type_path t) where
  pub path-none : b ≡ false → true ≡ clean_path s d
  path-none g = rw (← e, ← q, g) refl

  module _ (g : b ≡ true) (r : Bool) where
    pub path-enum : t ≡ TYPE_ENUM → r ≡ names_one s enum_tag (text s d.shape.path) → r ≡ clean_path s d
    path-enum h p = p ∙ rw (← e, ← q, g, eq-eqb t TYPE_ENUM h) refl

    pub path-message : (t ≡ TYPE_ENUM → ⊥) → r ≡ names_one s message_tag (text s d.shape.path) → r ≡ clean_path s d
    path-message h p = p ∙ rw (← e, ← q, g, ne_eqb t TYPE_ENUM h) refl

pub ruleset path_named_laws = (path-none, path-enum, path-message, declared_lies_laws, not-true, not-false)

-- ---- flaw_of_number
module _ (s m : List ℕ) (d : Declaration) (k n : ℕ) (q : n ≡ numbered m (record { declaration = d; whole = false }) s s) where
  number-once : once (same_number (number_for m d)) (every_number s) ≡ eqb n 1
  unfolding is_like
  number-once = rw q refl

  pub number-shared : (n ≡ 1 → ⊥) → Some (reason why.NumberShared k d.name) ≡ number_flaw s k (number_for m d)
  number-shared h = rw (number-once, ne_eqb n 1 h) refl

  pub number-alone : n ≡ 1 → (b : Bool) → b ≡ clean_path s d → (r : Option Reason) → r ≡ or_no b why.TypeUnclear k d.shape.path
      → r ≡ number_flaw s k (number_for m d)
  number-alone h b p r u = u ∙ rw (number-once, eq-eqb n 1 h, p) refl

pub ruleset number_flaw_laws = (number-shared, number-alone, declared_lies_laws)

-- ---- own_flaw
module _ (s t : List ℕ) (k : ℕ) (b : Bearer) (n : ℕ) (q : n ≡ bearing any_kind t (every_declared s)) where
  pub name-shared : (n ≡ 1 → ⊥) → Some (reason why.NameShared k (span 0 0)) ≡ own_flaw s t k b
  unfolding own_flaw
  name-shared h = rw (← q, ne_eqb n 1 h) refl

  module _ (h : n ≡ 1) (r : Option Reason) where
    rest : r ≡ rest_flaw s k b → r ≡ own_flaw s t k b
    unfolding own_flaw
    rest p = p ∙ rw (← q, eq-eqb n 1 h) refl

    pub own-message : (p : Span) → b ≡ Message p → r ≡ rest_flaw s k (Message p) → r ≡ own_flaw s t k b
    own-message p g u = rest (u ∙ ap (rest_flaw s k) (sym g))

    pub own-enum : (p : Span) → b ≡ Enum p → r ≡ rest_flaw s k (Enum p) → r ≡ own_flaw s t k b
    own-enum p g u = rest (u ∙ ap (rest_flaw s k) (sym g))

    pub own-extension : (d : Declaration) → b ≡ Extension d → (c : Bool) → c ≡ names_one s message_tag (text s d.extendee)
        → r ≡ or_no c why.ExtendeeUnclear k d.extendee → r ≡ own_flaw s t k b
    own-extension d g c v u = rest (u ∙ rw v refl ∙ ap (rest_flaw s k) (sym g))

pub ruleset own_flaw_laws = (name-shared, own-message, own-enum, own-extension, bearer_lies_laws, declared_lies_laws)
