-- The laws of a loop over the fields of a message that looks for the first reason, whatever that is of a declaration.
-- Assumes nothing.
use Rattle.std.specs.Prelude.{◌≡◌, refl, true, false, List, ◌++◌, ℕ, eqb, Some, None, Option}
use Rattle.basis.specs.Kit.{sym, ap, ◌∙◌}
use Rattle.field.specs.declared.Span.{Span}
use Rattle.field.specs.Walk.{Walk, done, cut, step, walk}
use Rattle.field.proofs.Seek.{seek, seek_is}
use Rattle.field.proofs.InFields.{sought_laws}
use Rattle.sheet.specs.declared.declaration.Declaration.{Declaration}
use Rattle.sheet.specs.Table.{field_tag}
use Rattle.sheet.specs.Declaration.{message_field_at}
use Rattle.sheet.specs.Tree.{items_in}
use Rattle.sheet.specs.Members.{fields_of}
use Rattle.sheet.proofs.MemberLaws.{listed, fields-item}
use Rattle.scope.specs.inner.Steps.{declaration_at}
use Rattle.reasons.specs.declared.Reason.{Reason}
use Rattle.reasons.specs.Reasons.{also, reasons}
use Rattle.reasons.proofs.ReasonLaws.{also-no}
use Rattle.evolution.specs.inner.Bearers.{on_declared, fields_at}

-- ---- a reason that was found is the first
pub also-stays : (r : Option Reason) (w : Reason) → r ≡ Some w → (q : Option Reason) → also r q ≡ r
also-stays r w g q = rw g refl

-- ---- one field
module _ (f : Declaration → Option Reason) (r x : Option Declaration) (q : r ≡ x) where
  pub declared-none : r ≡ None → None ≡ on_declared f x
  declared-none g = rw (← q, g) refl

  pub declared-one : (d : Declaration) → r ≡ Some d → (u : Option Reason) → u ≡ f d → u ≡ on_declared f x
  declared-one d g u p = p ∙ rw (← q, g) refl

pub ruleset declared_laws = (declared-none, declared-one)

-- ---- all of them
abbrev pub field_reason : (Declaration → Option Reason) → (s : List ℕ) (tag from to : ℕ) → Option Reason
field_reason f s t a e = on_declared f (declaration_at field_tag s t a e)

module _ (f : Declaration → Option Reason) where
  listed-reason : (x : Option Declaration) (ds : List Declaration) → reasons f (listed x ++ ds) ≡ also (on_declared f x) (reasons f ds)
  listed-reason None ds = refl
  listed-reason (Some d) ds = refl

  pub fields-is : (s : List ℕ) (p : Span) (r : Option Reason) → r ≡ seek None also (field_reason f s) (walk s p.from p.to)
      → r ≡ reasons f (fields_at s p)
  unfolding items_in declaration_at
  fields-is s p r q =
      q ∙ sym (seek_is None also (field_reason f s) (λ w. reasons f (fields_of (items_in 0 s w))) refl refl
      (λ t a e w. ap (reasons f) (fields-item 0 s t a e (items_in 0 s w)) ∙ listed-reason (elim (eqb t field_tag) [ true ↦ message_field_at s a e | false ↦ None ]) (fields_of (items_in 0 s w)))
      (walk s p.from p.to))

pub ruleset fields_laws = (fields-is, also-no, sought_laws)

-- the fields of a message do not depend on how deep messages may lie in it
pub fields-any : (d d' : ℕ) (s : List ℕ) (w : Walk) → fields_of (items_in d s w) ≡ fields_of (items_in d' s w)
unfolding items_in
fields-any d d' s done = refl
fields-any d d' s cut = refl
fields-any d d' s (step t a e w) =
    fields-item d s t a e (items_in d s w)
    ∙ ap (λ x. listed (elim (eqb t field_tag) [ true ↦ message_field_at s a e | false ↦ None ]) ++ x) (fields-any d d' s w)
    ∙ sym (fields-item d' s t a e (items_in d' s w))
