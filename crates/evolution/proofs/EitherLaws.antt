-- The laws of reasons, whatever is asked: the ways through the functions that look at one declaration, and that what they look at is what the
-- sheet declares.
-- Assumes nothing.
use Rattle.std.specs.Prelude.{◌≡◌, refl, List, [], ◌∷◌, map, ℕ, Option, Some, None}
use Rattle.basis.specs.Kit.{sym, ap, ◌∙◌}
use mathlib.Core.Path.{ap₂}
use Rattle.field.specs.declared.Span.{Span}
use Rattle.field.specs.Leaf.{span, text}
use Rattle.field.specs.Walk.{walk}
use Rattle.sheet.specs.declared.declaration.Declaration.{Declaration}
use Rattle.sheet.specs.declared.declaration.Value.{Value}
use Rattle.sheet.specs.Table.{field_tag, message_tag}
use Rattle.sheet.specs.Tree.{items_in}
use Rattle.sheet.specs.Members.{fields_of}
use Rattle.scope.specs.Scope.{Scope}
use Rattle.names.specs.Names.{What, message, enumeration, extension, any_kind}
use Rattle.names.specs.Numbers.{Number}
use Rattle.names.specs.Clean.{names_one}
use Rattle.names.proofs.StandsLaws.{Stands}
use Rattle.reasons.specs.declared.Why.TheVariants as why
use Rattle.reasons.specs.declared.Reason.{Reason}
use Rattle.reasons.specs.Reasons.{also, or_no, reasons, member_flaws, number_flaw, number_loss}
use Rattle.reasons.specs.inner.Members.{members_in}
use Rattle.reasons.proofs.ReasonLaws.{also-assoc}
use Rattle.reasons.proofs.MemberLaws.{members-fields, members-values}
use Rattle.roster.specs.declared.Bearer.{Bearer}
use Rattle.roster.specs.declared.Bearer.TheVariants.{Message, Enum, Extension}
use Rattle.roster.specs.inner.Nth.{shown}
use Rattle.evolution.specs.declared.first.Question.{Question}
use Rattle.evolution.specs.declared.first.Question.TheVariants.{Clean, Contained}
use Rattle.evolution.specs.inner.Bearers.{number_for, fields_at, own_flaw, name_loss, own_loss, number_reason, own_reason, numbers_reason}
use Rattle.evolution.specs.inner.Bearers.{bearer_reason, reason_of}
use Rattle.evolution.proofs.LiesLaws.{field-lies, bearer_lies_laws}
use Rattle.evolution.proofs.FieldLaws.{also-stays, declared_laws, fields-any}

-- ---- number_reason
module _ (q : Question) (s t : List ℕ) (k : ℕ) (x : Number) (r : Option Reason) where
  pub number-clean : q ≡ Clean → r ≡ number_flaw s k x → r ≡ number_reason q s t k x
  number-clean g u = u ∙ rw g refl

  pub number-contained : q ≡ Contained → r ≡ number_loss s t k x → r ≡ number_reason q s t k x
  number-contained g u = u ∙ rw g refl

pub ruleset number_reason_laws = (number-clean, number-contained)

pub ruleset field_reason_laws = (declared_laws, field-lies)

-- ---- own_reason
module _ (q : Question) (s t x : List ℕ) (k : ℕ) (b : Bearer) (r : Option Reason) where
  pub own-clean : q ≡ Clean → r ≡ own_flaw s x k b → r ≡ own_reason q s t x k b
  own-clean g u = u ∙ rw g refl

  pub own-contained : q ≡ Contained → r ≡ own_loss t x k b → r ≡ own_reason q s t x k b
  own-contained g u = u ∙ rw g refl

pub ruleset own_reason_laws = (own-clean, own-contained)

-- ---- numbers_reason
module _ (q : Question) (s t x : List ℕ) (k : ℕ) (b : Bearer) where
  pub numbers-message : (p : Span) → b ≡ Message p → (r : Option Reason) → r ≡ reasons (λ d. number_reason q s t k (number_for x d)) (fields_at s p)
      → r ≡ numbers_reason q s t x k b
  numbers-message p g r u = u ∙ ap (numbers_reason q s t x k) (sym g)

  pub numbers-enum : (p : Span) → b ≡ Enum p → None ≡ numbers_reason q s t x k b
  numbers-enum p g = ap (numbers_reason q s t x k) (sym g)

  pub numbers-extension : (d : Declaration) → b ≡ Extension d → (r : Option Reason)
      → r ≡ number_reason q s t k (number_for (text s d.extendee) d) → r ≡ numbers_reason q s t x k b
  numbers-extension d g r u = u ∙ ap (numbers_reason q s t x k) (sym g)

pub ruleset numbers_reason_laws = (numbers-message, numbers-enum, numbers-extension, bearer_lies_laws)

-- ---- reason_of
module _ (q : Question) (s t x : List ℕ) (k : ℕ) (b : Bearer) (r : Option Reason) (u : r ≡ own_reason q s t x k b) where
  pub reason-own : (w : Reason) → r ≡ Some w → Some w ≡ bearer_reason q s t x k b
  unfolding bearer_reason
  reason-own w g = sym g ∙ sym (also-stays r w g (numbers_reason q s t x k b)) ∙ rw u refl

  pub reason-numbers : r ≡ None → (v : Option Reason) → v ≡ numbers_reason q s t x k b → v ≡ bearer_reason q s t x k b
  unfolding bearer_reason
  reason-numbers g v e = e ∙ rw (← u, g) refl

pub ruleset reason_of_laws = (reason-own, reason-numbers)

-- ---- what bears a name is what the sheet declares
also-yes : (r : Option Reason) → also r None ≡ r
also-yes None = refl
also-yes (Some w) = refl

reasons-map : {A B : Type 0} (f : B → Option Reason) (g : A → B) (xs : List A) → reasons f (map g xs) ≡ reasons (λ x. f (g x)) xs
reasons-map f g [] = refl
reasons-map f g (x ∷ xs) = ap (also (f (g x))) (reasons-map f g xs)

abbrev Holds : (s : List ℕ) → Scope → Type 0
Holds s c = c.items ≡ items_in c.place.left s (walk s c.place.body.from c.place.body.to)

members-stand : (s : List ℕ) (c : Scope) → Holds s c
    → members_in field_tag s (walk s c.place.body.from c.place.body.to) ≡ map (λ (d : Declaration). d.name) (fields_of c.items)
members-stand s c h =
    members-fields c.place.left s (walk s c.place.body.from c.place.body.to)
    ∙ ap (λ i. map (λ (d : Declaration). d.name) (fields_of i)) (sym h)

numbers-stand : (f : Number → Option Reason) (s t : List ℕ) (c : Scope) → Holds s c
    → reasons (λ d. f (number_for t d)) (fields_at s c.place.body) ≡ reasons f (map (number_for t) (fields_of c.items))
numbers-stand f s t c h =
    ap (reasons (λ d. f (number_for t d)))
    (fields-any 0 c.place.left s (walk s c.place.body.from c.place.body.to) ∙ ap fields_of (sym h))
    ∙ sym (reasons-map f (number_for t) (fields_of c.items))

module _ (s t x : List ℕ) (k : ℕ) where
  abbrev named : Option Reason
  named = or_no (names_one s any_kind x) why.NameShared k (span 0 0)

  pub reason-stands : (q : Question) (w : What) → Stands s w → bearer_reason q s t x k (shown w) ≡ reason_of q s t k (record { name = x; what = w })
  unfolding bearer_reason own_flaw own_loss name_loss
  reason-stands Clean (message c) (l, h) =
      ap₂ (λ m n. also (also named (member_flaws s why.FieldShared k m)) n) (members-stand s c h) (numbers-stand (number_flaw s k) s x c h)
      ∙ also-assoc named _ _
  reason-stands Clean (enumeration e) (l, h) =
      ap (λ m. also (also named (member_flaws s why.ValueShared k m)) None)
      (members-values s (walk s e.body.from e.body.to) ∙ ap (map (λ (v : Value). v.name)) (sym h))
      ∙ also-assoc named _ _
  reason-stands Clean (extension d) h =
      let n : Number = number_for (text s d.extendee) d in
      also-assoc named (or_no (names_one s message_tag (text s d.extendee)) why.ExtendeeUnclear k d.extendee) (number_flaw s k n)
      ∙ ap (λ r. also named (also (or_no (names_one s message_tag (text s d.extendee)) why.ExtendeeUnclear k d.extendee) r))
      (sym (also-yes (number_flaw s k n)))
  reason-stands Contained (message c) (l, h) =
      ap (also (name_loss t x message_tag why.MessageLost k)) (numbers-stand (number_loss s t k) s x c h)
  reason-stands Contained (enumeration e) h = refl
  reason-stands Contained (extension d) h = sym (also-yes (number_loss s t k (number_for (text s d.extendee) d)))
