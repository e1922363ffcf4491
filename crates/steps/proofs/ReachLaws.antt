-- What a part leads to: the ways through `left_on`, `behind`, `why_of`, `led` and `reach_of`, over any look-ups.
-- Assumes nothing.
use Rattle.std.specs.Prelude.{◌≡◌, List, ℕ, Err, None, Some, Ok, Option, Result}
use Rattle.basis.specs.Kit.{sym, ap, ◌∙◌}
use Rattle.basis.proofs.Kit.{eq-eqb, ne_eqb}
use Rattle.reply.specs.declared.Refusal.{Refusal}
use Rattle.reply.specs.declared.Refusal.TheVariants.{WrongExtensionType, ExtensionIsNotMessage, UnknownFieldName}
use Rattle.field.specs.Leaf.{text}
use Rattle.types.specs.Types.{TYPE_GROUP, TYPE_MESSAGE}
use Rattle.sheet.specs.declared.declaration.Declaration.{Declaration}
use Rattle.sheet.specs.declared.declaration.Shape.{Shape}
use Rattle.scope.specs.declared.lookup.LookupScope.{LookupScope}
use Rattle.search.specs.declared.extension.Candidate.{Candidate}
use Rattle.request.specs.declared.name.Part.{Part}
use Rattle.request.specs.Name.{part_at}
use Rattle.optionform.proofs.PartsLaws.{fine_part_laws}
use Rattle.lookups.specs.Lookups.{Lookups}
use Rattle.steps.specs.declared.Lack.{Lack}
use Rattle.steps.specs.declared.Lack.TheVariants.{NoField, NoExtension, OtherMessage}
use Rattle.steps.specs.declared.Reach.{Reach}
use Rattle.steps.specs.declared.Reach.TheVariants.{Constant, Inside, Nothing}
use Rattle.steps.specs.Steps.{why_of, step_of}
use Rattle.steps.proofs.LedLaws.{led-nothing, led-step}
use Rattle.steps.proofs.StepLaws.{step-path-ordered, step-path-within}
use Rattle.steps.specs.inner.Reached.{message, entered, left_on, followed, behind, stepped, first_part, reach_of}

-- ---- left_on
module _ (L : Lookups) (s : List ℕ) (h : Shape) (at t : ℕ) (k : t ≡ h.typ) where
  module _ (x : t ≡ TYPE_MESSAGE) (v : Result LookupScope Refusal) (q : v ≡ L.message (text s h.path)) where
    left-entered : left_on L s h at ≡ entered h at v
    unfolding left_on
    left-entered = simp (left_on, ← k, eq-eqb t TYPE_MESSAGE x, q)

    pub left-none : (w : Refusal) → v ≡ Err w → Err w ≡ left_on L s h at
    left-none w g = sym (left-entered ∙ ap (entered h at) g)

    pub left-inside : (p : LookupScope) → v ≡ Ok p → Ok (Inside h p at) ≡ left_on L s h at
    left-inside p g = sym (left-entered ∙ ap (entered h at) g)

  module _ (x : t ≡ TYPE_MESSAGE → ⊥) where
    pub left-group : t ≡ TYPE_GROUP → Ok Nothing ≡ left_on L s h at
    unfolding left_on
    left-group y = simp (left_on, ← k, ne_eqb t TYPE_MESSAGE x, eq-eqb t TYPE_GROUP y)

    pub left-scalar : (t ≡ TYPE_GROUP → ⊥) → Err ExtensionIsNotMessage ≡ left_on L s h at
    unfolding left_on
    left-scalar y = simp (left_on, ← k, ne_eqb t TYPE_MESSAGE x, ne_eqb t TYPE_GROUP y)

pub ruleset left_laws = (left-none, left-inside, left-group, left-scalar)

-- ---- behind
module _ (L : Lookups) (s r : List ℕ) (h : Shape) (at end : ℕ) (v : Option Part) (q : v ≡ part_at r at end) where
  behind-followed : behind L s r h at end ≡ followed L s h at v
  unfolding behind
  behind-followed = ap (followed L s h at) (sym q)

  pub behind-constant : v ≡ None → Ok (Constant h at) ≡ behind L s r h at end
  behind-constant g = sym (behind-followed ∙ ap (followed L s h at) g)

  pub behind-part : (p : Part) → v ≡ Some p → (u : Result Reach Refusal) → u ≡ left_on L s h at → u ≡ behind L s r h at end
  behind-part p g u e = e ∙ sym (behind-followed ∙ ap (followed L s h at) g)

pub ruleset behind_laws = (behind-constant, behind-part)

-- ---- why_of
module _ (l : Lack) where
  pub why-field : l ≡ NoField → UnknownFieldName ≡ why_of l
  why-field g = ap why_of (sym g)

  pub why-extension : (w : Refusal) → l ≡ NoExtension w → w ≡ why_of l
  why-extension w g = ap why_of (sym g)

  pub why-other : (c : Candidate) → l ≡ OtherMessage c → WrongExtensionType ≡ why_of l
  why-other c g = ap why_of (sym g)

pub ruleset why_laws = (why-field, why-extension, why-other)

-- ---- led
module _ (L : Lookups) (s r : List ℕ) (from to : ℕ) (v : Result Declaration Lack) where
  pub led-fails : (l : Lack) → v ≡ Err l → (w : Refusal) → w ≡ why_of l → Err w ≡ stepped L s r from to v
  led-fails l z w e = rw e (sym (ap (stepped L s r from to) z))

  pub led-behind : (d : Declaration) → v ≡ Ok d → (y : Result Reach Refusal) → y ≡ behind L s r d.shape from to → y ≡ stepped L s r from to v
  led-behind d z y o = o ∙ sym (ap (stepped L s r from to) z)

pub ruleset led_laws = (led-fails, led-behind, step-path-ordered, step-path-within)

-- ---- reach_of
module _ (L : Lookups) (s r scope n : List ℕ) (c : LookupScope) (from to : ℕ) (v : Option Part) (q : v ≡ part_at r from to) where
  reach-first : reach_of L s r scope (message n c) from to ≡ first_part L s r scope (message n c) to v
  unfolding reach_of
  reach-first = ap (first_part L s r scope (message n c) to) (sym q)

  pub reach-none : v ≡ None → Ok Nothing ≡ reach_of L s r scope (message n c) from to
  reach-none g = sym (reach-first ∙ ap (first_part L s r scope (message n c) to) g)

  pub reach-led : (p : Part) → v ≡ Some p → (u : Result Declaration Lack) → u ≡ step_of L s r scope (message n c) p → (y : Result Reach Refusal)
      → y ≡ stepped L s r p.name.to to u → y ≡ reach_of L s r scope (message n c) from to
  reach-led p g u e y o =
      o ∙ sym (reach-first ∙ ap (first_part L s r scope (message n c) to) g ∙ ap (stepped L s r p.name.to to) (sym e))

pub ruleset reach_laws = (reach-none, reach-led, led-nothing, led-step, fine_part_laws)
