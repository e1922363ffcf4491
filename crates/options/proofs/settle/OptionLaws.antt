-- What an option comes to by what its first part leads to, over any look-ups.
-- Assumes nothing.
use Rattle.std.specs.Prelude.{◌≡◌, refl, Bool, true, false, List, [], ◌∷◌, ℕ, ◌+◌, eqb, Err, None, Some, Ok, Option, Result}
use Rattle.basis.specs.Kit.{sym, ap, ◌∙◌}
use Rattle.reply.specs.declared.Refusal.TheVariants.{ExtensionIsNotMessage}
use Rattle.field.specs.Leaf.{text}
use Rattle.field.specs.Walk.{walk}
use Rattle.types.specs.Types.{TYPE_GROUP, TYPE_MESSAGE}
use Rattle.sheet.specs.declared.declaration.Shape.{Shape}
use Rattle.request.specs.declared.name.Part.{Part}
use Rattle.request.specs.Name.{part_at, parts_in, after_parts}
use Rattle.request.proofs.PartLaws.{parts-nil, parts-cons, after-parts-here, after-parts-next}
use Rattle.records.specs.Records.{nil}
use Rattle.records.specs.Made.{Made, made, wrong, holding}
use Rattle.lookups.specs.Lookups.{Lookups, Message}
use Rattle.faults.specs.declared.Fault.{Fault}
use Rattle.steps.specs.declared.Reach.{Reach}
use Rattle.steps.specs.declared.Reach.TheVariants.{Constant, Inside, Nothing}
use Rattle.steps.specs.Steps.{step_of}
use Rattle.steps.specs.inner.Reached.{message, entered, left_on, followed, behind, stepped, first_part, reach_of}
use Rattle.options.specs.Named.{at, on_step, reached, left, option_from}
use Rattle.faults.specs.Faults.{fault_at}
use Rattle.options.specs.inner.Written.{constant_at, constant_made, option_made}
use Rattle.reply.specs.declared.Refusal.{Refusal}
use Rattle.scope.specs.declared.lookup.LookupScope.{LookupScope}
use Rattle.sheet.specs.declared.declaration.Declaration.{Declaration}
use Rattle.steps.specs.declared.Lack.{Lack}

module _ (L : Lookups) (s r scope : List ℕ) where
  -- what comes of that to which a part leads
  abbrev pub made_from : (part to : ℕ) → Result Reach Refusal → Made Fault
  made_from i to (Err w) = wrong (fault_at i w)
  made_from i to (Ok Nothing) = made nil
  made_from i to (Ok (Constant h x)) = at i (constant_made L s r h x to)
  made_from i to (Ok (Inside h p x)) = holding h.number (option_made L s r scope (i + 1) (message (text s h.path) p) x to)

  left-made : (i x to : ℕ) (h : Shape)
      → left L s r scope i h (λ n. option_made L s r scope (i + 1) n x to) ≡ made_from i to (left_on L s h x)
  unfolding left_on
  left-made i x to h = go (eqb h.typ TYPE_MESSAGE) (eqb h.typ TYPE_GROUP) (L.message (text s h.path))
    where
      go : (b c : Bool) (u : Result LookupScope Refusal)
          → elim b [
            | true ↦ reached i h.number (text s h.path) u (λ n. option_made L s r scope (i + 1) n x to)
            | false ↦ elim c [ true ↦ made nil | false ↦ wrong (fault_at i ExtensionIsNotMessage) ]
          ]
          ≡ made_from i to (elim b [ true ↦ entered h x u | false ↦ elim c [ true ↦ Ok Nothing | false ↦ Err ExtensionIsNotMessage ] ])
      go true c (Err w) = refl
      go true c (Ok p) = refl
      go false true u = refl
      go false false u = refl

  module _ (i : ℕ) (m : Message) (from to : ℕ) where
    none-there : part_at r from to ≡ None → option_made L s r scope i m from to ≡ made nil
    unfolding option_made
    none-there e =
        ap (λ (ps : List Part). option_from L s r scope i m ps (constant_at r (after_parts from (walk r from to)) to))
        (parts-nil r from to None (sym e) refl)

    module _ (p : Part) (e : part_at r from to ≡ Some p) where
      opened : option_made L s r scope i m from to
          ≡ option_from L s r scope i m (p ∷ parts_in (walk r p.name.to to)) (constant_at r (after_parts p.name.to (walk r p.name.to to)) to)
      unfolding option_made
      opened =
          ap (λ (ps : List Part). option_from L s r scope i m ps (constant_at r (after_parts from (walk r from to)) to))
          (parts-cons r from to (Some p) (sym e) p refl)
          ∙ ap (λ (x : ℕ). option_from L s r scope i m (p ∷ parts_in (walk r p.name.to to)) (constant_at r x to))
          (after-parts-next r from to (Some p) (sym e) p refl)

      alone : part_at r p.name.to to ≡ None
          → option_made L s r scope i m from to ≡ on_step i (step_of L s r scope m p) (λ d. at i (constant_made L s r d.shape p.name.to to))
      unfolding constant_made
      alone z =
          opened
          ∙ ap (λ (ps : List Part). option_from L s r scope i m (p ∷ ps) (constant_at r (after_parts p.name.to (walk r p.name.to to)) to))
          (parts-nil r p.name.to to None (sym z) refl)
          ∙ ap (λ (x : ℕ). option_from L s r scope i m (p ∷ []) (constant_at r x to)) (after-parts-here r p.name.to to None (sym z) refl)

      more : (q : Part) → part_at r p.name.to to ≡ Some q
          → option_made L s r scope i m from to
          ≡ on_step i (step_of L s r scope m p) (λ d. left L s r scope i d.shape (λ n. option_made L s r scope (i + 1) n p.name.to to))
      unfolding option_made
      more q z = opened ∙ rw (parts-cons r p.name.to to (Some q) (sym z) q refl) refl

    option-reached : option_made L s r scope i m from to ≡ made_from i to (reach_of L s r scope m from to)
    unfolding reach_of behind
    option-reached = go (part_at r from to) refl
      where
        last : (x : ℕ) → part_at r x to ≡ None → (u : Result Declaration Lack)
            → on_step i u (λ d. at i (constant_made L s r d.shape x to)) ≡ made_from i to (stepped L s r x to u)
        last x z (Err l) = refl
        last x z (Ok d) = ap (λ (y : Option Part). made_from i to (followed L s d.shape x y)) (sym z)

        further : (x : ℕ) (q : Part) → part_at r x to ≡ Some q → (u : Result Declaration Lack)
            → on_step i u (λ d. left L s r scope i d.shape (λ n. option_made L s r scope (i + 1) n x to)) ≡ made_from i to (stepped L s r x to u)
        further x q z (Err l) = refl
        further x q z (Ok d) =
            left-made i x to d.shape ∙ ap (λ (y : Option Part). made_from i to (followed L s d.shape x y)) (sym z)

        next : (p : Part) → part_at r from to ≡ Some p → (v : Option Part) → part_at r p.name.to to ≡ v
            → option_made L s r scope i m from to ≡ made_from i to (stepped L s r p.name.to to (step_of L s r scope m p))
        next p e None z = alone p e z ∙ last p.name.to z (step_of L s r scope m p)
        next p e (Some q) z = more p e q z ∙ further p.name.to q z (step_of L s r scope m p)

        go : (v : Option Part) → part_at r from to ≡ v → option_made L s r scope i m from to ≡ made_from i to (first_part L s r scope m to (part_at r from to))
        go None e = none-there e ∙ ap (λ (y : Option Part). made_from i to (first_part L s r scope m to y)) (sym e)
        go (Some p) e =
            next p e (part_at r p.name.to to) refl ∙ ap (λ (y : Option Part). made_from i to (first_part L s r scope m to y)) (sym e)

    pub option-of : (v : Result Reach Refusal) → v ≡ reach_of L s r scope m from to → option_made L s r scope i m from to ≡ made_from i to v
    option-of v q = option-reached ∙ ap (made_from i to) (sym q)
