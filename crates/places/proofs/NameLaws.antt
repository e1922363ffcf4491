-- The part of a query's name that is at fault.
-- Assumes nothing.
use Rattle.std.specs.Prelude.{◌≡◌, refl, Bool, true, false, List, [], ◌∷◌, ℕ, ◌+◌, eqb, Err, Ok, Result}
use Rattle.basis.specs.Kit.{sym, ◌∙◌}
use mathlib.Core.Path.{subst}
use native.Mathlib.Nat.{zero-add}
use borrow.Author.Tests.{eqb-true}
use Rattle.basis.proofs.Never.{never}
use Rattle.reply.specs.declared.Refusal.{Refusal}
use Rattle.reply.specs.declared.Refusal.TheVariants.{ExtensionIsNotMessage}
use Rattle.field.specs.Leaf.{text}
use Rattle.types.specs.Types.{TYPE_GROUP, TYPE_MESSAGE}
use Rattle.sheet.specs.declared.declaration.Declaration.{Declaration}
use Rattle.request.specs.declared.name.Part.{Part}
use Rattle.lookups.specs.Lookups.{Lookups, Message}
use Rattle.steps.specs.Steps.{why_of, step_of}
use Rattle.naming.specs.Name as name
use Rattle.naming.specs.Name.{Named, names, group, refused_at, also, declarations}
use Rattle.places.specs.Parts.{lacks, no-message, not-message, AtPart}
use Rattle.places.specs.Places.{NothingBehind}
use Rattle.places.proofs.PartLaws.{other, PartFault, fault-here, fault-inside}
use Rattle.scope.specs.declared.lookup.LookupScope.{LookupScope}
use Rattle.steps.specs.declared.Lack.{Lack}

module _ (L : Lookups) (s q : List ℕ) where
  abbrev Misnamed : (i : ℕ) → Message → List Part → (part : ℕ) → Refusal → Type 0
  Misnamed i m ps k w = PartFault L s q [] NothingBehind i m ps k w

  module _ (k : ℕ) (w : Refusal) where
    misnamed-same : (i : ℕ) (m : Message) (ps : List Part) (i' : ℕ) (v : Refusal) → refused_at i' v ≡ refused_at k w
        → Misnamed i m ps i' v → Misnamed i m ps k w
    misnamed-same i m ps i' v e u =
        let x : i' ≡ k = cc in
        let y : v ≡ w = cc in
        rw (← x, ← y) u

    module _ (i : ℕ) (m : Message) (p o : Part) (ps : List Part) (more : Message → Named)
        (deeper : (n : Message) → more n ≡ refused_at k w → Misnamed (i + 1) n (o ∷ ps) k w) where
      also-refused : (d : Declaration) (v : Named) → also d v ≡ refused_at k w → v ≡ refused_at k w
      also-refused d (names ds) e = never cc
      also-refused d group e = never cc
      also-refused d (refused_at j v) e = e

      module _ (d : Declaration) (g : step_of L s q [] m p ≡ Ok d) where
        entered-name : d.shape.typ ≡ TYPE_MESSAGE → (u : Result LookupScope Refusal) → L.message (text s d.shape.path) ≡ u
            → name.on_message i (text s d.shape.path) u (λ n. also d (more n)) ≡ refused_at k w → Misnamed i m (p ∷ o ∷ ps) k w
        entered-name t (Err v) h e = misnamed-same i m (p ∷ o ∷ ps) i v e (fault-here L s q [] (no-message g t h))
        entered-name t (Ok x) h e =
            let n : Message = record { name = text s d.shape.path; place = x } in
            fault-inside L s q [] (record { declaration = d; found = g; message = t; path = refl; one = h })
            (deeper n (also-refused d (more n) e))

        outside-name : (d.shape.typ ≡ TYPE_MESSAGE → ⊥) → (b : Bool) → eqb d.shape.typ TYPE_GROUP ≡ b
            → elim b [ true ↦ group | false ↦ refused_at i ExtensionIsNotMessage ] ≡ refused_at k w → Misnamed i m (p ∷ o ∷ ps) k w
        outside-name n true h e = never cc
        outside-name n false h e =
            misnamed-same i m (p ∷ o ∷ ps) i ExtensionIsNotMessage e
            (fault-here L s q [] (not-message g n (other d.shape.typ TYPE_GROUP h)))

        left-name : (b : Bool) → eqb d.shape.typ TYPE_MESSAGE ≡ b
            → elim b [
              | true ↦ name.on_message i (text s d.shape.path) (L.message (text s d.shape.path)) (λ n. also d (more n))
              | false ↦ elim (eqb d.shape.typ TYPE_GROUP) [ true ↦ group | false ↦ refused_at i ExtensionIsNotMessage ]
            ] ≡ refused_at k w → Misnamed i m (p ∷ o ∷ ps) k w
        left-name true h e =
            entered-name (eqb-true d.shape.typ TYPE_MESSAGE h) (L.message (text s d.shape.path)) refl e
        left-name false h e = outside-name (other d.shape.typ TYPE_MESSAGE h) (eqb d.shape.typ TYPE_GROUP) refl e

      followed-name : (v : Result Declaration Lack) → step_of L s q [] m p ≡ v
          → name.on_step i v (λ d. name.left L s q i d (λ n. also d (more n))) ≡ refused_at k w → Misnamed i m (p ∷ o ∷ ps) k w
      followed-name (Err l) g e = misnamed-same i m (p ∷ o ∷ ps) i (why_of l) e (fault-here L s q [] (lacks g))
      followed-name (Ok d) g e = left-name d g (eqb d.shape.typ TYPE_MESSAGE) refl e

    last_name : (i : ℕ) (m : Message) (p : Part) (v : Result Declaration Lack) → step_of L s q [] m p ≡ v
        → name.on_step i v (λ d. names (d ∷ [])) ≡ refused_at k w → Misnamed i m (p ∷ []) k w
    last_name i m p (Err l) g e = misnamed-same i m (p ∷ []) i (why_of l) e (fault-here L s q [] (lacks g))
    last_name i m p (Ok d) g e = never cc

    name-fault : (i : ℕ) (m : Message) (ps : List Part) → declarations L s q i m ps ≡ refused_at k w → Misnamed i m ps k w
    name-fault i m [] e = never cc
    name-fault i m (p ∷ []) e = last_name i m p (step_of L s q [] m p) refl e
    name-fault i m (p ∷ o ∷ ps) e =
        followed-name i m p o ps (λ n. declarations L s q (i + 1) n (o ∷ ps)) (λ n. name-fault (i + 1) n (o ∷ ps))
        (step_of L s q [] m p) refl e

    pub query-fault : (m : Message) (ps : List Part) → declarations L s q 0 m ps ≡ refused_at k w
        → AtPart L s q [] NothingBehind m ps k w
    query-fault m ps e =
        let u = name-fault 0 m ps e in
        subst (λ (x : ℕ). AtPart L s q [] NothingBehind m ps x w) (sym (u.is ∙ zero-add u.position)) u.at
