-- The part of a name that is at fault; of an option in full.
--
--   PartFault Ends i m ps k w <-> w is the refusal of the k-th part, where the parts ps begin with the i-th, from the message m on
--
-- Assumes nothing.
use Rattle.std.specs.Prelude.{◌≡◌, refl, Bool, true, false, List, [], ◌∷◌, ℕ, suc, ◌+◌, ◌<◌, eqb, length, Option, None, Some, Err, Ok, Result}
use Rattle.basis.specs.Kit.{sym, ap, ◌∙◌}
use Rattle.basis.specs.First.{told}
use Rattle.basis.proofs.Kit.{arith, eq-eqb}
use mathlib.Core.Path.{subst}
use native.Mathlib.Nat.{zero-add}
use lib.ListN.{length-append}
use borrow.Author.Tests.{eqb-true}
use Rattle.basis.proofs.Never.{never}
use Rattle.reply.specs.declared.Refusal.{Refusal}
use Rattle.reply.specs.declared.Refusal.TheVariants.{ExtensionIsNotMessage}
use Rattle.field.specs.Leaf.{text}
use Rattle.types.specs.Types.{TYPE_GROUP, TYPE_MESSAGE}
use Rattle.sheet.specs.declared.declaration.Shape.{Shape}
use Rattle.sheet.specs.declared.declaration.Declaration.{Declaration}
use Rattle.request.specs.declared.name.Part.{Part}
use Rattle.request.specs.Tree.{Constants}
use Rattle.request.specs.Request.{RequestOption}
use Rattle.records.specs.Records.{nil}
use Rattle.records.specs.Made.{Made, made, wrong, holding}
use Rattle.lookups.specs.Lookups.{Lookups, Message}
use Rattle.values.specs.Values.{on, records}
use Rattle.builtins.specs.declared.Built.{Built}
use Rattle.builtins.specs.Builtins.{builtin_of}
use Rattle.steps.specs.Steps.{why_of, step_of}
use Rattle.faults.specs.declared.Fault.{Fault}
use Rattle.options.specs.Named.{at, on_step, left, reached, option_from}
use Rattle.faults.specs.Faults.{fault_at}
use Rattle.options.specs.Settle.{fails, settled_built, settled, builtin_part, settle}
use Rattle.places.specs.Parts.{Means, here, inside, Blamed, lacks, no-message, not-message, ends, AtPart, OnLast, FaultOf, builtin, named}
use Rattle.scope.specs.declared.lookup.LookupScope.{LookupScope}
use Rattle.steps.specs.declared.Lack.{Lack}

pub other : (a b : ℕ) → eqb a b ≡ false → a ≡ b → ⊥
other a b h e = let y = eq-eqb a b e in never cc

module _ (L : Lookups) (s r scope : List ℕ) where
  pub at-below : {Ends : Shape → Refusal → Type 0} {m : Message} {ps : List Part} {j : ℕ} {w : Refusal}
      → AtPart L s r scope Ends m ps j w → j < length ps
  at-below {ps = ps} k =
      let sum : length ps ≡ length k.before + length (k.part ∷ k.behind) = ap length k.parts ∙ length-append k.before (k.part ∷ k.behind) in
      omega (arith, sum, k.position)

  pub record PartFault (Ends : Shape → Refusal → Type 0) (i : ℕ) (m : Message) (ps : List Part) (k : ℕ) (w : Refusal) : Type 0 where
    pub position : ℕ
    pub is : k ≡ i + position
    pub at : AtPart L s r scope Ends m ps position w

  module _ {Ends : Shape → Refusal → Type 0} {i : ℕ} {m : Message} {p : Part} {qs : List Part} {w : Refusal} where
    pub fault-here : Blamed L s r scope Ends m p qs w → PartFault Ends i m (p ∷ qs) i w
    fault-here b = record {
      position = 0;
      is = omega arith;
      at = record { before = []; part = p; behind = qs; parts = refl; position = refl; reached = m; leads = here; blamed = b };
    }

    pub fault-inside : {n : Message} {k : ℕ} → Means L s r scope m p n → PartFault Ends (i + 1) n qs k w → PartFault Ends i m (p ∷ qs) k w
    fault-inside y u = record {
      position = suc u.position;
      is = omega (arith, u.is);
      at = record {
        before = p ∷ u.at.before;
        part = u.at.part;
        behind = u.at.behind;
        parts = ap (λ (x : List Part). p ∷ x) u.at.parts;
        position = ap suc u.at.position;
        reached = u.at.reached;
        leads = inside y u.at.leads;
        blamed = u.at.blamed;
      };
    }

  -- ---- an option
  module _ (c : Constants) where
    abbrev Faulty : (i : ℕ) → Message → List Part → Fault → Type 0
    Faulty i m ps f = PartFault (OnLast L s r scope c) i m ps f.part f.why

    -- the last part
    module _ (i : ℕ) (m : Message) (p : Part) (f : Fault) where
      constant-fault : (d : Declaration) → step_of L s r scope m p ≡ Ok d → (v : Made Refusal)
          → records L s r (on d.shape) c ≡ v → at i v ≡ wrong f → Faulty i m (p ∷ []) f
      constant-fault d g (made x) h e = never cc
      constant-fault d g (wrong w) h e =
          let y : fault_at i w ≡ f = cc in
          subst (Faulty i m (p ∷ [])) y (fault-here (ends g h))

      last-fault : (v : Result Declaration Lack) → step_of L s r scope m p ≡ v → on_step i v (λ d. at i (records L s r (on d.shape) c)) ≡ wrong f
          → Faulty i m (p ∷ []) f
      last-fault (Err l) g e =
          let y : fault_at i (why_of l) ≡ f = cc in
          subst (Faulty i m (p ∷ [])) y (fault-here (lacks g))
      last-fault (Ok d) g e = constant-fault d g (records L s r (on d.shape) c) refl e

    -- a part that others follow, `more` being what those come to
    module _ (i : ℕ) (m : Message) (p q : Part) (ps : List Part) (f : Fault) (more : Message → Made Fault)
        (deeper : (n : Message) → more n ≡ wrong f → Faulty (i + 1) n (q ∷ ps) f) where
      held : (n : ℕ) (v : Made Fault) → holding n v ≡ wrong f → v ≡ wrong f
      held n (made x) e = never cc
      held n (wrong g) e = let y : g ≡ f = cc in ap wrong y

      module _ (d : Declaration) (g : step_of L s r scope m p ≡ Ok d) where
        entered-fault : d.shape.typ ≡ TYPE_MESSAGE → (u : Result LookupScope Refusal) → L.message (text s d.shape.path) ≡ u
            → reached i d.shape.number (text s d.shape.path) u more ≡ wrong f → Faulty i m (p ∷ q ∷ ps) f
        entered-fault t (Err w) h e =
            let y : fault_at i w ≡ f = cc in
            subst (Faulty i m (p ∷ q ∷ ps)) y (fault-here (no-message g t h))
        entered-fault t (Ok x) h e =
            let n : Message = record { name = text s d.shape.path; place = x } in
            fault-inside (record { declaration = d; found = g; message = t; path = refl; one = h })
            (deeper n (held d.shape.number (more n) e))

        outside-fault : (d.shape.typ ≡ TYPE_MESSAGE → ⊥) → (b : Bool) → eqb d.shape.typ TYPE_GROUP ≡ b
            → elim b [ true ↦ made nil | false ↦ wrong (fault_at i ExtensionIsNotMessage) ] ≡ wrong f → Faulty i m (p ∷ q ∷ ps) f
        outside-fault n true h e = never cc
        outside-fault n false h e =
            let y : fault_at i ExtensionIsNotMessage ≡ f = cc in
            subst (Faulty i m (p ∷ q ∷ ps)) y (fault-here (not-message g n (other d.shape.typ TYPE_GROUP h)))

        left-fault : (b : Bool) → eqb d.shape.typ TYPE_MESSAGE ≡ b
            → elim b [
              | true ↦ reached i d.shape.number (text s d.shape.path) (L.message (text s d.shape.path)) more
              | false ↦ elim (eqb d.shape.typ TYPE_GROUP) [ true ↦ made nil | false ↦ wrong (fault_at i ExtensionIsNotMessage) ]
            ] ≡ wrong f → Faulty i m (p ∷ q ∷ ps) f
        left-fault true h e =
            entered-fault (eqb-true d.shape.typ TYPE_MESSAGE h) (L.message (text s d.shape.path)) refl e
        left-fault false h e = outside-fault (other d.shape.typ TYPE_MESSAGE h) (eqb d.shape.typ TYPE_GROUP) refl e

      followed-fault : (v : Result Declaration Lack) → step_of L s r scope m p ≡ v → on_step i v (λ d. left L s r scope i d.shape more) ≡ wrong f
          → Faulty i m (p ∷ q ∷ ps) f
      followed-fault (Err l) g e =
          let y : fault_at i (why_of l) ≡ f = cc in
          subst (Faulty i m (p ∷ q ∷ ps)) y (fault-here (lacks g))
      followed-fault (Ok d) g e = left-fault d g (eqb d.shape.typ TYPE_MESSAGE) refl e

    option-fault : (i : ℕ) (m : Message) (ps : List Part) (f : Fault) → option_from L s r scope i m ps c ≡ wrong f → Faulty i m ps f
    option-fault i m [] f e = never cc
    option-fault i m (p ∷ []) f e = last-fault i m p f (step_of L s r scope m p) refl e
    option-fault i m (p ∷ q ∷ ps) f e =
        followed-fault i m p q ps f (λ n. option_from L s r scope (i + 1) n (q ∷ ps) c)
        (λ n. option-fault (i + 1) n (q ∷ ps) f) (step_of L s r scope m p) refl e

  -- ---- what an option comes to
  module _ (m : Message) (o : RequestOption) (f : Fault) where
    built-fault : (p : Part) → builtin_part o.parts ≡ Some p → (v : Result (Option Built) Refusal)
        → builtin_of L s r m (text r p.name) o.constant ≡ v → settled_built r v ≡ fails f → FaultOf L s r scope m o f
    built-fault p g (Ok None) h e = never cc
    built-fault p g (Ok (Some x)) h e = never cc
    built-fault p g (Err w) h e =
        let y : fault_at 0 w ≡ f = cc in
        subst (FaultOf L s r scope m o) y (builtin g h)

    named-fault : builtin_part o.parts ≡ None → (v : Made Fault) → option_from L s r scope 0 m o.parts o.constant ≡ v
        → settled v ≡ fails f → FaultOf L s r scope m o f
    named-fault g (made x) h e = never cc
    named-fault g (wrong k) h e =
        let y : k ≡ f = cc in
        let u = option-fault o.constant 0 m o.parts f (h ∙ ap wrong y) in
        subst (FaultOf L s r scope m o) (ap (λ (x : ℕ). fault_at x f.why) (sym (u.is ∙ zero-add u.position))) (named g u.at)

    settled-fault : (v : Option Part) → builtin_part o.parts ≡ v
        → told (settled (option_from L s r scope 0 m o.parts o.constant))
        (λ p. settled_built r (builtin_of L s r m (text r p.name) o.constant)) v ≡ fails f → FaultOf L s r scope m o f
    settled-fault None g e = named-fault g (option_from L s r scope 0 m o.parts o.constant) refl e
    settled-fault (Some p) g e = built-fault p g (builtin_of L s r m (text r p.name) o.constant) refl e

    pub settle-fault : settle L s r scope m o ≡ fails f → FaultOf L s r scope m o f
    unfolding settle
    settle-fault e = settled-fault (builtin_part o.parts) refl e

  -- its part is one of the option's name
  whole_parts : (ps : List Part) (p : Part) → builtin_part ps ≡ Some p → 0 < length ps
  whole_parts [] p g = never cc
  whole_parts (q ∷ qs) p g = omega arith

  pub fault-below : (m : Message) (o : RequestOption) {f : Fault} → FaultOf L s r scope m o f → f.part < length o.parts
  fault-below m o (builtin {p} g h) = whole_parts o.parts p g
  fault-below m o (named g k) = at-below k
