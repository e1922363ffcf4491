-- Where that lies to which a part leads: further on in the request, and in the sheet.
-- Assumes nothing.
use Rattle.std.specs.Prelude.{◌≡◌, refl, Bool, true, false, List, ℕ, eqb, Err, None, Some, Ok, Option, Result}
use Rattle.basis.specs.Kit.{sym}
use Rattle.basis.proofs.Kit.{arith}
use mathlib.Core.Path.{subst}
use Rattle.basis.proofs.Never.{never}
use Rattle.reply.specs.declared.Refusal.{Refusal}
use Rattle.reply.specs.declared.Refusal.TheVariants.{ExtensionIsNotMessage}
use Rattle.field.specs.Leaf.{text}
use Rattle.types.specs.Types.{TYPE_GROUP, TYPE_MESSAGE}
use Rattle.sheet.specs.declared.declaration.Shape.{Shape}
use Rattle.scope.specs.declared.lookup.LookupScope.{LookupScope}
use Rattle.scope.specs.inner.Answers.{InSheet}
use Rattle.request.specs.declared.name.Part.{Part}
use Rattle.request.specs.Name.{part_at}
use Rattle.request.proofs.PartLaws.{part-bounds}
use Rattle.optionform.specs.inner.Parts.{OptionParts}
use Rattle.optionform.proofs.PartsLaws.{fine-part-next}
use Rattle.lookups.specs.Lookups.{walking}
use Rattle.lookups.proofs.LookupLaws.{message-lies}
use Rattle.steps.specs.declared.Reach.{Reach}
use Rattle.steps.specs.declared.Reach.TheVariants.{Constant, Inside, Nothing}
use Rattle.steps.specs.Steps.{why_of}
use Rattle.steps.specs.inner.Reached.{entered, left_on, followed, behind, stepped, StepLies, Behind, Entered, Led}
use Rattle.sheet.specs.declared.declaration.Declaration.{Declaration}
use Rattle.steps.specs.declared.Lack.{Lack}

module _ (s r : List ℕ) (from to : ℕ) where
  pub led-nothing : Led s r from to (Ok Nothing)
  led-nothing = record { constant = λ h x e. never cc; inside = λ h p x e. never cc }

  led-fails : (w : Refusal) → Led s r from to (Err w)
  led-fails w = record { constant = λ h x e. never cc; inside = λ h p x e. never cc }

  module _ (h : Shape) (x : ℕ) (b : Behind s from to h x) where
    led-constant : Led s r from to (Ok (Constant h x))
    led-constant = record {
      constant = λ h' x' e.
          let i : h ≡ h' = cc in
          let j : x ≡ x' = cc in
          subst (λ (y : Shape). Behind s from to y x') i (subst (λ (y : ℕ). Behind s from to h y) j b);
      inside = λ h' p x' e. never cc;
    }

    led-inside : (p : LookupScope) → OptionParts r x to → InSheet s p → Led s r from to (Ok (Inside h p x))
    led-inside p o l = record {
      constant = λ h' x' e. never cc;
      inside = λ h' p' x' e.
          let i : h ≡ h' = cc in
          let j : x ≡ x' = cc in
          let k : p ≡ p' = cc in
          subst (λ (y : Shape). Entered s r from to y p' x') i
          (subst (λ (y : LookupScope). Entered s r from to h y x') k
          (subst (λ (y : ℕ). Entered s r from to h p y) j (record { behind = b; parts = o; place = l })));
    }

    led-left : OptionParts r x to → Led s r from to (left_on (walking s) s h x)
    unfolding left_on
    led-left o = go (eqb h.typ TYPE_MESSAGE) (eqb h.typ TYPE_GROUP) ((walking s).message (text s h.path)) refl
      where
        go : (b c : Bool) (u : Result LookupScope Refusal) → u ≡ (walking s).message (text s h.path)
            → Led s r from to (elim b [ true ↦ entered h x u | false ↦ elim c [ true ↦ Ok Nothing | false ↦ Err ExtensionIsNotMessage ] ])
        go true c (Err w) q = led-fails w
        go true c (Ok p) q = led-inside p o (message-lies s (text s h.path) (Ok p) q p refl)
        go false true u q = led-nothing
        go false false u q = led-fails ExtensionIsNotMessage

    led-followed : OptionParts r x to → (v : Option Part) → Led s r from to (followed (walking s) s h x v)
    led-followed o None = led-constant
    led-followed o (Some p) = led-left o

  pub led-step : OptionParts r from to → (v : Option Part) → v ≡ part_at r from to → (p : Part) → v ≡ Some p → (u : Result Declaration Lack) → StepLies s u
      → (y : Result Reach Refusal) → y ≡ stepped (walking s) s r p.name.to to u → Led s r from to y
  unfolding behind
  led-step k v q p g u l y e = subst (Led s r from to) (sym e) (go u l)
    where
      go : (u : Result Declaration Lack) → StepLies s u → Led s r from to (stepped (walking s) s r p.name.to to u)
      go (Err x) l = led-fails (why_of x)
      go (Ok d) l =
          let b = part-bounds r from to v q p g in
          led-followed d.shape p.name.to
          (record { path = l.lies d refl; further = omega (arith, b.starts, b.ordered); within = b.inside })
          (fine-part-next _ r from to k v q p g) (part_at r p.name.to to)
