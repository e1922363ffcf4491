-- How many bytes fields take: of a walk all together no more than lie between its two places, of an option its parts and what follows them.
--
--   width w == the bytes of the fields w, with their headers
--
-- Assumes nothing.
use Rattle.std.specs.Prelude.{◌≡◌, refl, Bool, true, false, List, ℕ, zero, suc, ◌+◌, ◌-◌, ◌*◌, ◌≤◌, ltb, length, None, Some, Option}
use Rattle.basis.proofs.Kit.{arith}
use Rattle.field.specs.Field.{header, field_at}
use Rattle.field.specs.Walk.{Walk, done, cut, step, walk_on, walk_for, walk_by, walk}
use Rattle.field.proofs.FieldLaws.{Bounds, field-bounds}
use Rattle.request.specs.Name.{part_of, leading, further, parts_in, after_parts}
use Rattle.field.specs.declared.Field.{Field}
use Rattle.request.specs.declared.name.Part.{Part}

abbrev pub width : Walk → ℕ
width done = 0
width cut = 0
width (step t a e w) = header + (e - a) + width w

-- what holds of no fields and of a cut, and of a field behind its header with what holds from its end on, holds of a walk
module _ (s : List ℕ) (end : ℕ) (P : ℕ → Walk → Type 0) (on_done : (at : ℕ) → P at done) (on_cut : (at : ℕ) → P at cut)
    (on_step : (at t a e : ℕ) (w : Walk) → Bounds at end a e → P e w → P at (step t a e w)) where
  fuel-bounded : (n at : ℕ) → P at (walk_for field_at n s at end)
  fuel-bounded zero at = on_done at
  fuel-bounded (suc n) at = go (ltb at end) (field_at s at end) refl (fuel-bounded n)
    where
      go : (b : Bool) (f : Option Field) → f ≡ field_at s at end → ((e : ℕ) → P e (walk_for field_at n s e end))
          → P at (elim b [ true ↦ walk_on f (λ e. walk_for field_at n s e end) | false ↦ done ])
      go false f q ih = on_done at
      go true None q ih = on_cut at
      go true (Some found) q ih =
          on_step at found.tag found.from found.to (walk_for field_at n s found.to end) (field-bounds s at end (Some found) q found refl) (ih found.to)

  walk-bounded : (at : ℕ) → P at (walk s at end)
  unfolding walk_by
  walk-bounded at = fuel-bounded (end - at) at

pub width-walk : (s : List ℕ) (at end : ℕ) → width (walk s at end) ≤ end - at
width-walk s at end =
    walk-bounded s end (λ at w. width w ≤ end - at) (λ at. omega arith) (λ at. omega arith) (λ at t a e w b h. omega arith) at

-- every part takes a header at least, and what follows the parts lies between their end and the option's
module _ (s : List ℕ) (end : ℕ) where
  abbrev PartsFit : ℕ → Walk → Type 0
  PartsFit at w = header * length (parts_in w) + (end - after_parts at w) ≤ end - at

  parts_next : (at a e : ℕ) (w : Walk) → Bounds at end a e → PartsFit e w → (r : Option Part)
      → header * length (leading r (parts_in w)) + (end - further r at (after_parts e w)) ≤ end - at
  parts_next at a e w b h None = omega arith
  parts_next at a e w b h (Some p) = omega arith

  pub parts-width : (at : ℕ) → PartsFit at (walk s at end)
  parts-width =
      walk-bounded s end PartsFit (λ at. omega arith) (λ at. omega arith) (λ at t a e w b h. parts_next at a e w b h (part_of t a e))
