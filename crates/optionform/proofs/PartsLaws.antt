-- The walk over the parts of a fine name: from one part to the next, and on to what follows them. `after` is what holds there: of an option
-- its constant, of a name alone that it ends.
-- Assumes nothing.
use Rattle.std.specs.Prelude.{◌≡◌, true, false, List, ℕ, ◌≤◌, length, Some, None, Option}
use Rattle.basis.specs.Kit.{sym, ap, ◌∙◌}
use Rattle.basis.proofs.Kit.{arith}
use mathlib.Core.Path.{subst}
use mathlib.Core.Bool.{and-eq-true_iff}
use Rattle.ident.specs.Ident.{is_ident}
use Rattle.path.specs.Path.{is_path}
use Rattle.field.specs.Leaf.{text}
use Rattle.field.specs.Walk.{walk}
use Rattle.request.specs.declared.name.Part.{Part}
use Rattle.request.specs.Name.{part_at, parts_in}
use Rattle.request.proofs.PartLaws.{parts-nil, parts-cons, after-parts-here, after-parts-next, part-ordered, part-inside}
use Rattle.request.proofs.PartLaws.{part-within, part_falls}
use Rattle.constantform.specs.Leaves.{good_part}
use Rattle.optionform.specs.Fine.{good_parts}
use Rattle.optionform.specs.inner.Parts.{FineParts}

module _ (after : ℕ → ℕ → Type 0) (s : List ℕ) (at end : ℕ) (k : FineParts after s at end) (r : Option Part) (q : r ≡ part_at s at end) where
  module _ (p : Part) (g : r ≡ Some p) where
    opened : (good_part p.extension (text s p.name) ≡ true) × (good_parts s (parts_in (walk s p.name.to end)) ≡ true)
    opened =
        (and-eq-true_iff (good_part p.extension (text s p.name)) (good_parts s (parts_in (walk s p.name.to end)))
        ).0 (ap (good_parts s) (sym (parts-cons s at end r q p g)) ∙ k.good)

    -- A part of a fine name is what 01 allows,
    pub fine-part : good_part p.extension (text s p.name) ≡ true
    fine-part = opened.0

    -- a direct part an identifier,
    pub fine-part-ident : p.extension ≡ false → is_ident (text s p.name) ≡ true
    unfolding good_part
    fine-part-ident h = rw h at fine-part

    -- an extension part a path.
    pub fine-part-path : p.extension ≡ true → is_path (text s p.name) ≡ true
    unfolding good_part
    fine-part-path h = rw h at fine-part

    -- What stands behind it is fine too: parts, or what follows them.
    pub fine-part-next : FineParts after s p.name.to end
    fine-part-next =
        record {
          good = opened.1;
          follows = subst (λ (x : ℕ). after x end) (after-parts-next s at end r q p g) k.follows;
        }

  -- Where no part stands, what follows the parts does.
  pub fine-part-last : r ≡ None → after at end
  fine-part-last g = subst (λ (x : ℕ). after x end) (after-parts-here s at end r q g) k.follows

-- Where there are parts, the first stands at the start.
pub part-some : (s : List ℕ) (at end : ℕ) → 1 ≤ length (parts_in (walk s at end)) → (r : Option Part) → r ≡ part_at s at end → r ≡ None → ⊥
part-some s at end h r q g = omega (arith, ap length (parts-nil s at end r q g))

-- what a walk has need of at each part: the laws above, where the part lies, and that what is left gets shorter
pub ruleset fine_part_laws =
    (fine-part, fine-part-ident, fine-part-path, fine-part-next, fine-part-last, part-ordered, part-inside, part-within, part_falls)
