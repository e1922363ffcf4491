-- The ways through `due_at` and `due_leaf`, and that the field which is due is the leaf of its tag.
-- Assumes nothing.
use Rattle.std.specs.Prelude.{◌≡◌, refl, Bool, true, false, ◌&&◌, List, ℕ, eqb, length, None, Some, Option}
use Rattle.basis.specs.Kit.{ap}
use Rattle.basis.proofs.Kit.{arith, eq-eqb, ne_eqb}
use borrow.Author.Tests.{eqb-true}
use Rattle.field.specs.Field.{field_at}
use Rattle.basis.specs.First.{only_if}
use Rattle.field.specs.Leaf as leaf
use Rattle.field.proofs.FieldLaws.{field-short}
use Rattle.inputs.specs.declared.due.Due.{Due}
use Rattle.inputs.specs.declared.due.Due.TheVariants.{Here, Other, CutShort, Ended}
use Rattle.inputs.specs.inner.Due.{due_of, due_at, due_leaf}
use Rattle.field.specs.Leaf.{span}
use Rattle.field.specs.declared.Field.{Field}
use Rattle.field.specs.declared.Span.{Span}

module _ (k : ℕ) (s : List ℕ) (at : ℕ) where
  pub due-ended : at ≡ length s → Ended ≡ due_at k s at
  unfolding due_at
  due-ended e = simp (due_at, eq-eqb at (length s) e)

  module _ (n : at ≡ length s → ⊥) (r : Option Field) (q : r ≡ field_at s at (length s)) where
    pub due-cut : r ≡ None → CutShort ≡ due_at k s at
    unfolding due_at
    due-cut g = rw (due_at, ne_eqb at (length s) n, ← q, g)

    module _ (f : Field) (g : r ≡ Some f) where
      pub due-other : (f.tag ≡ k → ⊥) → Other f.tag ≡ due_at k s at
      unfolding due_at
      due-other x = rw (due_at, ne_eqb at (length s) n, ← q, g) (simp (due_of, ne_eqb f.tag k x))

      pub due-here : f.tag ≡ k → Here f.from f.to ≡ due_at k s at
      unfolding due_at
      due-here x = rw (due_at, ne_eqb at (length s) n, ← q, g) (simp (due_of, eq-eqb f.tag k x))

pub ruleset due_laws = (due-ended, due-cut, due-other, due-here)

-- ---- the ways through `due_leaf`
module _ (d : Due) where
  pub due-leaf-here : (p : Span) → d ≡ Here p.from p.to → Some p ≡ due_leaf d
  due-leaf-here p g = rw g

  pub due-leaf-other : (t : ℕ) → d ≡ Other t → None ≡ due_leaf d
  due-leaf-other t g = rw g

  pub due-leaf-cut : d ≡ CutShort → None ≡ due_leaf d
  due-leaf-cut g = rw g

  pub due-leaf-ended : d ≡ Ended → None ≡ due_leaf d
  due-leaf-ended g = rw g

pub ruleset due_leaf_laws = (due-leaf-here, due-leaf-other, due-leaf-cut, due-leaf-ended)

-- ---- what is due is the leaf of its tag
module _ (k : ℕ) (s : List ℕ) where
  of_field : (f : Option Field) → due_leaf (due_of k f) ≡ leaf.leaf_of k leaf.any_bytes s f
  of_field None = refl
  of_field (Some found) = go (eqb found.tag k)
    where
      go : (b : Bool) → due_leaf (elim b [ true ↦ Here found.from found.to | false ↦ Other found.tag ]) ≡ only_if (b && true) (Some (span found.from found.to)) None
      go true = refl
      go false = refl

  pub due-leaf : (at : ℕ) → due_leaf (due_at k s at) ≡ leaf.leaf_at k leaf.any_bytes s at (length s)
  unfolding due_at leaf.leaf_at
  due-leaf at = go (eqb at (length s)) refl
    where
      go : (b : Bool) → eqb at (length s) ≡ b
          → due_leaf (elim b [ true ↦ Ended | false ↦ due_of k (field_at s at (length s)) ])
          ≡ leaf.leaf_of k leaf.any_bytes s (field_at s at (length s))
      go true p =
          let e : at ≡ length s = eqb-true at (length s) p in
          ap (leaf.leaf_of k leaf.any_bytes s) (field-short s at (length s) (omega arith) (omega arith))
      go false p = of_field (field_at s at (length s))
