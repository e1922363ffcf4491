-- What the program knows of an example: where its fields lie; no more examples hold than there are.
-- Assumes nothing.
use Rattle.std.specs.Prelude.{◌≡◌, Bool, List, ℕ, ◌+◌, ◌-◌, ◌≤◌, ◌<◌, Some, Option}
use Rattle.basis.proofs.Kit.{arith}
use Rattle.field.specs.Leaf.{leaf_at}
use Rattle.field.proofs.FieldLaws.{Bounds, field-ordered, field-within, field-less}
use Rattle.field.proofs.LeafLaws.{leaf-bounds, leaf-within}
use Rattle.console.proofs.InputLaws.{input_laws}
use Rattle.field.specs.declared.Span.{Span}

pub ruleset case_laws = (field-ordered, field-within, field-less, leaf-within, input_laws)

-- ---- the loop over the examples
module _ (k : ℕ) (good : List ℕ → Bool) (s : List ℕ) (at end : ℕ) (r : Option Span) (q : r ≡ leaf_at k good s at end) (p : Span)
    (g : r ≡ Some p) where
  bounds : Bounds at end p.from p.to
  bounds = leaf-bounds k good s at end r q p g

  pub leaf-less : at < end → end - p.to < end - at
  leaf-less h = omega (arith, bounds.starts, bounds.ordered)

  pub held_next : (held one : ℕ) → held ≤ at → one ≤ 1 → held + one ≤ p.to
  held_next held one h h' = omega (arith, bounds.starts, bounds.ordered)

pub ruleset run_laws = (leaf-less, held_next, case_laws)
