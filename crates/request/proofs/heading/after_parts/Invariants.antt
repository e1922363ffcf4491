-- `request::heading::after_parts` meets its contract.
-- Assumes nothing.
use Rattle.std.specs.Prelude.{◌-◌}
use Rattle.field.specs.Walk.{walk}
use Rattle.field.proofs.Rest.{Rest}
use Rattle.request.specs.Name.{after_parts}
use Rattle.request.proofs.heading.after_parts.Given as goal

abbrev pub invariant-loop-at : goal.invariant-loop-at
invariant-loop-at l = Rest (after_parts l.from (walk l.s l.from l.to)) (after_parts l.at) l.s l.to l.at

abbrev pub decreases-loop-at : goal.decreases-loop-at
decreases-loop-at l = l.to - l.at
