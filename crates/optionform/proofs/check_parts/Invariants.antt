-- `optionform::check_parts` meets its contract.
-- Assumes nothing.
use Rattle.std.specs.Prelude.{◌-◌}
use Rattle.field.specs.Walk.{walk}
use Rattle.field.proofs.Rest.{Rest}
use Rattle.optionform.specs.Form.{parts_from}
use Rattle.optionform.proofs.check_parts.Given as goal

abbrev pub invariant-loop-at : goal.invariant-loop-at
invariant-loop-at l = Rest (parts_from l.s 0 l.from (walk l.s l.from l.to)) (parts_from l.s l.n l.at) l.s l.to l.at

abbrev pub decreases-loop-at : goal.decreases-loop-at
decreases-loop-at l = l.to - l.at
