-- `display::name::around` meets its contract, by its loop's invariant and laws.
-- Assumes nothing.
use Rattle.std.specs.Prelude.{◌-◌, ◌≤◌}
use Rattle.display.proofs.name.around.Given as goal

abbrev pub invariant-loop-at : goal.invariant-loop-at
invariant-loop-at l = l.at ≤ l.end

abbrev pub decreases-loop-at : goal.decreases-loop-at
decreases-loop-at l = l.end - l.at
