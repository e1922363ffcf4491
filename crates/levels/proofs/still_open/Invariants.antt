-- `levels::still_open` meets its contract, by its loop's invariant and laws.
-- Assumes nothing.
use Rattle.levels.proofs.OpenLaws.{Closing}
use Rattle.levels.proofs.still_open.Given as goal

abbrev pub invariant-loop-depth : goal.invariant-loop-depth
invariant-loop-depth l = Closing l.stack l.at l.initial.depth l.depth

abbrev pub decreases-loop-depth : goal.decreases-loop-depth
decreases-loop-depth l = l.depth
