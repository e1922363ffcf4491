-- `levels::still_open` meets its contract, by its loop's invariant and laws.
-- Assumes nothing.
use Rattle.levels.proofs.OpenLaws.{closing_laws}
use Rattle.levels.proofs.still_open.Goals as goal

pub loop-depth-preserved : goal.loop-depth-preserved
loop-depth-preserved c = search closing_laws
