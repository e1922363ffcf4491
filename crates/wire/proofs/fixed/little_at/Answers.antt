-- `wire::fixed::little_at` meets its contract, by its loop's invariant and laws.
-- Assumes nothing.
use Rattle.wire.proofs.FixedLoops.{summing_laws}
use Rattle.wire.proofs.fixed.little_at.Goals as goal

pub loop-i-preserved : goal.loop-i-preserved
loop-i-preserved c = search summing_laws
