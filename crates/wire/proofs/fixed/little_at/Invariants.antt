-- `wire::fixed::little_at` meets its contract, by its loop's invariant and laws.
-- Assumes nothing.
use Rattle.wire.proofs.FixedLoops.{Summing}
use Rattle.wire.proofs.fixed.little_at.Given as goal

abbrev pub invariant-loop-i : goal.invariant-loop-i
invariant-loop-i l = Summing l.s l.at l.width l.n l.i
