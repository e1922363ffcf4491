-- `wire::fixed::put_little` meets its contract, by its loop's invariant and laws.
-- Assumes nothing.
use Rattle.wire.proofs.FixedLoops.{Filling}
use Rattle.wire.proofs.fixed.put_little.Given as goal

abbrev pub invariant-loop-i : goal.invariant-loop-i
invariant-loop-i l = Filling l.initial.out l.at l.v l.width l.out l.x l.i
