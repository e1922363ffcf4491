-- `oneofs::count_reals` meets its contract, by its loop's invariant and laws.
-- Assumes nothing.
use Rattle.oneofs.proofs.CountingLaws.{Counting}
use Rattle.oneofs.proofs.count_reals.Given as goal

abbrev pub invariant-loop-i : goal.invariant-loop-i
invariant-loop-i l = Counting l.words l.count l.i
