-- `varint::put_varint` meets its contract, by its loop's invariant and laws.
-- Assumes nothing.
use Rattle.varint.proofs.VarintLoops.{Writing}
use Rattle.varint.proofs.put_varint.Given as goal

abbrev pub invariant-loop-x : goal.invariant-loop-x
invariant-loop-x l = Writing l.initial.out l.at l.v l.out l.x l.i

abbrev pub decreases-loop-x : goal.decreases-loop-x
decreases-loop-x l = l.x
