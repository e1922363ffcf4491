-- `octets::put_all` meets its contract, by its loop's invariant and laws.
-- Assumes nothing.
use Rattle.octets.proofs.Halfway.{Laying}
use Rattle.octets.proofs.put_all.Given as goal

abbrev pub invariant-loop-i : goal.invariant-loop-i
invariant-loop-i g l = Laying l.initial.out l.at l.src l.out l.n l.i
