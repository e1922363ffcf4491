-- `levels::put_words` meets its contract, by its loop's invariant and laws.
-- Assumes nothing.
use Rattle.std.specs.Prelude.{length}
use Rattle.octets.proofs.Halfway.{Laying}
use Rattle.levels.proofs.put_words.Given as goal

abbrev pub invariant-loop-i : goal.invariant-loop-i
invariant-loop-i l = Laying l.initial.stack l.at l.words l.stack (length l.words) l.i
