-- `hexadecimal::digits::decode` meets its contract, by its loop's invariant and laws.
-- Assumes nothing.
use Rattle.hexadecimal.proofs.SpellingLaws.{Spelling}
use Rattle.hexadecimal.proofs.digits.decode.Given as goal

abbrev pub invariant-loop-i : goal.invariant-loop-i
invariant-loop-i l = Spelling l.text l.initial.out l.out l.half l.n l.i
