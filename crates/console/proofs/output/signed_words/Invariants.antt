-- `console::output::signed_words` meets its contract, by its loop's invariant and laws.
-- Assumes nothing.
use Rattle.console.proofs.output.signed_words.Given as goal

abbrev pub invariant-loop-i : goal.invariant-loop-i
invariant-loop-i l = Unit {0}
