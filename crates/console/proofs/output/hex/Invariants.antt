-- `console::output::hex` meets its contract, by its loop's invariant and laws.
-- Assumes nothing.
use Rattle.console.proofs.output.hex.Given as goal

abbrev pub invariant-loop-i : goal.invariant-loop-i
invariant-loop-i l = Unit
