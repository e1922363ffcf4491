-- `display::rows_over` meets its contract, by its loop's invariant and laws.
-- Assumes nothing.
use Rattle.std.specs.Prelude.{◌≡◌, length}
use Rattle.display.specs.inner.Waits.{Waits, rest_of}
use Rattle.display.proofs.rows_over.Given as goal

abbrev pub invariant-loop-event : goal.invariant-loop-event
invariant-loop-event l = (length l.stack ≡ length l.initial.stack) × Waits l.sheet l.bytes l.stack l.event

abbrev pub decreases-loop-event : goal.decreases-loop-event
decreases-loop-event l = rest_of l.bytes l.event
