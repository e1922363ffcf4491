-- `display::side::show_from` meets its contract, by its loop's invariant and laws.
-- Assumes nothing.
use Rattle.std.specs.Prelude.{◌≡◌, length}
use Rattle.display.specs.inner.Waits.{Waits, rest_of}
use Rattle.display.proofs.side.show_from.Given as goal

abbrev pub invariant-loop-left : goal.invariant-loop-left
invariant-loop-left l =
    (length l.stack ≡ length l.initial.stack) × (length l.other ≡ length l.initial.other) × Waits l.newer l.bytes l.stack l.left × Waits l.older l.bytes l.other l.right

abbrev pub decreases-loop-left : goal.decreases-loop-left
decreases-loop-left l = rest_of l.bytes l.left
