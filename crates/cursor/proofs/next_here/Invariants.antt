-- `cursor::next_here` meets its contract.
-- Assumes nothing.
use Rattle.std.specs.Prelude.{◌-◌}
use Rattle.cursor.specs.inner.Cursor.{here}
use Rattle.cursor.proofs.CursorLaws.{Onward}
use Rattle.cursor.proofs.next_here.Given as goal

abbrev pub invariant-loop-at : goal.invariant-loop-at
invariant-loop-at l = Onward (here l.s l.names) l.s l.names l.cursor (record { next = l.cursor.next; at = l.at; file = l.file })

abbrev pub decreases-loop-at : goal.decreases-loop-at
decreases-loop-at l = l.end - l.at
