-- `cursor::next_scope` meets its contract.
-- Assumes nothing.
use Rattle.std.specs.Prelude.{suc, ◌-◌, length}
use Rattle.cursor.specs.inner.Cursor.{ahead}
use Rattle.cursor.proofs.CursorLaws.{Onward}
use Rattle.cursor.proofs.next_scope.Given as goal

abbrev pub invariant-loop-next : goal.invariant-loop-next
invariant-loop-next l = Onward (ahead l.s l.names) l.s l.names l.initial.c l.c

abbrev pub decreases-loop-next : goal.decreases-loop-next
decreases-loop-next l = suc (length l.names) - l.c.next
