-- `fullname::next_message` meets its contract.
-- Assumes nothing.
use Rattle.std.specs.Prelude.{length}
use Rattle.basis.specs.First.{collect}
use Rattle.cursor.specs.inner.Cursor.{ahead}
use Rattle.fullname.specs.inner.Ahead.{kept, passing, is_message}
use Rattle.cursor.proofs.Left.{Left}
use Rattle.fullname.proofs.next_message.Given as goal

abbrev pub invariant-loop-next : goal.invariant-loop-next
invariant-loop-next l = Left (passing is_message l.s l.names l.initial.c) (collect (kept is_message)) l.s l.names l.c

abbrev pub decreases-loop-next : goal.decreases-loop-next
decreases-loop-next l = length (ahead l.s l.names l.c)
