-- `fullname::next_enum` meets its contract.
-- Assumes nothing.
use Rattle.std.specs.Prelude.{length}
use Rattle.basis.specs.First.{collect}
use Rattle.cursor.specs.inner.Cursor.{ahead}
use Rattle.fullname.specs.inner.Ahead.{kept, passing, declares_enum}
use Rattle.cursor.proofs.Left.{Left}
use Rattle.fullname.proofs.next_enum.Given as goal

abbrev pub invariant-loop-next : goal.invariant-loop-next
invariant-loop-next l = Left (passing (declares_enum l.s l.name) l.s l.names l.initial.c) (collect (kept (declares_enum l.s l.name))) l.s l.names l.c

abbrev pub decreases-loop-next : goal.decreases-loop-next
decreases-loop-next l = length (ahead l.s l.names l.c)
