-- `extensions::first_extension` meets its contract.
-- Assumes nothing.
use Rattle.std.specs.Prelude.{length}
use Rattle.cursor.specs.inner.Cursor.{ahead}
use Rattle.cursor.proofs.Left.{Left}
use Rattle.extensions.proofs.ExtensionLaws.{named_in}
use Rattle.extensions.proofs.first_extension.Given as goal

abbrev pub invariant-loop-next : goal.invariant-loop-next
invariant-loop-next l = Left (named_in l.s l.name (ahead l.s l.names l.initial.c)) (named_in l.s l.name) l.s l.names l.c

abbrev pub decreases-loop-next : goal.decreases-loop-next
decreases-loop-next l = length (ahead l.s l.names l.c)
