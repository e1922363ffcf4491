-- `evolution::first::first_reason` meets its contract, by its loop's invariant and laws.
-- Assumes nothing.
use Rattle.evolution.proofs.RosterLaws.{Asking}
use Rattle.std.specs.Prelude.{◌-◌, length}
use Rattle.names.specs.Names.{every_declared}
use Rattle.evolution.specs.inner.Bearers.{reason_of}
use Rattle.evolution.proofs.first.first_reason.Given as goal

abbrev pub invariant-loop-nth : goal.invariant-loop-nth
invariant-loop-nth l = Asking l.s (reason_of l.question l.s l.newer) l.initial.room l.room l.i

abbrev pub decreases-loop-nth : goal.decreases-loop-nth
decreases-loop-nth l = length (every_declared l.s) - l.i
