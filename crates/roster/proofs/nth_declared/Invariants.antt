-- `roster::nth_declared` meets its contract, by its loop's invariant and laws.
-- Assumes nothing.
use Rattle.std.specs.Prelude.{length}
use Rattle.roster.proofs.Finding.{FindingIn}
use Rattle.roster.proofs.RosterLaws.{in_file}
use Rattle.roster.proofs.nth_declared.Given as goal

abbrev pub invariant-loop-field : goal.invariant-loop-field
invariant-loop-field l = FindingIn (in_file l.s) l.s 0 (length l.s) l.i 0 l.initial.room l.room l.k l.field-iterator
