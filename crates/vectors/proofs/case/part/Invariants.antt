-- `vectors::case::part` meets its contract.
-- Assumes nothing.
use Rattle.std.specs.Prelude.{length}
use Rattle.field.proofs.InFields.{Over}
use Rattle.vectors.proofs.case.part.Given as goal

abbrev pub invariant-loop-field : goal.invariant-loop-field
invariant-loop-field l = Over l.field-iterator l.c (length l.c)
