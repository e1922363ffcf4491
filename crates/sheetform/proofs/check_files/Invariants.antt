-- `sheetform::check_files` meets its contract.
-- Assumes nothing.
use Rattle.std.specs.Prelude.{length}
use Rattle.field.proofs.InFields.{RestIn}
use Rattle.sheetform.specs.Form.{judge_files}
use Rattle.sheetform.proofs.SheetLaws.{files}
use Rattle.sheetform.proofs.check_files.Given as goal

abbrev pub invariant-loop-field : goal.invariant-loop-field
invariant-loop-field l = RestIn (judge_files l.s) (files l.s l.index) l.s (length l.s) l.field-iterator
