-- `census::in_files` meets its contract, by its loop's invariant and laws.
-- Assumes nothing.
use Rattle.census.proofs.ItemLaws.{file_asked}
use Rattle.std.specs.Prelude.{length}
use Rattle.field.proofs.InFields.{TallyIn}
use Rattle.field.proofs.Tally.{total}
use Rattle.sheet.specs.Tree.{tree_of}
use Rattle.census.specs.inner.Census.{files_asked}
use Rattle.census.proofs.in_files.Given as goal

abbrev pub invariant-loop-field : goal.invariant-loop-field
invariant-loop-field l = TallyIn (files_asked l.text l.asked l.o l.s (tree_of l.s)) (total (file_asked l.text l.asked l.o l.s)) l.s 0 (length l.s) l.n l.field-iterator
