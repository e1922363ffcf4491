-- `counts::declarations::count` meets its contract.
-- Assumes nothing.
use Rattle.std.specs.Prelude.{length}
use Rattle.sheet.specs.Tree.{tree_of}
use Rattle.counts.specs.Declarations.{files_hold}
use Rattle.counts.specs.inner.Fields.{file_count}
use Rattle.field.proofs.InFields.{TallyIn}
use Rattle.field.proofs.Tally.{total}
use Rattle.counts.proofs.declarations.count.Given as goal

abbrev pub invariant-loop-field : goal.invariant-loop-field
invariant-loop-field l = TallyIn (files_hold l.want (tree_of l.s)) (total (file_count l.want l.s)) l.s 0 (length l.s) l.n l.field-iterator
