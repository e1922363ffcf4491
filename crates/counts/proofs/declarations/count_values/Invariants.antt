-- `counts::declarations::count_values` meets its contract.
-- Assumes nothing.
use Rattle.std.specs.Prelude.{length}
use Rattle.field.specs.Walk.{walk}
use Rattle.sheet.specs.Tree.{values_in}
use Rattle.field.proofs.InFields.{TallyIn}
use Rattle.field.proofs.Tally.{total}
use Rattle.counts.specs.inner.Fields.{value_count}
use Rattle.counts.proofs.declarations.count_values.Given as goal

abbrev pub invariant-loop-field : goal.invariant-loop-field
invariant-loop-field l = TallyIn (length (values_in l.s (walk l.s l.fn.from l.fn.to))) (total (value_count l.s)) l.s l.fn.from l.fn.to l.n l.field-iterator
