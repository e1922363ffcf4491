-- `console::output::text_at` meets its contract.
-- Assumes nothing.
use Rattle.field.proofs.PartLaws.{span_ordered, span_within}
use Rattle.console.proofs.output.text_at.Goals as goal

pub slice_bounds-text-count : goal.slice_bounds-text-count
slice_bounds-text-count c = search span_ordered

pub slice_bounds-text-start : goal.slice_bounds-text-start
slice_bounds-text-start c = search span_ordered

pub slice_bounds-text-end : goal.slice_bounds-text-end
slice_bounds-text-end c = search span_within
