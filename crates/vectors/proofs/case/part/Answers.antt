-- `vectors::case::part` meets its contract.
-- Assumes nothing.
use Rattle.basis.proofs.Kit.{rules}
use Rattle.field.proofs.InFields.{over_all}
use Rattle.vectors.proofs.case.part.Goals as goal

pub slice_bounds-result-count : goal.slice_bounds-result-count
slice_bounds-result-count c = search (rules, over_all, c.in-Some.ensures.steps)

pub slice_bounds-result-start : goal.slice_bounds-result-start
slice_bounds-result-start c = search (rules, over_all, c.in-Some.ensures.steps)
