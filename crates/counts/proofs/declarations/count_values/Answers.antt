-- `counts::declarations::count_values` meets its contract.
-- Assumes nothing.
use Rattle.basis.proofs.Kit.{rules}
use Rattle.counts.proofs.DeclarationLaws.{values_count_laws}
use Rattle.counts.proofs.declarations.count_values.Goals as goal

pub returns-in_default : goal.returns-in_default
returns-in_default c = search (rules, values_count_laws, c.in-Some.ensures.steps)

pub loop-field-preserved : goal.loop-field-preserved
loop-field-preserved c = search (rules, values_count_laws, c.in-Some.ensures.steps)

pub returns : goal.returns
returns c = search (rules, values_count_laws, c.in-None.ensures.steps)

pub loop-field-init : goal.loop-field-init
loop-field-init c = rw c.into_iter-field-iterator.ensures.into_iter_gives (search (rules, values_count_laws))
