-- `counts::declarations::count` meets its contract.
-- Assumes nothing.
use Rattle.basis.proofs.Kit.{rules}
use Rattle.counts.proofs.DeclarationLaws.{files_count_laws}
use Rattle.counts.proofs.declarations.count.Goals as goal

pub returns-in_default : goal.returns-in_default
returns-in_default c = search (rules, files_count_laws, c.in-Some.ensures.steps)

pub loop-field-preserved : goal.loop-field-preserved
loop-field-preserved c = search (rules, files_count_laws, c.in-Some.ensures.steps)

pub returns : goal.returns
returns c = search (rules, files_count_laws, c.in-None.ensures.steps)

pub loop-field-init : goal.loop-field-init
loop-field-init c = rw c.into_iter-field-iterator.ensures.into_iter_gives (search (rules, files_count_laws))
