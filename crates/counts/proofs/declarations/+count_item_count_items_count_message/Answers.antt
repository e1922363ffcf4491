-- What these functions promise follows from their laws.
-- Assumes nothing.
use Rattle.basis.proofs.Kit.{rules}
use Rattle.counts.proofs.DeclarationLaws.{items_count_laws}
use Rattle.counts.proofs.declarations.+count_item_count_items_count_message.Goals as goal

pub count_items-returns-in_default : goal.count_items-returns-in_default
count_items-returns-in_default t c = search (rules, items_count_laws, c.in-Some.ensures.steps)

pub count_items-loop-field-preserved : goal.count_items-loop-field-preserved
count_items-loop-field-preserved t c = search (rules, items_count_laws, c.in-Some.ensures.steps)

pub count_items-returns : goal.count_items-returns
count_items-returns t c = search (rules, items_count_laws, c.in-None.ensures.steps)

pub count_items-loop-field-init : goal.count_items-loop-field-init
count_items-loop-field-init t c = rw c.into_iter-field-iterator.ensures.into_iter_gives (search (rules, items_count_laws))
