-- `extension_in_item` and `extension_in_items` of `numbers` meet their contracts.
-- Assumes nothing.
use Rattle.basis.proofs.Kit.{rules}
use Rattle.numbers.proofs.NumberLaws.{in_items_laws}
use Rattle.numbers.proofs.+extension_in_item_extension_in_items.Goals as goal

pub extension_in_items-loop-field-init : goal.extension_in_items-loop-field-init
extension_in_items-loop-field-init t c = rw c.into_iter-field-iterator.ensures.into_iter_gives (search (rules, in_items_laws))

pub extension_in_items-returns-in_err-field : goal.extension_in_items-returns-in_err-field
extension_in_items-returns-in_err-field t c = rw c.from_residual.ensures (search (in_items_laws, c.in-Some.ensures.steps, c.in_err-field.was))

pub extension_in_items-returns-in-Some-extension_in_item : goal.extension_in_items-returns-in-Some-extension_in_item
extension_in_items-returns-in-Some-extension_in_item t c = search (rules, in_items_laws, c.in-Some.ensures.steps, c.in_ok-field.was)

pub extension_in_items-loop-field-preserved-in_default : goal.extension_in_items-loop-field-preserved-in_default
extension_in_items-loop-field-preserved-in_default t c = search (rules, in_items_laws, c.in-Some.ensures.steps, c.in_ok-field.was)

pub extension_in_items-loop-field-preserved : goal.extension_in_items-loop-field-preserved
extension_in_items-loop-field-preserved t c = search (rules, in_items_laws, c.in-Some.ensures.steps, c.in_ok-field.was)
