-- What these functions promise follows from their laws.
-- Assumes nothing.
use Rattle.basis.proofs.Kit.{rules}
use Rattle.reply.proofs.VerdictLaws.{handed-on}
use Rattle.messageform.proofs.MessageLaws.{items_laws, message_laws}
use Rattle.messageform.proofs.+check_item_check_items_check_message.Goals as goal

pub check_items-returns-in_err-check_item : goal.check_items-returns-in_err-check_item
check_items-returns-in_err-check_item t c = handed-on c.from_residual.ensures.1 (search (rules, items_laws, c.in-Some.ensures.steps, c.in_err-check_item.was))

pub check_items-loop-field-preserved : goal.check_items-loop-field-preserved
check_items-loop-field-preserved t c = search (rules, items_laws, c.in-Some.ensures.steps, c.in_ok-check_item.was)

pub check_items-loop-field-init : goal.check_items-loop-field-init
check_items-loop-field-init t c = rw c.into_iter-field-iterator.ensures.into_iter_gives (search (rules, items_laws))

pub check_items-returns-in_default : goal.check_items-returns-in_default
check_items-returns-in_default t c = search (rules, items_laws, c.in-Some.ensures.steps)

pub check_message-returns : goal.check_message-returns
check_message-returns t c = search (rules, message_laws)
