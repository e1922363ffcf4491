-- What these functions promise follows from their laws.
-- Assumes nothing.
use Rattle.field.proofs.LeafLaws.{leaf_inside}
use Rattle.roster.proofs.RosterLaws.{item_laws, items_laws, message_laws, leaf_laws}
use Rattle.basis.proofs.Kit.{rules}
use Rattle.roster.proofs.+nth_in_item_nth_in_items_nth_in_message.Goals as goal

pub nth_in_item-returns-then-tag-eq-MESSAGE : goal.nth_in_item-returns-then-tag-eq-MESSAGE
nth_in_item-returns-then-tag-eq-MESSAGE t c = search (rules, item_laws)

pub nth_in_item-returns-then-tag-eq-EXTENSION : goal.nth_in_item-returns-then-tag-eq-EXTENSION
nth_in_item-returns-then-tag-eq-EXTENSION t c = search (rules, item_laws)

pub nth_in_item-returns-then-tag-eq-ENUM : goal.nth_in_item-returns-then-tag-eq-ENUM
nth_in_item-returns-then-tag-eq-ENUM t c = search (rules, item_laws)

pub nth_in_item-returns : goal.nth_in_item-returns
nth_in_item-returns t c = search (rules, item_laws)

pub nth_in_items-loop-field-init : goal.nth_in_items-loop-field-init
nth_in_items-loop-field-init t c = rw c.into_iter-field-iterator.ensures.into_iter_gives (search (rules, items_laws))

pub nth_in_items-returns-in_default : goal.nth_in_items-returns-in_default
nth_in_items-returns-in_default t c = search (rules, items_laws, c.in-Some.ensures.steps)

pub nth_in_items-returns-in-Ok : goal.nth_in_items-returns-in-Ok
nth_in_items-returns-in-Ok t c = search (rules, items_laws, c.in-Some.ensures.steps)

pub nth_in_items-loop-field-preserved : goal.nth_in_items-loop-field-preserved
nth_in_items-loop-field-preserved t c = search (rules, items_laws, c.in-Some.ensures.steps)

pub nth_in_items-returns : goal.nth_in_items-returns
nth_in_items-returns t c = search (rules, items_laws, c.in-None.ensures.steps)

pub nth_in_message-put_name-size-requires-clause-lies : goal.nth_in_message-put_name-size-requires-clause-lies
nth_in_message-put_name-size-requires-clause-lies t c = search (rules, message_laws, leaf_laws, leaf_inside)

pub nth_in_message-put_name-size-requires-clause-at_lt_from : goal.nth_in_message-put_name-size-requires-clause-at_lt_from
nth_in_message-put_name-size-requires-clause-at_lt_from t c = search (rules, message_laws, leaf_laws, leaf_inside)

pub nth_in_message-put_inside-size-requires-clause-lies : goal.nth_in_message-put_inside-size-requires-clause-lies
nth_in_message-put_inside-size-requires-clause-lies t c = search (rules, message_laws, leaf_laws, leaf_inside)

pub nth_in_message-put_inside-size-requires-clause-at_lt_from : goal.nth_in_message-put_inside-size-requires-clause-at_lt_from
nth_in_message-put_inside-size-requires-clause-at_lt_from t c = search (rules, message_laws, leaf_laws, leaf_inside)

pub nth_in_message-nth_in_items-requires : goal.nth_in_message-nth_in_items-requires
nth_in_message-nth_in_items-requires t c = search (rules, message_laws, leaf_laws, leaf_inside)

pub nth_in_message-returns : goal.nth_in_message-returns
nth_in_message-returns t c = search (rules, message_laws, leaf_laws, leaf_inside)
