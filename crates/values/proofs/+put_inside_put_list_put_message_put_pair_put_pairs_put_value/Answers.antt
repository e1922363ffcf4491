-- What these functions promise follows from their laws.
-- Assumes nothing.
use Rattle.basis.proofs.Kit.{rules}
use Rattle.records.proofs.EmitsLaws.{hands-on}
use Rattle.values.proofs.ValueLaws.{value_laws}
use Rattle.values.proofs.ListLaws.{list_laws}
use Rattle.values.proofs.MessageLaws.{message_laws, put_inside_laws}
use Rattle.values.proofs.PairLaws.{pair_laws, pairs_laws}
use Rattle.values.proofs.+put_inside_put_list_put_message_put_pair_put_pairs_put_value.Goals as goal

pub put_inside-overflow_sub-end : goal.put_inside-overflow_sub-end
put_inside-overflow_sub-end t c = search (rules, put_inside_laws, c.in_ok-end.was)

pub put_inside-enclose-requires : goal.put_inside-enclose-requires
put_inside-enclose-requires t c = search (rules, put_inside_laws, c.in_ok-end.was)

pub put_inside-returns-in_err-end : goal.put_inside-returns-in_err-end
put_inside-returns-in_err-end t c = hands-on c.from_residual.ensures.1 (search (rules, put_inside_laws, c.in_err-end.was))

pub put_inside-returns : goal.put_inside-returns
put_inside-returns t c = search (rules, put_inside_laws, c.in_ok-end.was)

pub put_list-loop-field-init : goal.put_list-loop-field-init
put_list-loop-field-init t c = rw c.into_iter-field-iterator.ensures.into_iter_gives (search (rules, list_laws))

pub put_list-returns-in_default : goal.put_list-returns-in_default
put_list-returns-in_default t c = search (rules, list_laws, c.in-Some.ensures.steps)

pub put_list-put_value-requires : goal.put_list-put_value-requires
put_list-put_value-requires t c = search (rules, list_laws, c.in-Some.ensures.steps)

pub put_list-returns-in_err-p : goal.put_list-returns-in_err-p
put_list-returns-in_err-p t c = hands-on c.from_residual.ensures.1 (search (rules, list_laws, c.in-Some.ensures.steps, c.in_err-p.was))

pub put_list-loop-field-preserved : goal.put_list-loop-field-preserved
put_list-loop-field-preserved t c = search (rules, list_laws, c.in-Some.ensures.steps, c.in_ok-p.was)

pub put_list-returns : goal.put_list-returns
put_list-returns t c = search (rules, list_laws, c.in-None.ensures.steps)

pub put_message-returns-then-wide-ne-TYPE_MESSAGE : goal.put_message-returns-then-wide-ne-TYPE_MESSAGE
put_message-returns-then-wide-ne-TYPE_MESSAGE t c = search (rules, message_laws)

pub put_message-put_inside-requires : goal.put_message-put_inside-requires
put_message-put_inside-requires t c = search (rules, message_laws, c.in_ok-scope.was)

pub put_message-returns-in_err-scope : goal.put_message-returns-in_err-scope
put_message-returns-in_err-scope t c = hands-on c.from_residual.ensures.1 (search (rules, message_laws, c.in_err-scope.was))

pub put_message-returns : goal.put_message-returns
put_message-returns t c = search (rules, message_laws, c.in_ok-scope.was)

pub put_pair-put_value-requires : goal.put_pair-put_value-requires
put_pair-put_value-requires t c = search (rules, pair_laws, c.in_ok-shape.was)

pub put_pair-returns-in_err-shape : goal.put_pair-returns-in_err-shape
put_pair-returns-in_err-shape t c = hands-on c.from_residual.ensures.1 (search (rules, pair_laws, c.in_err-shape.was))

pub put_pair-returns-in_default : goal.put_pair-returns-in_default
put_pair-returns-in_default t c = search (rules, pair_laws, c.in_ok-shape.was)

pub put_pair-returns : goal.put_pair-returns
put_pair-returns t c = search (rules, pair_laws, c.in_ok-shape.was)

pub put_pairs-loop-i-init : goal.put_pairs-loop-i-init
put_pairs-loop-i-init t c = search (rules, pairs_laws)

pub put_pairs-returns-in_default : goal.put_pairs-returns-in_default
put_pairs-returns-in_default t c = search (rules, pairs_laws)

pub put_pairs-put_pair-requires : goal.put_pairs-put_pair-requires
put_pairs-put_pair-requires t c = search (rules, pairs_laws)

pub put_pairs-returns-in_err-p : goal.put_pairs-returns-in_err-p
put_pairs-returns-in_err-p t c = hands-on c.from_residual.ensures.1 (search (rules, pairs_laws, c.in_err-p.was))

pub put_pairs-loop-i-smaller : goal.put_pairs-loop-i-smaller
put_pairs-loop-i-smaller t c = search (rules, pairs_laws)

pub put_pairs-loop-i-preserved : goal.put_pairs-loop-i-preserved
put_pairs-loop-i-preserved t c = search (rules, pairs_laws, c.in_ok-p.was)

pub put_pairs-returns : goal.put_pairs-returns
put_pairs-returns t c = search (rules, pairs_laws)

pub put_value-returns-in_default : goal.put_value-returns-in_default
put_value-returns-in_default t c = search (rules, value_laws)

pub put_value-put_scalar-requires-clause-inside : goal.put_value-put_scalar-requires-clause-inside
put_value-put_scalar-requires-clause-inside t c = search (rules, value_laws)

pub put_value-overflow_sub-left : goal.put_value-overflow_sub-left
put_value-overflow_sub-left t c = search (rules, value_laws)

pub put_value-overflow_sub-left-in-Message : goal.put_value-overflow_sub-left-in-Message
put_value-overflow_sub-left-in-Message t c = search (rules, value_laws)

pub put_value-returns-in-Scalar : goal.put_value-returns-in-Scalar
put_value-returns-in-Scalar t c = search (rules, value_laws)

pub put_value-returns-in-List : goal.put_value-returns-in-List
put_value-returns-in-List t c = search (rules, value_laws)

pub put_value-returns-in-Message : goal.put_value-returns-in-Message
put_value-returns-in-Message t c = search (rules, value_laws)
