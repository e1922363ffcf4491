-- What these functions promise follows from their laws.
-- Assumes nothing.
use Rattle.basis.proofs.Kit.{rules}
use Rattle.reply.proofs.VerdictLaws.{handed-on}
use Rattle.constantform.proofs.ConstantLaws.{element_laws, pairs_laws}
use Rattle.constantform.proofs.+check_constant_check_elements_check_pairs.Goals as goal

pub check_elements-returns-in_err-check_constant : goal.check_elements-returns-in_err-check_constant
check_elements-returns-in_err-check_constant t c =
    handed-on c.from_residual.ensures.1 (search (rules, element_laws, c.in-Some.ensures.steps, c.in_err-check_constant.was))

pub check_elements-loop-field-init : goal.check_elements-loop-field-init
check_elements-loop-field-init t c = rw c.into_iter-field-iterator.ensures.into_iter_gives (search (rules, element_laws))

pub check_elements-returns-in_default : goal.check_elements-returns-in_default
check_elements-returns-in_default t c = search (rules, element_laws, c.in-Some.ensures.steps)

pub check_elements-loop-field-preserved : goal.check_elements-loop-field-preserved
check_elements-loop-field-preserved t c = search (rules, element_laws, c.in-Some.ensures.steps, c.in_ok-check_constant.was)

pub check_pairs-returns-in_default : goal.check_pairs-returns-in_default
check_pairs-returns-in_default t c = search (rules, pairs_laws)

pub check_pairs-returns-then-not-good_pair_name : goal.check_pairs-returns-then-not-good_pair_name
check_pairs-returns-then-not-good_pair_name t c = search (rules, pairs_laws)

pub check_pairs-returns-in_err-check_constant : goal.check_pairs-returns-in_err-check_constant
check_pairs-returns-in_err-check_constant t c =
    handed-on c.from_residual.ensures.1 (search (rules, pairs_laws, c.in_err-check_constant.was))

pub check_pairs-loop-at-preserved : goal.check_pairs-loop-at-preserved
check_pairs-loop-at-preserved t c = search (rules, pairs_laws, c.in_ok-check_constant.was)

pub check_pairs-returns : goal.check_pairs-returns
check_pairs-returns t c = search (rules, pairs_laws)
