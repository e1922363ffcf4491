-- `requestform::check_options` meets its contract.
-- Assumes nothing.
use Rattle.basis.proofs.Kit.{rules}
use Rattle.reply.proofs.VerdictLaws.{handed-on}
use Rattle.requestform.proofs.RequestLaws.{options_laws}
use Rattle.requestform.proofs.check_options.Goals as goal

pub returns-in_err-check_option : goal.returns-in_err-check_option
returns-in_err-check_option c = handed-on c.from_residual.ensures.1 (search (rules, options_laws, c.in-Some.ensures.steps, c.in_err-check_option.was))

pub loop-field-preserved : goal.loop-field-preserved
loop-field-preserved c = search (rules, options_laws, c.in-Some.ensures.steps, c.in_ok-check_option.was)

pub loop-field-init : goal.loop-field-init
loop-field-init c = rw c.into_iter-field-iterator.ensures.into_iter_gives (search (rules, options_laws))

pub returns-in_default : goal.returns-in_default
returns-in_default c = search (rules, options_laws, c.in-Some.ensures.steps)
