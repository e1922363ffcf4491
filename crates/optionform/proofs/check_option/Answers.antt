-- `optionform::check_option` meets its contract.
-- Assumes nothing.
use Rattle.basis.proofs.Kit.{rules}
use Rattle.reply.proofs.VerdictLaws.{handed-on}
use Rattle.optionform.proofs.OptionLaws.{option_laws}
use Rattle.optionform.proofs.check_option.Goals as goal

pub returns-in_err-at : goal.returns-in_err-at
returns-in_err-at c = handed-on c.from_residual.ensures.1 (search (rules, option_laws, c.in_err-at.was))

pub returns : goal.returns
returns c = search (rules, option_laws, c.in_ok-at.was)
