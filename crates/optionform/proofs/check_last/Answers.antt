-- `optionform::check_last` meets its contract.
-- Assumes nothing.
use Rattle.basis.proofs.Kit.{rules}
use Rattle.reply.proofs.VerdictLaws.{handed-on}
use Rattle.optionform.proofs.OptionLaws.{last_laws}
use Rattle.optionform.proofs.check_last.Goals as goal

pub returns-in_err-check_constant : goal.returns-in_err-check_constant
returns-in_err-check_constant c = handed-on c.from_residual.ensures.1 (search (rules, last_laws, c.in_err-check_constant.was))

pub returns : goal.returns
returns c = search (rules, last_laws, c.in_ok-check_constant.was)
