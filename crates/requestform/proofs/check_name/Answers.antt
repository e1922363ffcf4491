-- `requestform::check_name` meets its contract.
-- Assumes nothing.
use Rattle.basis.proofs.Kit.{rules}
use Rattle.reply.proofs.VerdictLaws.{handed-on, says}
use Rattle.requestform.proofs.RequestLaws.{name_laws}
use Rattle.requestform.proofs.check_name.Goals as goal

pub returns-in_err-at : goal.returns-in_err-at
returns-in_err-at c = says _ _ (handed-on c.from_residual.ensures.1 (search (rules, name_laws, c.in_err-at.was)))

pub returns : goal.returns
returns c = search (rules, name_laws, c.in_ok-at.was)
