-- `resolver::verdict` meets its contract.
-- Assumes nothing.
use Rattle.reply.proofs.VerdictLaws.{handed-on}
use Rattle.basis.proofs.Kit.{rules}
use Rattle.resolver.proofs.CallLaws.{verdict_laws}
use Rattle.resolver.proofs.verdict.Goals as goal

pub returns-in_err-check_sheet : goal.returns-in_err-check_sheet
returns-in_err-check_sheet c = handed-on c.from_residual.ensures.1 (search (rules, verdict_laws, c.in_err-check_sheet.was))
