-- `sheetform::check_sheet` meets its contract.
-- Assumes nothing.
use Rattle.basis.proofs.Kit.{rules}
use Rattle.reply.proofs.VerdictLaws.{handed-on, says}
use Rattle.sheetform.proofs.SheetLaws.{sheet_laws}
use Rattle.sheetform.proofs.check_sheet.Goals as goal

pub returns-in_err-check_length : goal.returns-in_err-check_length
returns-in_err-check_length c = says _ _ (handed-on c.from_residual.ensures.1 (search (rules, sheet_laws, c.in_err-check_length.was)))
