-- `sheetform::check_files` meets its contract.
-- Assumes nothing.
use Rattle.basis.proofs.Kit.{rules}
use Rattle.reply.proofs.VerdictLaws.{handed-on}
use Rattle.sheetform.proofs.SheetLaws.{files_laws}
use Rattle.sheetform.proofs.check_files.Goals as goal

pub returns-in_err-check_file : goal.returns-in_err-check_file
returns-in_err-check_file c = handed-on c.from_residual.ensures.1 (search (rules, files_laws, c.in-Some.ensures.steps, c.in_err-check_file.was))

pub loop-field-preserved : goal.loop-field-preserved
loop-field-preserved c = search (rules, files_laws, c.in-Some.ensures.steps, c.in_ok-check_file.was)

pub loop-field-init : goal.loop-field-init
loop-field-init c = rw c.into_iter-field-iterator.ensures.into_iter_gives (search (rules, files_laws))

pub returns-in_default : goal.returns-in_default
returns-in_default c = search (rules, files_laws, c.in-Some.ensures.steps)
