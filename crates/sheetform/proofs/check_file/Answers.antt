-- `sheetform::check_file` meets its contract.
-- Assumes nothing.
use Rattle.basis.proofs.Kit.{rules}
use Rattle.sheetform.proofs.SheetLaws.{file_laws}
use Rattle.sheetform.proofs.check_file.Goals as goal

pub returns : goal.returns
returns c = search (rules, file_laws)
