-- `optc::opt_sheet` meets its contract.
-- Assumes nothing.
use Rattle.optc.proofs.FormLaws.{says_answer}
use Rattle.optc.proofs.opt_sheet.Goals as goal

pub returns : goal.returns
returns c = search says_answer
