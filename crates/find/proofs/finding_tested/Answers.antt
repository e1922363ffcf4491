-- `find::finding_tested` meets its contract.
-- Assumes nothing.
use Rattle.reply.proofs.VerdictLaws.{handed-on}
use Rattle.find.proofs.FindingLaws.{finding_laws}
use Rattle.find.proofs.finding_tested.Goals as goal

pub returns-in_err-check_length : goal.returns-in_err-check_length
returns-in_err-check_length c = handed-on c.from_residual.ensures.1 (search (finding_laws, c.in_err-check_length.was))

pub returns-in_err-check_scope : goal.returns-in_err-check_scope
returns-in_err-check_scope c =
    handed-on c.from_residual-in_err-check_scope.ensures.1
    (search (finding_laws, c.in_ok-check_length.was, c.in_err-check_scope.was))

pub returns-in_err-check_path : goal.returns-in_err-check_path
returns-in_err-check_path c =
    handed-on c.from_residual-in_err-check_path.ensures.1
    (search (finding_laws, c.in_ok-check_length.was, c.in_ok-check_scope.was, c.in_err-check_path.was))
