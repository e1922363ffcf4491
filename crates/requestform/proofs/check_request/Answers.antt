-- `requestform::check_request` meets its contract.
-- Assumes nothing.
use Rattle.basis.proofs.Kit.{rules}
use Rattle.requestform.proofs.RequestLaws.{request_laws}
use Rattle.requestform.proofs.check_request.Goals as goal

pub returns : goal.returns
returns c = search (rules, request_laws)
