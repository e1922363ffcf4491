-- `values::put_scalar` meets its contract.
-- Assumes nothing.
use Rattle.basis.proofs.Kit.{rules}
use Rattle.records.proofs.EmitsLaws.{hands-on}
use Rattle.values.proofs.ScalarLaws.{put_scalar_laws}
use Rattle.values.proofs.put_scalar.Goals as goal

pub returns-in_err-body : goal.returns-in_err-body
returns-in_err-body c = hands-on c.from_residual.ensures.1 (search (rules, put_scalar_laws, c.in_err-body.was))

pub returns : goal.returns
returns c = search (rules, put_scalar_laws, c.in_ok-body.was)
