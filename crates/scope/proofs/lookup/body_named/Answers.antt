-- `scope::lookup::body_named` meets its contract.
-- Assumes nothing.
use Rattle.basis.proofs.Kit.{rules}
use Rattle.scope.proofs.LookupLaws.{body_named_laws}
use Rattle.scope.proofs.lookup.body_named.Goals as goal

pub loop-field-init : goal.loop-field-init
loop-field-init c = rw c.into_iter-field-iterator.ensures.into_iter_gives (search (rules, body_named_laws))

pub returns-in_err-field : goal.returns-in_err-field
returns-in_err-field c = rw c.from_residual.ensures (search (body_named_laws, c.in-Some.ensures.steps, c.in_err-field.was))

pub returns-in-Some-body_at : goal.returns-in-Some-body_at
returns-in-Some-body_at c = search (body_named_laws, c.in-Some.ensures.steps, c.in_ok-field.was)
