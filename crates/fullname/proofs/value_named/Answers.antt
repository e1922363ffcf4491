-- `fullname::value_named` meets its contract.
-- Assumes nothing.
use Rattle.basis.proofs.Kit.{rules}
use Rattle.fullname.proofs.ValueLaws.{value_named_laws}
use Rattle.fullname.proofs.value_named.Goals as goal

pub returns-in-Some-value_named_at : goal.returns-in-Some-value_named_at
returns-in-Some-value_named_at c = search (value_named_laws, c.in-Some.ensures.steps, c.in_ok-field.was)

pub loop-field-init : goal.loop-field-init
loop-field-init c = rw c.into_iter-field-iterator.ensures.into_iter_gives (search (rules, value_named_laws))

pub returns-in_err-field : goal.returns-in_err-field
returns-in_err-field c = rw c.from_residual.ensures (search (value_named_laws, c.in-Some.ensures.steps, c.in_err-field.was))

pub loop-field-preserved : goal.loop-field-preserved
loop-field-preserved c = search (rules, value_named_laws, c.in-Some.ensures.steps, c.in_ok-field.was)
