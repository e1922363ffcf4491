-- `evolution::first::fields_reason` meets its contract, by its loop's invariant and laws.
-- Assumes nothing.
use Rattle.basis.proofs.Kit.{rules}
use Rattle.evolution.proofs.FieldLaws.{fields_laws}
use Rattle.evolution.proofs.first.fields_reason.Goals as goal

pub loop-field-init : goal.loop-field-init
loop-field-init c = rw c.into_iter-field-iterator.ensures.into_iter_gives (search (rules, fields_laws))

pub returns-in_err-field : goal.returns-in_err-field
returns-in_err-field c = rw c.from_residual.ensures (search (rules, fields_laws, c.in-Some.ensures.steps, c.in_err-field.was))

pub returns-in-Some-field_reason : goal.returns-in-Some-field_reason
returns-in-Some-field_reason c = search (rules, fields_laws, c.in-Some.ensures.steps, c.in_ok-field.was)

pub loop-field-preserved : goal.loop-field-preserved
loop-field-preserved c = search (rules, fields_laws, c.in-Some.ensures.steps, c.in_ok-field.was)
