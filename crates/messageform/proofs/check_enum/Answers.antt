-- `messageform::check_enum` meets its contract.
-- Assumes nothing.
use Rattle.basis.proofs.Kit.{rules}
use Rattle.reply.proofs.VerdictLaws.{handed-on}
use Rattle.messageform.proofs.MessageLaws.{enum_laws}
use Rattle.messageform.proofs.check_enum.Goals as goal

pub loop-field-init : goal.loop-field-init
loop-field-init c = rw c.into_iter-field-iterator.ensures.into_iter_gives (search (rules, enum_laws))

pub returns-in_default-field : goal.returns-in_default-field
returns-in_default-field c = search (rules, enum_laws, c.in-Some-field.ensures.steps)

pub returns-in_err-check_value : goal.returns-in_err-check_value
returns-in_err-check_value c = handed-on c.from_residual.ensures.1 (search (rules, enum_laws, c.in-Some-field.ensures.steps, c.in_err-check_value.was))

pub loop-field-preserved : goal.loop-field-preserved
loop-field-preserved c = search (rules, enum_laws, c.in-Some-field.ensures.steps, c.in_ok-check_value.was)
