-- `numbers::extension_numbered` meets its contract.
-- Assumes nothing.
use Rattle.basis.proofs.Kit.{rules}
use Rattle.numbers.proofs.NumberLaws.{extension_numbered_laws}
use Rattle.numbers.proofs.extension_numbered.Goals as goal

pub returns-in-Some-extension_in_file : goal.returns-in-Some-extension_in_file
returns-in-Some-extension_in_file c = search (extension_numbered_laws, c.in-Some.ensures.steps, c.in_ok-field.was)

pub loop-field-init : goal.loop-field-init
loop-field-init c = rw c.into_iter-field-iterator.ensures.into_iter_gives (search (rules, extension_numbered_laws))

pub returns-in_err-field : goal.returns-in_err-field
returns-in_err-field c = rw c.from_residual.ensures (search (extension_numbered_laws, c.in-Some.ensures.steps, c.in_err-field.was))

pub loop-field-preserved : goal.loop-field-preserved
loop-field-preserved c = search (rules, extension_numbered_laws, c.in-Some.ensures.steps, c.in_ok-field.was)
