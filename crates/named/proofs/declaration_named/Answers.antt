-- `named::declaration_named` meets its contract.
-- Assumes nothing.
use Rattle.basis.proofs.Kit.{rules}
use Rattle.named.proofs.NamedLaws.{declaration_named_laws}
use Rattle.named.proofs.declaration_named.Goals as goal

pub returns-in-Some-declaration_named_at : goal.returns-in-Some-declaration_named_at
returns-in-Some-declaration_named_at c = search (declaration_named_laws, c.in-Some.ensures.steps, c.in_ok-field.was)

pub loop-field-init : goal.loop-field-init
loop-field-init c = rw c.into_iter-field-iterator.ensures.into_iter_gives (search (rules, declaration_named_laws))

pub returns-in_err-field : goal.returns-in_err-field
returns-in_err-field c = rw c.from_residual.ensures (search (declaration_named_laws, c.in-Some.ensures.steps, c.in_err-field.was))

pub loop-field-preserved : goal.loop-field-preserved
loop-field-preserved c = search (rules, declaration_named_laws, c.in-Some.ensures.steps, c.in_ok-field.was)
