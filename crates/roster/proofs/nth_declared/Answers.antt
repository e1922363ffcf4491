-- `roster::nth_declared` meets its contract, by its loop's invariant and laws.
-- Assumes nothing.
use Rattle.basis.proofs.Kit.{rules}
use Rattle.roster.proofs.RosterLaws.{declared_laws}
use Rattle.roster.proofs.nth_declared.Goals as goal

pub loop-field-init : goal.loop-field-init
loop-field-init c = rw c.into_iter-field-iterator.ensures.into_iter_gives (search (rules, declared_laws))

pub returns-in_default : goal.returns-in_default
returns-in_default c = search (rules, declared_laws, c.in-Some.ensures.steps)

pub returns-in-Ok : goal.returns-in-Ok
returns-in-Ok c = search (rules, declared_laws, c.in-Some.ensures.steps)

pub loop-field-preserved : goal.loop-field-preserved
loop-field-preserved c = search (rules, declared_laws, c.in-Some.ensures.steps)

pub returns : goal.returns
returns c = search (rules, declared_laws, c.in-None.ensures.steps)
