-- `reasons::members::count_named` meets its contract, by its loop's invariant and laws.
-- Assumes nothing.
use Rattle.basis.proofs.Kit.{rules}
use Rattle.reasons.proofs.MemberLaws.{count_named_laws}
use Rattle.reasons.proofs.members.count_named.Goals as goal

pub loop-field-init : goal.loop-field-init
loop-field-init c = rw c.into_iter-field-iterator.ensures.into_iter_gives (search (rules, count_named_laws))

pub returns-in_default : goal.returns-in_default
returns-in_default c = search (rules, count_named_laws, c.in-Some.ensures.steps)

pub loop-field-preserved : goal.loop-field-preserved
loop-field-preserved c = search (rules, count_named_laws, c.in-Some.ensures.steps)

pub returns : goal.returns
returns c = search (rules, count_named_laws, c.in-None.ensures.steps)
