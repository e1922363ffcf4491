-- `reasons::members::flaw_of_members` meets its contract.
-- Assumes nothing.
use Rattle.basis.proofs.Kit.{rules}
use Rattle.reasons.proofs.MemberLaws.{member_flaws_laws}
use Rattle.reasons.proofs.members.flaw_of_members.Goals as goal

pub loop-field-init : goal.loop-field-init
loop-field-init c = rw c.into_iter-field-iterator.ensures.into_iter_gives (search (rules, member_flaws_laws))

pub returns-in_err-field : goal.returns-in_err-field
returns-in_err-field c = rw c.from_residual.ensures (search (rules, member_flaws_laws, c.in-Some.ensures.steps, c.in_err-field.was))

pub returns-in-Some-flaw_of_member : goal.returns-in-Some-flaw_of_member
returns-in-Some-flaw_of_member c = search (rules, member_flaws_laws, c.in-Some.ensures.steps, c.in_ok-field.was)

pub loop-field-preserved : goal.loop-field-preserved
loop-field-preserved c = search (rules, member_flaws_laws, c.in-Some.ensures.steps, c.in_ok-field.was)
