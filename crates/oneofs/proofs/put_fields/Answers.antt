-- `oneofs::put_fields` meets its contract, by its loop's invariant and laws.
-- Assumes nothing.
use Rattle.basis.proofs.Kit.{rules}
use Rattle.oneofs.proofs.WritingLaws.{numbering_laws}
use Rattle.oneofs.proofs.put_fields.Goals as goal

pub returns-then-w-ne-MEMBER : goal.returns-then-w-ne-MEMBER
returns-then-w-ne-MEMBER c = search (rules, numbering_laws)

pub returns-then-member-eq0 : goal.returns-then-member-eq0
returns-then-member-eq0 c = search (rules, numbering_laws)

pub returns : goal.returns
returns c = search (rules, numbering_laws)
