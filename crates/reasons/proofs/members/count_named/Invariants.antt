-- `reasons::members::count_named` meets its contract, by its loop's invariant and laws.
-- Assumes nothing.
use Rattle.basis.specs.Count.{count}
use Rattle.field.specs.Leaf.{is_text}
use Rattle.field.specs.Walk.{walk}
use Rattle.field.proofs.InFields.{TallyIn}
use Rattle.field.proofs.Tally.{total}
use Rattle.reasons.specs.inner.Members.{members_in}
use Rattle.reasons.proofs.MemberLaws.{one_named}
use Rattle.reasons.proofs.members.count_named.Given as goal

abbrev pub invariant-loop-field : goal.invariant-loop-field
invariant-loop-field l =
    TallyIn (count (is_text l.s l.name) (members_in l.want l.s (walk l.s l.fn.body.from l.fn.body.to))) (total (one_named l.want l.s l.name)) l.s l.fn.body.from l.fn.body.to l.n l.field-iterator
