-- `reasons::members::flaw_of_members` meets its contract, by its loop's invariant and laws.
-- Assumes nothing.
use Rattle.std.specs.Prelude.{None}
use Rattle.field.specs.Walk.{walk}
use Rattle.field.proofs.InFields.{SeekingIn}
use Rattle.reasons.specs.Reasons.{also}
use Rattle.reasons.specs.inner.Members.{members_in}
use Rattle.reasons.proofs.MemberLaws.{flaw_at}
use Rattle.reasons.proofs.members.flaw_of_members.Given as goal

abbrev pub invariant-loop-field : goal.invariant-loop-field
invariant-loop-field l =
    SeekingIn None also (flaw_at l.s l.why l.index (members_in l.want l.s (walk l.s l.fn.body.from l.fn.body.to)) l.want) l.s l.fn.body.from l.fn.body.to l.field-iterator
