-- `roster::nth_in_item`, `roster::nth_in_items` and `roster::nth_in_message` meet their contracts. Each call is nearer to
-- the last level.
-- Assumes nothing.
use Rattle.std.specs.Prelude.{◌+◌, ◌*◌, take}
use Rattle.roster.proofs.Finding.{FindingIn}
use Rattle.roster.proofs.RosterLaws.{in_item}
use Rattle.roster.proofs.+nth_in_item_nth_in_items_nth_in_message.Given as goal

abbrev pub decreases-nth_in_item : goal.decreases-nth_in_item
decreases-nth_in_item l = 3 * l.left + 1

abbrev pub decreases-nth_in_items : goal.decreases-nth_in_items
decreases-nth_in_items l = 3 * l.left + 2

abbrev pub decreases-nth_in_message : goal.decreases-nth_in_message
decreases-nth_in_message l = 3 * l.left

abbrev pub invariant-nth_in_items-loop-field : goal.invariant-nth_in_items-loop-field
invariant-nth_in_items-loop-field l =
    FindingIn (in_item l.s (take l.at l.initial.room) l.left) l.s l.fn.body.from l.fn.body.to l.i l.at l.initial.room l.room l.k l.field-iterator
