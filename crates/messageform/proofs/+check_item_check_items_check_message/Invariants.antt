-- `messageform::check_item`, `messageform::check_items` and `messageform::check_message`, a cycle of calls, meet their contracts.
-- Assumes nothing.
use Rattle.std.specs.Prelude.{◌+◌, ◌*◌}
use Rattle.field.proofs.InFields.{RestIn}
use Rattle.messageform.specs.Form.{judge_items}
use Rattle.messageform.proofs.MessageLaws.{items}
use Rattle.messageform.proofs.+check_item_check_items_check_message.Given as goal

abbrev pub decreases-check_item : goal.decreases-check_item
decreases-check_item l = 3 * l.left + 1

abbrev pub decreases-check_items : goal.decreases-check_items
decreases-check_items l = 3 * l.left + 2

abbrev pub decreases-check_message : goal.decreases-check_message
decreases-check_message l = 3 * l.left

abbrev pub invariant-check_items-loop-field : goal.invariant-check_items-loop-field
invariant-check_items-loop-field l = RestIn (judge_items l.left l.fields l.s l.fn.from l.fn.to) (items l.left l.fields l.s) l.s l.fn.to l.field-iterator
