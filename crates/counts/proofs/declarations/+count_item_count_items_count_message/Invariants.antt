-- `count_item`, `count_items` and `count_message` of `counts::declarations` end: each call is nearer to the last level. The loop's invariant.
-- Assumes nothing.
use Rattle.std.specs.Prelude.{◌+◌, ◌*◌}
use Rattle.field.specs.Walk.{walk}
use Rattle.sheet.specs.Tree.{items_in}
use Rattle.counts.specs.Declarations.{items_hold}
use Rattle.counts.specs.inner.Fields.{item_count}
use Rattle.field.proofs.InFields.{TallyIn}
use Rattle.field.proofs.Tally.{total}
use Rattle.counts.proofs.declarations.+count_item_count_items_count_message.Given as goal

abbrev pub decreases-count_item : goal.decreases-count_item
decreases-count_item l = 3 * l.left + 1

abbrev pub decreases-count_items : goal.decreases-count_items
decreases-count_items l = 3 * l.left + 2

abbrev pub decreases-count_message : goal.decreases-count_message
decreases-count_message l = 3 * l.left

abbrev pub invariant-count_items-loop-field : goal.invariant-count_items-loop-field
invariant-count_items-loop-field l =
    TallyIn (items_hold l.want (items_in l.left l.s (walk l.s l.fn.from l.fn.to))) (total (item_count l.want l.left l.s)) l.s l.fn.from l.fn.to l.n l.field-iterator
