-- `census::in_item` and `census::in_items` meet their contracts. Each call is nearer to the last level.
-- Assumes nothing.
use Rattle.std.specs.Prelude.{◌+◌, ◌*◌}
use Rattle.field.specs.Walk.{walk}
use Rattle.field.proofs.InFields.{TallyIn}
use Rattle.field.proofs.Tally.{total}
use Rattle.sheet.specs.Tree.{items_in}
use Rattle.census.specs.inner.Census.{items_asked}
use Rattle.census.proofs.ItemLaws.{item_asked}
use Rattle.census.proofs.+in_item_in_items.Given as goal

abbrev pub decreases-in_item : goal.decreases-in_item
decreases-in_item l = 2 * l.left

abbrev pub decreases-in_items : goal.decreases-in_items
decreases-in_items l = 2 * l.left + 1

abbrev pub invariant-in_items-loop-field : goal.invariant-in_items-loop-field
invariant-in_items-loop-field l =
    TallyIn (items_asked l.text l.asked l.o l.s l.way (items_in l.left l.s (walk l.s l.fn.body.from l.end))) (total (item_asked l.text l.asked l.o l.s l.way l.left)) l.s l.fn.body.from l.end l.n l.field-iterator
