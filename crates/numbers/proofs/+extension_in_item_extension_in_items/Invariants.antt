-- `numbers::extension_in_item` and `numbers::extension_in_items` meet their contracts. Each call is nearer to the last level.
-- Assumes nothing.
use Rattle.std.specs.Prelude.{◌+◌, ◌*◌, None}
use Rattle.field.proofs.InFields.{SeekingIn}
use Rattle.scope.specs.inner.Steps.{tells_declared, first_of}
use Rattle.numbers.specs.Number.{is_extension_of}
use Rattle.numbers.proofs.NumberLaws.{item_where}
use Rattle.numbers.proofs.+extension_in_item_extension_in_items.Given as goal

abbrev pub decreases-extension_in_item : goal.decreases-extension_in_item
decreases-extension_in_item l = 2 * l.left

abbrev pub decreases-extension_in_items : goal.decreases-extension_in_items
decreases-extension_in_items l = 2 * l.left + 1

abbrev pub invariant-extension_in_items-loop-field : goal.invariant-extension_in_items-loop-field
invariant-extension_in_items-loop-field l =
    SeekingIn None (first_of tells_declared) (item_where (is_extension_of l.s l.message l.number) l.left l.s) l.s l.fn.body.from l.fn.body.to l.field-iterator
