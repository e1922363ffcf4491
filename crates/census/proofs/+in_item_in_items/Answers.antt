-- What these functions promise follows from their laws.
-- Assumes nothing.
use Rattle.basis.proofs.Kit.{rules}
use Rattle.census.proofs.ItemLaws.{in_item_laws, in_items_laws}
use Rattle.census.proofs.+in_item_in_items.Goals as goal

pub in_item-returns-then-not-tag-left : goal.in_item-returns-then-not-tag-left
in_item-returns-then-not-tag-left t c = search (rules, in_item_laws)

pub in_item-returns-in_default : goal.in_item-returns-in_default
in_item-returns-in_default t c = search (rules, in_item_laws)

pub in_item-slice_bounds-onward-count : goal.in_item-slice_bounds-onward-count
in_item-slice_bounds-onward-count t c = search (rules, in_item_laws)

pub in_item-slice_bounds-onward-start : goal.in_item-slice_bounds-onward-start
in_item-slice_bounds-onward-start t c = search (rules, in_item_laws)

pub in_item-slice_bounds-onward-end : goal.in_item-slice_bounds-onward-end
in_item-slice_bounds-onward-end t c = search (rules, in_item_laws)

pub in_item-in_items-requires : goal.in_item-in_items-requires
in_item-in_items-requires t c = search (rules, in_item_laws)

pub in_item-returns : goal.in_item-returns
in_item-returns t c = search (rules, in_item_laws)

pub in_items-loop-field-init : goal.in_items-loop-field-init
in_items-loop-field-init t c = rw c.into_iter-field-iterator.ensures.into_iter_gives (search (rules, in_items_laws))

pub in_items-returns-in_default : goal.in_items-returns-in_default
in_items-returns-in_default t c = search (rules, in_items_laws, c.in-Some.ensures.steps)

pub in_items-loop-field-preserved : goal.in_items-loop-field-preserved
in_items-loop-field-preserved t c = search (rules, in_items_laws, c.in-Some.ensures.steps)

pub in_items-returns : goal.in_items-returns
in_items-returns t c = search (rules, in_items_laws, c.in-None.ensures.steps)
