-- `evolution::first::first_reason` meets its contract, by its loop's invariant and laws.
-- Assumes nothing.
use Rattle.evolution.proofs.RosterLaws.{first_reason_laws}
use Rattle.evolution.proofs.first.first_reason.Goals as goal

pub slice_bounds-name-end-in-loop-nth : goal.slice_bounds-name-end-in-loop-nth
slice_bounds-name-end-in-loop-nth c = search first_reason_laws

pub returns-in-Some : goal.returns-in-Some
returns-in-Some c = search first_reason_laws

pub overflow_add-i : goal.overflow_add-i
overflow_add-i c = search first_reason_laws

pub loop-nth-smaller : goal.loop-nth-smaller
loop-nth-smaller c = search first_reason_laws

pub loop-nth-preserved : goal.loop-nth-preserved
loop-nth-preserved c = search first_reason_laws
