-- `cursor::follow` meets its contract.
-- Assumes nothing.
use Rattle.cursor.proofs.ScopesLaws.{follow_laws}
use Rattle.cursor.proofs.follow.Goals as goal

pub slice_bounds-down-end : goal.slice_bounds-down-end
slice_bounds-down-end c = search follow_laws

pub loop-at-preserved : goal.loop-at-preserved
loop-at-preserved c = search (follow_laws, c.in_ok-reached.was)
