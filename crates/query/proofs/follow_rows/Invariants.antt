-- `query::follow_rows` meets its contract, by its loop's invariant and laws.
-- Assumes nothing.
use Rattle.std.specs.Prelude.{◌-◌, length}
use Rattle.lookups.specs.Lookups.{walking}
use Rattle.levels.specs.inner.Left.{left}
use Rattle.query.proofs.SeenLaws.{Seeing}
use Rattle.query.proofs.follow_rows.Given as goal

abbrev pub invariant-loop-event : goal.invariant-loop-event
invariant-loop-event l =
    Seeing l.sheet l.options_type l.bytes l.keys l.count (left (walking l.sheet) l.sheet l.options_type l.bytes l.initial.stack l.initial.cursor.depth l.initial.cursor.at)
    l.stack l.cursor l.matched l.counts l.best

abbrev pub decreases-loop-event : goal.decreases-loop-event
decreases-loop-event l =
    length l.bytes - l.cursor.at
