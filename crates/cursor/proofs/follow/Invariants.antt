-- `cursor::follow` meets its contract.
-- Assumes nothing.
use Rattle.std.specs.Prelude.{suc, ◌-◌, length}
use Rattle.path.specs.inner.Places.{names_from}
use Rattle.scope.specs.Scope.{holding}
use Rattle.scopes.specs.Scopes.{follow}
use Rattle.cursor.proofs.ScopesLaws.{Following}
use Rattle.cursor.proofs.follow.Given as goal

abbrev pub invariant-loop-at : goal.invariant-loop-at
invariant-loop-at l = Following (follow l.s (names_from l.names l.next) (holding l.s l.initial.reached)) l.s l.names l.at l.reached

abbrev pub decreases-loop-at : goal.decreases-loop-at
decreases-loop-at l = suc (length l.names) - l.at
