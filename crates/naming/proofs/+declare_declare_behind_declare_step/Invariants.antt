-- `naming::declare`, `naming::declare_behind` and `naming::declare_step` meet their contracts.
-- Assumes nothing.
use Rattle.std.specs.Prelude.{◌+◌, ◌-◌, ◌*◌, length}
use Rattle.naming.proofs.+declare_declare_behind_declare_step.Given as goal

abbrev pub decreases-declare : goal.decreases-declare
decreases-declare l = 3 * (length l.name.now - l.from)

abbrev pub decreases-declare_behind : goal.decreases-declare_behind
decreases-declare_behind l = 3 * (length l.name.now - l.from) + 1

abbrev pub decreases-declare_step : goal.decreases-declare_step
decreases-declare_step l = 3 * (length l.name.now - l.from) + 2
