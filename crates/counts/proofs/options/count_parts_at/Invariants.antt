-- `counts::options::count_parts_at` meets its contract.
-- Assumes nothing.
use Rattle.std.specs.Prelude.{◌-◌}
use Rattle.field.specs.Walk.{walk}
use Rattle.field.proofs.Tally.{Tally}
use Rattle.counts.proofs.OptionLaws.{part_count}
use Rattle.counts.proofs.options.count_parts_at.Given as goal

abbrev pub invariant-loop-at : goal.invariant-loop-at
invariant-loop-at l = Tally (part_count (walk l.s l.from l.to)) part_count l.s l.from l.to l.n l.at

abbrev pub decreases-loop-at : goal.decreases-loop-at
decreases-loop-at l = l.to - l.at
