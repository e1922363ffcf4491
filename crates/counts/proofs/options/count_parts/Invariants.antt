-- `counts::options::count_parts` meets its contract.
-- Assumes nothing.
use Rattle.std.specs.Prelude.{◌-◌}
use Rattle.request.specs.Request.{request_of}
use Rattle.counts.specs.Options.{parts_of}
use Rattle.field.proofs.Tally.{Tally}
use Rattle.counts.proofs.OptionLaws.{name_count}
use Rattle.counts.proofs.options.count_parts.Given as goal

abbrev pub invariant-loop-at : goal.invariant-loop-at
invariant-loop-at l = Tally (parts_of (request_of l.s).options) (name_count l.s) l.s l.initial.at l.end l.n l.at

abbrev pub decreases-loop-at : goal.decreases-loop-at
decreases-loop-at l = l.end - l.at
