-- `counts::options::count_options` meets its contract.
-- Assumes nothing.
use Rattle.std.specs.Prelude.{◌-◌, length}
use Rattle.request.specs.Request.{request_of}
use Rattle.field.proofs.Tally.{Tally}
use Rattle.counts.proofs.OptionLaws.{option_count}
use Rattle.counts.proofs.options.count_options.Given as goal

abbrev pub invariant-loop-at : goal.invariant-loop-at
invariant-loop-at l = Tally (length (request_of l.s).options) (option_count l.s) l.s l.initial.at l.end l.n l.at

abbrev pub decreases-loop-at : goal.decreases-loop-at
decreases-loop-at l = l.end - l.at
