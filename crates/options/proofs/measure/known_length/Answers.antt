-- `options::measure::known_length` meets its contract.
-- Assumes nothing.
use Rattle.options.proofs.MeasureLaws.{known_length_laws}
use Rattle.basis.proofs.Kit.{rules}
use Rattle.options.proofs.measure.known_length.Goals as goal

pub put_known-requires-clause-start_len_bound : goal.put_known-requires-clause-start_len_bound
put_known-requires-clause-start_len_bound c = search (rules, known_length_laws)
