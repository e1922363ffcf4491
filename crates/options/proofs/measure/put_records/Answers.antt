-- `options::measure::put_records` meets its contract.
-- Assumes nothing.
use Rattle.options.proofs.PutLaws.{put_records_laws}
use Rattle.basis.proofs.Kit.{rules}
use Rattle.options.proofs.measure.put_records.Goals as goal

pub returns : goal.returns
returns c = search put_records_laws

pub put_known-next-requires-clause-start_len_bound : goal.put_known-next-requires-clause-start_len_bound
put_known-next-requires-clause-start_len_bound c = search (rules, put_records_laws)

pub gather-requires-clause-roomy : goal.gather-requires-clause-roomy
gather-requires-clause-roomy c = search (rules, put_records_laws)
