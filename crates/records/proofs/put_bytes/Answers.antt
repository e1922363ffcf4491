-- `records::put_bytes` meets its contract.
-- Assumes nothing.
use Rattle.records.proofs.RecordLaws.{bytes_laws}
use Rattle.records.proofs.put_bytes.Goals as goal

pub put_all-requires : goal.put_all-requires
put_all-requires c = search bytes_laws

pub returns : goal.returns
returns c = search bytes_laws
