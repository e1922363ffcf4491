-- `records::put_number` meets its contract.
-- Assumes nothing.
use Rattle.records.proofs.RecordLaws.{tag_laws}
use Rattle.records.proofs.put_number.Goals as goal

pub put_payload-requires : goal.put_payload-requires
put_payload-requires c = search tag_laws

pub returns : goal.returns
returns c = search tag_laws
