-- `records::put_head` meets its contract.
-- Assumes nothing.
use Rattle.records.proofs.RecordLaws.{tag_laws}
use Rattle.records.proofs.put_head.Goals as goal

pub put_varint-requires : goal.put_varint-requires
put_varint-requires c = search tag_laws

pub returns : goal.returns
returns c = search tag_laws
