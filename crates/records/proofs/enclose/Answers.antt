-- `records::enclose` meets its contract.
-- Assumes nothing.
use Rattle.records.proofs.EnclosedLaws.{enclosed}
use Rattle.records.proofs.enclose.Goals as goal

pub returns : goal.returns
returns c = search enclosed
