-- `roster::put_name` meets its contract.
-- Assumes nothing.
use Rattle.roster.proofs.RosterLaws.{name_spelt}
use Rattle.roster.proofs.put_name.Goals as goal

pub returns : goal.returns
returns c = search name_spelt
