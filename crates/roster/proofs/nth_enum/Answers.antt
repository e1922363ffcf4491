-- `roster::nth_enum` meets its contract.
-- Assumes nothing.
use Rattle.roster.proofs.RosterLaws.{enum_laws}
use Rattle.roster.proofs.nth_enum.Goals as goal

pub put_name-size-requires-clause-at_lt_from : goal.put_name-size-requires-clause-at_lt_from
put_name-size-requires-clause-at_lt_from c = search enum_laws
