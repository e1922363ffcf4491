-- `roster::nth_extension` meets its contract.
-- Assumes nothing.
use Rattle.roster.proofs.RosterLaws.{extension_laws}
use Rattle.roster.proofs.nth_extension.Goals as goal

pub put_name-size-requires-clause-at_lt_from : goal.put_name-size-requires-clause-at_lt_from
put_name-size-requires-clause-at_lt_from c = search extension_laws
