-- `listing::list_over` meets its contract.
-- Assumes nothing.
use Rattle.listing.proofs.CountLaws.{over_laws}
use Rattle.listing.proofs.list_over.Goals as goal

pub returns-else-out-n : goal.returns-else-out-n
returns-else-out-n c = search over_laws
