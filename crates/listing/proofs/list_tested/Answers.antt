-- `listing::list_tested` meets its contract.
-- Assumes nothing.
use Rattle.listing.proofs.ListingLaws.{list_tested_laws}
use Rattle.listing.proofs.list_tested.Goals as goal

pub returns-in-Err : goal.returns-in-Err
returns-in-Err c = search list_tested_laws

pub returns-in-Ok : goal.returns-in-Ok
returns-in-Ok c = search list_tested_laws
