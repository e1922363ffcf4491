-- `listing::list` meets its contract.
-- Assumes nothing.
use Rattle.listing.proofs.ListingLaws.{list_laws}
use Rattle.listing.proofs.list.Goals as goal

pub returns-in-Err : goal.returns-in-Err
returns-in-Err c = search list_laws

pub returns : goal.returns
returns c = search list_laws
