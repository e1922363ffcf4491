-- `find::put_found` meets its contract.
-- Assumes nothing.
use Rattle.find.proofs.FindLaws.{put_found_laws}
use Rattle.find.proofs.put_found.Goals as goal

pub returns : goal.returns
returns c = search put_found_laws
