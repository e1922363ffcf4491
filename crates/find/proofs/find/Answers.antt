-- `find::find` meets its contract.
-- Assumes nothing.
use Rattle.find.proofs.FindLaws.{find_laws}
use Rattle.find.proofs.find.Goals as goal

pub returns-in-Err : goal.returns-in-Err
returns-in-Err c = search find_laws

pub returns : goal.returns
returns c = search find_laws
