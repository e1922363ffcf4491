-- `find::find_tested` meets its contract.
-- Assumes nothing.
use Rattle.find.proofs.FindLaws.{find_tested_laws}
use Rattle.find.proofs.find_tested.Goals as goal

pub returns-in-Err : goal.returns-in-Err
returns-in-Err c = search find_tested_laws

pub returns-in-Ok : goal.returns-in-Ok
returns-in-Ok c = search find_tested_laws
