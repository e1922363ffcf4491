-- `find::name_in` meets its contract.
-- Assumes nothing.
use Rattle.find.proofs.FindLaws.{name_in_laws}
use Rattle.find.proofs.name_in.Goals as goal

pub returns-in-Err : goal.returns-in-Err
returns-in-Err c = search name_in_laws

pub returns-in_default-finding_tested : goal.returns-in_default-finding_tested
returns-in_default-finding_tested c = search name_in_laws

pub returns : goal.returns
returns c = search name_in_laws
