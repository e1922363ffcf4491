-- `query::query_tested` meets its contract.
-- Assumes nothing.
use Rattle.query.proofs.CallLaws.{query_tested_laws}
use Rattle.query.proofs.query_tested.Goals as goal

pub returns-in-Err : goal.returns-in-Err
returns-in-Err c = search query_tested_laws

pub returns-in-Ok : goal.returns-in-Ok
returns-in-Ok c = search query_tested_laws
