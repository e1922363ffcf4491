-- `query::query` meets its contract.
-- Assumes nothing.
use Rattle.query.proofs.CallLaws.{query_laws}
use Rattle.query.proofs.query.Goals as goal

pub returns-in-Err : goal.returns-in-Err
returns-in-Err c = search query_laws

pub returns : goal.returns
returns c = search query_laws
