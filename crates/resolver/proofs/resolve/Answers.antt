-- `resolver::resolve` meets its contract.
-- Assumes nothing.
use Rattle.resolver.proofs.CallLaws.{resolve_laws}
use Rattle.resolver.proofs.resolve.Goals as goal

pub returns-in-Err : goal.returns-in-Err
returns-in-Err c = search resolve_laws

pub returns : goal.returns
returns c = search resolve_laws
