-- `settle::settled_built` meets its contract.
-- Assumes nothing.
use Rattle.options.proofs.settle.SettleLaws.{settled_built_laws}
use Rattle.options.proofs.settle.settled_built.Goals as goal

pub returns-in-Err : goal.returns-in-Err
returns-in-Err c = search settled_built_laws
