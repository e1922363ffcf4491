-- `settle::settle_named` meets its contract.
-- Assumes nothing.
use Rattle.options.proofs.settle.SettleLaws.{settle_named_laws}
use Rattle.options.proofs.settle.settle_named.Goals as goal

pub returns-in-Ok : goal.returns-in-Ok
returns-in-Ok c = search settle_named_laws

pub returns-in-Err : goal.returns-in-Err
returns-in-Err c = search settle_named_laws
