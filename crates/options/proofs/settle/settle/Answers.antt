-- `settle::settle` meets its contract.
-- Assumes nothing.
use Rattle.options.proofs.settle.SettleLaws.{settle_laws}
use Rattle.options.proofs.settle.settle.Goals as goal

pub returns-in_default : goal.returns-in_default
returns-in_default c = search settle_laws

pub returns : goal.returns
returns c = search settle_laws
