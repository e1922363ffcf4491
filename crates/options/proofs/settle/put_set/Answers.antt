-- `settle::put_set` meets its contract.
-- Assumes nothing.
use Rattle.options.proofs.settle.SettleLaws.{put_set_laws}
use Rattle.options.proofs.settle.put_set.Goals as goal

pub returns-in_default : goal.returns-in_default
returns-in_default c = search put_set_laws

pub returns : goal.returns
returns c = search put_set_laws
