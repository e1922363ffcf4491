-- `by_name::put_constant` meets its contract.
-- Assumes nothing.
use Rattle.options.proofs.settle.PutLaws.{constant_laws}
use Rattle.options.proofs.by_name.put_constant.Goals as goal

pub returns-in_default : goal.returns-in_default
returns-in_default c = search constant_laws

pub put_value-wrote-requires : goal.put_value-wrote-requires
put_value-wrote-requires c = search constant_laws

pub returns : goal.returns
returns c = search constant_laws
