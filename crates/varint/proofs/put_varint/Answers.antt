-- `varint::put_varint` meets its contract, by its loop's invariant and laws.
-- Assumes nothing.
use Rattle.varint.proofs.VarintLoops.{writing_laws}
use Rattle.varint.proofs.put_varint.Goals as goal

pub overflow_add-i : goal.overflow_add-i
overflow_add-i c = search writing_laws

pub overflow_add-result : goal.overflow_add-result
overflow_add-result c = search writing_laws

pub returns : goal.returns
returns c = search writing_laws
