-- `oneofs::lower_fields_by` meets its contract.
-- Assumes nothing.
use Rattle.oneofs.proofs.FieldLaws.{fields_laws}
use Rattle.oneofs.proofs.lower_fields_by.Goals as goal

pub returns-in-Err : goal.returns-in-Err
returns-in-Err c = search fields_laws

pub returns-else-out-n : goal.returns-else-out-n
returns-else-out-n c = search fields_laws
