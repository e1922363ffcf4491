-- `oneofs::lower_fields` meets its contract.
-- Assumes nothing.
use Rattle.oneofs.proofs.DeclaredLaws.{answered_declared}
use Rattle.oneofs.proofs.lower_fields.Goals as goal

pub returns : goal.returns
returns c = search answered_declared
