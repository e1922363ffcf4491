-- `listing::put_rows` meets its contract.
-- Assumes nothing.
use Rattle.listing.proofs.RowLaws.{rowing_laws}
use Rattle.listing.proofs.put_rows.Goals as goal

pub loop-event-init : goal.loop-event-init
loop-event-init c = search rowing_laws

pub returns-in-Ok-None-clause-puts : goal.returns-in-Ok-None-clause-puts
returns-in-Ok-None-clause-puts c = search (rowing_laws, rw c.in-Ok-None.field-0-is at c.in-Ok-None.is)

pub returns-in-Ok-None-clause-few : goal.returns-in-Ok-None-clause-few
returns-in-Ok-None-clause-few c = search rowing_laws

pub returns-in-Err-clause-puts : goal.returns-in-Err-clause-puts
returns-in-Err-clause-puts c = search rowing_laws
