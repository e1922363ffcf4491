-- `display::side::show_before` meets its contract.
-- Assumes nothing.
use Rattle.display.proofs.WaitsLaws.{waits_laws}
use Rattle.display.proofs.side.show_before.Goals as goal

pub read_on-event-requires : goal.read_on-event-requires
read_on-event-requires c = search waits_laws
