-- `display::side::show_from` meets its contract.
-- Assumes nothing.
use Rattle.display.proofs.WaitsLaws.{waits_laws}
use Rattle.display.proofs.side.show_from.Goals as goal

pub read_on-left-requires : goal.read_on-left-requires
read_on-left-requires c = search waits_laws
