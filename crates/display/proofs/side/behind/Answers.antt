-- `display::side::behind` meets its contract.
-- Assumes nothing.
use Rattle.display.proofs.WaitsLaws.{waits_laws}
use Rattle.display.proofs.side.behind.Goals as goal

pub read_on-requires : goal.read_on-requires
read_on-requires c = search (waits_laws, c.in_ok-waiting.was)
