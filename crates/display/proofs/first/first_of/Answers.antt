-- `display::first::first_of` meets its contract.
-- Assumes nothing.
use Rattle.display.proofs.WaitsLaws.{first_laws}
use Rattle.display.proofs.first.first_of.Goals as goal

pub read_on-requires : goal.read_on-requires
read_on-requires c = search first_laws
