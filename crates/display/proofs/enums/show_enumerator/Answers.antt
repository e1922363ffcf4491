-- `display::enums::show_enumerator` meets its contract.
-- Assumes nothing.
use Rattle.display.proofs.PlaceLaws.{enum_laws}
use Rattle.display.proofs.enums.show_enumerator.Goals as goal

pub enum_at-requires : goal.enum_at-requires
enum_at-requires c = search enum_laws

pub value_at-requires : goal.value_at-requires
value_at-requires c = search (enum_laws, c.in-Some-field.ensures.steps)
