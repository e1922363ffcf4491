-- `records::make_way` meets its contract.
-- Assumes nothing.
use Rattle.basis.proofs.Kit.{rules}
use Rattle.records.proofs.EnclosedLaws.{way_laws}
use Rattle.records.proofs.make_way.Goals as goal

pub move_on-requires : goal.move_on-requires
move_on-requires c = search (rules, way_laws)
