-- `settle::builtin_part` meets its contract.
-- Assumes nothing.
use Rattle.basis.proofs.Kit.{rules}
use Rattle.options.proofs.settle.BuiltinPartLaws.{builtin_part_laws}
use Rattle.options.proofs.settle.builtin_part.Goals as goal

pub returns-then-is_some : goal.returns-then-is_some
returns-then-is_some c = search (rules, builtin_part_laws, c.in_ok-part.was)
