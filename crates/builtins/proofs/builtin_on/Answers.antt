-- `builtins::builtin_on` meets its contract.
-- Assumes nothing.
use Rattle.std.specs.Prelude.{◌≡◌, Some}
use Rattle.basis.proofs.Kit.{rules}
use Rattle.builtins.proofs.BuiltinLaws.{on_laws}
use Rattle.builtins.proofs.builtin_on.Goals as goal

pub returns-then-is_plain : goal.returns-then-is_plain
returns-then-is_plain c =
    let held : c.constant_of.result ≡ Some c.in_ok-constant.constant = rw c.in_ok-constant.was at c.ok_or.ensures.ok_part in
    search (rules, on_laws, held)
