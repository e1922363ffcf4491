-- `cursor::next_scope` meets its contract.
-- Assumes nothing.
use Rattle.cursor.proofs.CursorLaws.{scopes_laws}
use Rattle.cursor.proofs.next_scope.Goals as goal

pub returns-in-Some : goal.returns-in-Some
returns-in-Some c = search scopes_laws

pub returns-then-names-c : goal.returns-then-names-c
returns-then-names-c c = search scopes_laws

pub loop-next-preserved : goal.loop-next-preserved
loop-next-preserved c = search scopes_laws
