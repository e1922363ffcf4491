-- `cursor::next_here` meets its contract.
-- Assumes nothing.
use Rattle.cursor.proofs.CursorLaws.{here_laws}
use Rattle.cursor.proofs.next_here.Goals as goal

pub loop-at-preserved : goal.loop-at-preserved
loop-at-preserved c = search (here_laws, c.in_ok-field.was)
