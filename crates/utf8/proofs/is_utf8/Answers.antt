-- `utf8::is_utf8` meets its contract, by its loop's invariant and laws.
-- Assumes nothing.
use Rattle.utf8.proofs.Scan.{scan_laws}
use Rattle.utf8.proofs.is_utf8.Goals as goal

pub overflow_add-i : goal.overflow_add-i
overflow_add-i c = search scan_laws

pub loop-i-preserved : goal.loop-i-preserved
loop-i-preserved c = search scan_laws
