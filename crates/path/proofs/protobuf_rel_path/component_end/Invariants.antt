-- `path::protobuf_rel_path::component_end` meets its contract.
-- Assumes nothing.
use Rattle.path.proofs.Scans.{Ending}
use Rattle.path.proofs.protobuf_rel_path.component_end.Given as goal

abbrev pub invariant-loop-i : goal.invariant-loop-i
invariant-loop-i l = Ending l.s l.at l.i
