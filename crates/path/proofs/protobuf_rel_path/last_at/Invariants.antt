-- `path::protobuf_rel_path::last_at` meets its contract.
-- Assumes nothing.
use Rattle.path.proofs.Scans.{Tail}
use Rattle.path.proofs.protobuf_rel_path.last_at.Given as goal

abbrev pub invariant-loop-i : goal.invariant-loop-i
invariant-loop-i l = Tail l.s l.i
