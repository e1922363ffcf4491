-- `path::protobuf_rel_path::count` meets its contract.
-- Assumes nothing.
use Rattle.std.specs.Prelude.{◌-◌, length}
use Rattle.path.proofs.Scans.{Counted}
use Rattle.path.proofs.protobuf_rel_path.count.Given as goal

abbrev pub invariant-loop-n : goal.invariant-loop-n
invariant-loop-n l = Counted l.s l.n l.at

abbrev pub decreases-loop-n : goal.decreases-loop-n
decreases-loop-n l = length l.s - l.at
