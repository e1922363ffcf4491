-- `path::protobuf_rel_path::all_ident` meets its contract.
-- Assumes nothing.
use Rattle.std.specs.Prelude.{◌-◌, length}
use Rattle.path.proofs.Scans.{Checked}
use Rattle.path.proofs.protobuf_rel_path.all_ident.Given as goal

abbrev pub invariant-loop-from : goal.invariant-loop-from
invariant-loop-from l = Checked l.s l.from l.at

abbrev pub decreases-loop-from : goal.decreases-loop-from
decreases-loop-from l = length l.s - l.at
