-- `path::protobuf_rel_path::count` meets its contract.
-- Assumes nothing.
use Rattle.path.proofs.Scans.{counted_laws}
use Rattle.path.proofs.protobuf_rel_path.count.Goals as goal

pub returns-then-s-end : goal.returns-then-s-end
returns-then-s-end c = search counted_laws

pub loop-n-preserved : goal.loop-n-preserved
loop-n-preserved c = search counted_laws
