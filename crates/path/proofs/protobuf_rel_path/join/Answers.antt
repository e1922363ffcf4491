-- `path::protobuf_rel_path::join` meets its contract.
-- Assumes nothing.
use Rattle.path.proofs.JoinLaws.{join_laws}
use Rattle.path.proofs.JoinLaws.{join_laws}
use Rattle.path.proofs.protobuf_rel_path.join.Goals as goal

pub returns-then-b-eq0 : goal.returns-then-b-eq0
returns-then-b-eq0 c = search join_laws

pub returns : goal.returns
returns c = search join_laws
