-- `candidates::protobuf_path::ancestor` meets its contract.
-- Assumes nothing.
use Rattle.candidates.proofs.CandidateLaws.{climbed_laws}
use Rattle.candidates.proofs.protobuf_path.ancestor.Goals as goal

pub loop-k-init : goal.loop-k-init
loop-k-init c = search climbed_laws

pub returns : goal.returns
returns c = search climbed_laws
