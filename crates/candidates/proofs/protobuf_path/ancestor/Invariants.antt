-- `candidates::protobuf_path::ancestor` meets its contract.
-- Assumes nothing.
use Rattle.candidates.proofs.CandidateLaws.{Climbed}
use Rattle.candidates.proofs.protobuf_path.ancestor.Given as goal

abbrev pub invariant-loop-k : goal.invariant-loop-k
invariant-loop-k l = Climbed l.s l.i l.end l.k
