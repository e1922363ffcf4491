-- `candidates::protobuf_path::candidate` meets its contract.
-- Assumes nothing.
use Rattle.basis.proofs.Kit.{rules}
use Rattle.candidates.proofs.CandidateLaws.{candidate_laws}
use Rattle.candidates.proofs.protobuf_path.candidate.Goals as goal

pub returns-then-is_abs : goal.returns-then-is_abs
returns-then-is_abs c = search (rules, candidate_laws)

pub returns-then-i-count : goal.returns-then-i-count
returns-then-i-count c = search (rules, candidate_laws)

pub returns : goal.returns
returns c = search (rules, candidate_laws)
