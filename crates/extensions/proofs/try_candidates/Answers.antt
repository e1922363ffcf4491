-- `extensions::try_candidates` meets its contract.
-- Assumes nothing.
use Rattle.extensions.proofs.ExtensionLaws.{try_candidates_laws}
use Rattle.extensions.proofs.try_candidates.Goals as goal
use Rattle.basis.proofs.Kit.{rules}

pub slice_bounds-find_extension_by_abs_path-end-in-loop-i : goal.slice_bounds-find_extension_by_abs_path-end-in-loop-i
slice_bounds-find_extension_by_abs_path-end-in-loop-i c = search (rules, try_candidates_laws)

pub returns-in-Ok : goal.returns-in-Ok
returns-in-Ok c = search (rules, try_candidates_laws)

pub loop-i-preserved : goal.loop-i-preserved
loop-i-preserved c = search (rules, try_candidates_laws)
