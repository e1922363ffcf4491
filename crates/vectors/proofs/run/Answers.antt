-- `vectors::run` meets its contract, by its loop's invariant and laws.
-- Assumes nothing.
use Rattle.vectors.proofs.CaseLaws.{run_laws}
use Rattle.basis.proofs.Kit.{rules}
use Rattle.vectors.proofs.run.Goals as goal

pub loop-at-preserved : goal.loop-at-preserved
loop-at-preserved c = search (rules, run_laws)
