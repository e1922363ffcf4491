-- `steps::reach_of` meets its contract.
-- Assumes nothing.
use Rattle.steps.proofs.ReachLaws.{reach_laws}
use Rattle.basis.proofs.Kit.{rules}
use Rattle.steps.proofs.reach_of.Goals as goal

pub returns : goal.returns
returns c = search reach_laws

pub step_of-step-requires-clause-name_value : goal.step_of-step-requires-clause-name_value
step_of-step-requires-clause-name_value c = search (rules, reach_laws)
