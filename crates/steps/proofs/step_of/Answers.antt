-- `steps::step_of` meets its contract.
-- Assumes nothing.
use Rattle.steps.proofs.StepLaws.{step_laws}
use Rattle.steps.proofs.step_of.Goals as goal

pub returns-then-part : goal.returns-then-part
returns-then-part c = search step_laws
