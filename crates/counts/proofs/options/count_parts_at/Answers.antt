-- `counts::options::count_parts_at` meets its contract.
-- Assumes nothing.
use Rattle.counts.proofs.OptionLaws.{parts_laws}
use Rattle.counts.proofs.options.count_parts_at.Goals as goal

pub loop-at-init : goal.loop-at-init
loop-at-init c = search parts_laws

pub returns-in_default : goal.returns-in_default
returns-in_default c = search parts_laws

pub loop-at-preserved : goal.loop-at-preserved
loop-at-preserved c = search parts_laws

pub returns : goal.returns
returns c = search parts_laws
