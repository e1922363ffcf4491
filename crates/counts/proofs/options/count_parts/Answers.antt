-- `counts::options::count_parts` meets its contract.
-- Assumes nothing.
use Rattle.counts.proofs.OptionLaws.{names_laws}
use Rattle.counts.proofs.options.count_parts.Goals as goal

pub loop-at-init : goal.loop-at-init
loop-at-init c = search names_laws

pub returns-in_default-field_at : goal.returns-in_default-field_at
returns-in_default-field_at c = search names_laws

pub loop-at-preserved-then-field-eq-OPTION : goal.loop-at-preserved-then-field-eq-OPTION
loop-at-preserved-then-field-eq-OPTION c = search names_laws

pub loop-at-preserved : goal.loop-at-preserved
loop-at-preserved c = search names_laws

pub returns : goal.returns
returns c = search names_laws
