-- `counts::options::count_options` meets its contract.
-- Assumes nothing.
use Rattle.counts.proofs.OptionLaws.{options_laws}
use Rattle.counts.proofs.options.count_options.Goals as goal

pub loop-at-init : goal.loop-at-init
loop-at-init c = search options_laws

pub returns-in_default-field_at : goal.returns-in_default-field_at
returns-in_default-field_at c = search options_laws

pub loop-at-preserved-then-field-eq-OPTION : goal.loop-at-preserved-then-field-eq-OPTION
loop-at-preserved-then-field-eq-OPTION c = search options_laws

pub loop-at-preserved : goal.loop-at-preserved
loop-at-preserved c = search options_laws

pub returns : goal.returns
returns c = search options_laws
