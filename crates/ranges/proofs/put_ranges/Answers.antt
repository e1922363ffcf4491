-- `ranges::put_ranges` meets its contract, by its loop's invariant and laws.
-- Assumes nothing.
use Rattle.ranges.proofs.RangeLaws.{ranging_laws}
use Rattle.ranges.proofs.put_ranges.Goals as goal

pub loop-i-init : goal.loop-i-init
loop-i-init c = search ranging_laws

pub returns-in_default : goal.returns-in_default
returns-in_default c = search ranging_laws

pub loop-i-preserved : goal.loop-i-preserved
loop-i-preserved c = search ranging_laws

pub returns : goal.returns
returns c = search ranging_laws
