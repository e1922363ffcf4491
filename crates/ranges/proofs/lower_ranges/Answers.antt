-- `ranges::lower_ranges` meets its contract.
-- Assumes nothing.
use Rattle.ranges.proofs.RangeLaws.{ranges_laws}
use Rattle.ranges.proofs.lower_ranges.Goals as goal

pub returns-then-out-n : goal.returns-then-out-n
returns-then-out-n c = search ranges_laws

pub returns-in-Err : goal.returns-in-Err
returns-in-Err c = search ranges_laws

pub returns-else-out-n : goal.returns-else-out-n
returns-else-out-n c = search ranges_laws
