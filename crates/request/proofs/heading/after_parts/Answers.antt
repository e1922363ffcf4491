-- `request::heading::after_parts` meets its contract.
-- Assumes nothing.
use Rattle.request.proofs.RequestLaws.{after_laws}
use Rattle.request.proofs.heading.after_parts.Goals as goal

pub loop-at-preserved : goal.loop-at-preserved
loop-at-preserved c = search after_laws
