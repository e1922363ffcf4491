-- `query::follow_rows` meets its contract.
-- Assumes nothing.
use Rattle.query.proofs.SeenLaws.{seeing_laws}
use Rattle.query.proofs.follow_rows.Goals as goal
use Rattle.query.proofs.follow_rows.Goals.{then-step, else-step}

pub loop-event-preserved : goal.loop-event-preserved
loop-event-preserved c = elim c.if-step.branch [ then-step w ↦ rw w.best-is (search (seeing_laws, rw c.in-Ok-Some.field-0-is at c.in-Ok-Some.is, w.if-step.true)) | else-step w ↦ rw w.best-is (search (seeing_laws, rw c.in-Ok-Some.field-0-is at c.in-Ok-Some.is, w.if-step.false)) ]

pub returns-in-Err : goal.returns-in-Err
returns-in-Err c = search seeing_laws
