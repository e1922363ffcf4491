-- `fullname::next_message` meets its contract.
-- Assumes nothing.
use Rattle.fullname.proofs.FullNameLaws.{next_message_laws}
use Rattle.fullname.proofs.next_message.Goals as goal

pub returns-then-next : goal.returns-then-next
returns-then-next c = search (next_message_laws, c.in_ok-next.was)

pub loop-next-preserved : goal.loop-next-preserved
loop-next-preserved c = search (next_message_laws, c.in_ok-next.was)
