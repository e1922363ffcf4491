-- `fullname::find_message_by_abs_name` meets its contract.
-- Assumes nothing.
use Rattle.std.specs.Prelude.{◌≡◌, Some}
use Rattle.fullname.proofs.FullNameLaws.{message_by_name_laws}
use Rattle.fullname.proofs.find_message_by_abs_name.Goals as goal

pub next_message-requires-2 : goal.next_message-requires-2
next_message-requires-2 c =
    let first : c.next_message.result ≡ Some c.in_ok-first.first = rw c.in_ok-first.was at c.ok_or.ensures.ok_part in
    search message_by_name_laws
