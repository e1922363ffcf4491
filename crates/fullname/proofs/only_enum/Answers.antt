-- `fullname::only_enum` meets its contract.
-- Assumes nothing.
use Rattle.std.specs.Prelude.{◌≡◌, Some}
use Rattle.fullname.proofs.FullNameLaws.{only_enum_laws}
use Rattle.fullname.proofs.only_enum.Goals as goal

pub next_enum-requires-2 : goal.next_enum-requires-2
next_enum-requires-2 c =
    let first : c.next_enum.result ≡ Some c.in_ok-first.first = rw c.in_ok-first.was at c.ok_or.ensures.ok_part in
    search only_enum_laws

pub returns : goal.returns
returns c =
    let first : c.next_enum.result ≡ Some c.in_ok-first.first = rw c.in_ok-first.was at c.ok_or.ensures.ok_part in
    search only_enum_laws
