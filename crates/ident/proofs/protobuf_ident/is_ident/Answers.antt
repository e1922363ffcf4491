-- `ident::protobuf_ident::is_ident` meets its contract.
-- Assumes nothing.
use Rattle.basis.proofs.Kit.{rules}
use Rattle.ident.proofs.IdentLaws.{ident_laws}
use Rattle.ident.proofs.protobuf_ident.is_ident.Goals as goal

pub returns-then-s-eq0 : goal.returns-then-s-eq0
returns-then-s-eq0 c = search (rules, ident_laws)

pub returns-then-s-gt-MOST_IDENT : goal.returns-then-s-gt-MOST_IDENT
returns-then-s-gt-MOST_IDENT c = search (rules, ident_laws)

pub bounds-s-0 : goal.bounds-s-0
bounds-s-0 c = search (rules, ident_laws)

pub is_letter-requires : goal.is_letter-requires
is_letter-requires c = search (rules, ident_laws)

pub returns-then-not-is_letter : goal.returns-then-not-is_letter
returns-then-not-is_letter c = search (rules, ident_laws)

pub all_word-requires : goal.all_word-requires
all_word-requires c = search (rules, ident_laws)

pub returns : goal.returns
returns c = search (rules, ident_laws)
