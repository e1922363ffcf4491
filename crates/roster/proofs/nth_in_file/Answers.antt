-- `roster::nth_in_file` meets its contract.
-- Assumes nothing.
use Rattle.field.proofs.LeafLaws.{leaf_inside}
use Rattle.roster.proofs.RosterLaws.{file_laws, leaf_laws}
use Rattle.basis.proofs.Kit.{rules}
use Rattle.roster.proofs.nth_in_file.Goals as goal

pub returns-then-tag-ne-FILE : goal.returns-then-tag-ne-FILE
returns-then-tag-ne-FILE c = search (rules, file_laws, leaf_inside, leaf_laws)

pub returns-in_default : goal.returns-in_default
returns-in_default c = search (rules, file_laws, leaf_inside, leaf_laws)

pub returns-then-package : goal.returns-then-package
returns-then-package c = search (rules, file_laws, leaf_inside, leaf_laws)

pub put_inside-size-requires-clause-at_lt_from : goal.put_inside-size-requires-clause-at_lt_from
put_inside-size-requires-clause-at_lt_from c = search (rules, file_laws, leaf_inside, leaf_laws)

pub returns : goal.returns
returns c = search (rules, file_laws, leaf_inside, leaf_laws)
