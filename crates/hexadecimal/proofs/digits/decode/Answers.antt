-- `hexadecimal::digits::decode` meets its contract, by its loop's invariant and laws.
-- Assumes nothing.
use Rattle.basis.proofs.Kit.{rules}
use Rattle.hexadecimal.proofs.SpellingLaws.{spelling_laws}
use Rattle.hexadecimal.proofs.digits.decode.Goals as goal

pub returns-then-d-eq-OTHER : goal.returns-then-d-eq-OTHER
returns-then-d-eq-OTHER c = search (rules, spelling_laws)

pub returns-then-half-eq-BLANK-2 : goal.returns-then-half-eq-BLANK-2
returns-then-half-eq-BLANK-2 c = search (rules, spelling_laws)

pub returns : goal.returns
returns c = search (rules, spelling_laws)
