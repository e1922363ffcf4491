-- The ways through a function that looks for a name, whatever its test.
-- Assumes nothing.
use Rattle.basis.proofs.Kit.{not-true, not-false}
use Rattle.field.proofs.LeafLaws.{leaf-none, leaf-bad, leaf-good, leaf-ordered, leaf-within}

pub ruleset name_laws = (leaf-none, leaf-bad, leaf-good, leaf-ordered, leaf-within, not-true, not-false)
