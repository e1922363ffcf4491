-- What the program knows of a case: where its fields lie.
-- Assumes nothing.
use Rattle.field.proofs.LeafLaws.{leaf-within}
use Rattle.console.proofs.InputLaws.{input-laws}

pub ruleset case-laws = (leaf-within, input-laws)
