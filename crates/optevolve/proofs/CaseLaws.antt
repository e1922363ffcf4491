-- What the program knows of a case: where its fields lie, and its options type in the request.
-- Assumes nothing.
use Rattle.field.proofs.LeafLaws.{leaf-ordered, leaf-within}
use Rattle.field.proofs.PartLaws.{span_ordered, span_within}
use Rattle.console.proofs.InputLaws.{input_laws}

pub ruleset case_laws = (leaf-ordered, leaf-within, input_laws)

pub ruleset read_laws = (span_ordered, span_within)
