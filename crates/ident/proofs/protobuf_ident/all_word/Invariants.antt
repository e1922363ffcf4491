-- `ident::protobuf_ident::all_word` meets its contract, by its loop's invariant.
-- Assumes nothing.
use Rattle.ident.proofs.IdentLaws.{Words}
use Rattle.ident.proofs.protobuf_ident.all_word.Given as goal

abbrev pub invariant-loop-b : goal.invariant-loop-b
invariant-loop-b l = Words l.s l.b-index
