-- `resolver::write` meets its contract.
-- Assumes nothing.
use Rattle.resolver.proofs.WriteLaws.{write_laws}
use Rattle.basis.proofs.Kit.{rules}
use Rattle.resolver.proofs.write.Goals as goal

pub answer_in-answer-requires : goal.answer_in-answer-requires
answer_in-answer-requires c = search (rules, write_laws)

pub overflow_cast-granted : goal.overflow_cast-granted
overflow_cast-granted c = search (rules, write_laws)

pub slice_bounds-put_records-end : goal.slice_bounds-put_records-end
slice_bounds-put_records-end c = search (rules, write_laws)

pub slice_bounds-put_records-end-2 : goal.slice_bounds-put_records-end-2
slice_bounds-put_records-end-2 c = search (rules, write_laws)

pub shape_of-notes : goal.shape_of-notes
shape_of-notes c = search (rules, write_laws)

pub shape_of-out : goal.shape_of-out
shape_of-out c = search (rules, write_laws)

pub returns : goal.returns
returns c = search (rules, write_laws)
