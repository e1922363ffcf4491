-- `optevolve::lowered::tell_read` meets its contract.
-- Assumes nothing.
use Rattle.optevolve.proofs.CaseLaws.{read_laws}
use Rattle.optevolve.proofs.lowered.tell_read.Goals as goal

pub slice_bounds-tell_bytes-count : goal.slice_bounds-tell_bytes-count
slice_bounds-tell_bytes-count c = search read_laws

pub slice_bounds-tell_bytes-start : goal.slice_bounds-tell_bytes-start
slice_bounds-tell_bytes-start c = search read_laws

pub slice_bounds-tell_bytes-end : goal.slice_bounds-tell_bytes-end
slice_bounds-tell_bytes-end c = search read_laws
