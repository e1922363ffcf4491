-- `find::found_name` meets its contract.
-- Assumes nothing.
use Rattle.find.proofs.FindLaws.{found_name_laws}
use Rattle.find.proofs.found_name.Goals as goal

pub returns-in_default : goal.returns-in_default
returns-in_default c = search found_name_laws

pub returns-in_default-span_in : goal.returns-in_default-span_in
returns-in_default-span_in c = search found_name_laws

pub slice_bounds-name_in-count : goal.slice_bounds-name_in-count
slice_bounds-name_in-count c = search found_name_laws

pub slice_bounds-name_in-start : goal.slice_bounds-name_in-start
slice_bounds-name_in-start c = search found_name_laws

pub slice_bounds-name_in-end : goal.slice_bounds-name_in-end
slice_bounds-name_in-end c = search found_name_laws

pub slice_bounds-name_in-count-2 : goal.slice_bounds-name_in-count-2
slice_bounds-name_in-count-2 c = search found_name_laws

pub slice_bounds-name_in-start-2 : goal.slice_bounds-name_in-start-2
slice_bounds-name_in-start-2 c = search found_name_laws

pub slice_bounds-name_in-end-2 : goal.slice_bounds-name_in-end-2
slice_bounds-name_in-end-2 c = search found_name_laws

pub returns : goal.returns
returns c = search found_name_laws
