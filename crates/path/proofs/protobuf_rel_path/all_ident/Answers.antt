-- `path::protobuf_rel_path::all_ident` meets its contract.
-- Assumes nothing.
use Rattle.path.proofs.Scans.{checked_laws}
use Rattle.path.proofs.protobuf_rel_path.all_ident.Goals as goal

pub slice_bounds-is_ident-end : goal.slice_bounds-is_ident-end
slice_bounds-is_ident-end c = search checked_laws
