-- `optevolve::lowered::tell_listing` meets its contract. The room's length is a law and not computed: its elements take antt seconds.
-- Assumes nothing.
use Rattle.std.specs.Prelude.{ℕ}
use Rattle.basis.specs.Kit.{sym}
use lib.ListN.{length-replicate}
use Rattle.optevolve.proofs.lowered.tell_listing.Goals as goal

pub slice_bounds-list_over-end : goal.slice_bounds-list_over-end
slice_bounds-list_over-end c = sym (length-replicate {A = ℕ} 524288 0)
