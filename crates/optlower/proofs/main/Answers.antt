-- `optlower::main` meets its contract. The buffers' lengths are laws and not computed: their bytes take antt seconds.
-- Assumes nothing.
use Rattle.std.specs.Prelude.{ℕ}
use Rattle.basis.specs.Kit.{sym}
use lib.ListN.{length-replicate}
use Rattle.optlower.proofs.main.Goals as goal

pub slice_bounds-run_over-end : goal.slice_bounds-run_over-end
slice_bounds-run_over-end c = sym (length-replicate {A = ℕ} 131076 0)

pub slice_bounds-run_over-end-2 : goal.slice_bounds-run_over-end-2
slice_bounds-run_over-end-2 c = sym (length-replicate {A = ℕ} 65536 0)
