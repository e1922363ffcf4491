-- `vectors::main` meets its contract. The buffer's length is a law and not computed: its 131,076 bytes take antt seconds.
-- Assumes nothing.
use Rattle.std.specs.Prelude.{ℕ}
use Rattle.basis.specs.Kit.{sym}
use lib.ListN.{length-replicate}
use Rattle.vectors.proofs.main.Goals as goal

pub slice_bounds-run_over-end : goal.slice_bounds-run_over-end
slice_bounds-run_over-end c = sym (length-replicate {A = ℕ} 131076 0)
