-- `console::input::read` meets its contract. The buffer's length is a law and not computed: its half a million bytes take antt seconds.
-- Assumes nothing.
use Rattle.std.specs.Prelude.{ℕ}
use Rattle.basis.specs.Kit.{sym}
use lib.ListN.{length-replicate}
use Rattle.console.proofs.input.read.Goals as goal

pub slice_bounds-read_by-end : goal.slice_bounds-read_by-end
slice_bounds-read_by-end c = sym (length-replicate {A = ℕ} 524288 0)
