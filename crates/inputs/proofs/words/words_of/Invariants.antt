-- `inputs::words::words_of` meets its contract, by its loop's invariant and laws.
-- Assumes nothing.
use Rattle.std.specs.Prelude.{ℕ, ◌*◌, length}
use Rattle.octets.specs.Octets.{big_at}
use Rattle.inputs.proofs.WordLaws.{Filling}
use Rattle.inputs.proofs.words.words_of.Given as goal

abbrev pub invariant-loop-i : goal.invariant-loop-i
invariant-loop-i l = Filling (λ (j : ℕ). big_at 4 l.payload (j * 4)) 0 (length l.payload) l.initial.out l.out l.n l.i
