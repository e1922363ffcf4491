-- `inputs::words::signed_words_of` meets its contract, by its loop's invariant and laws.
-- Assumes nothing.
use Rattle.std.specs.Prelude.{ℕ, ◌*◌, length}
use lib.IntN.{pos}
use mir.Syntax.{w32}
use mir.Val.{to_z}
use Rattle.octets.specs.Octets.{big_at}
use Rattle.inputs.proofs.WordLaws.{Filling}
use Rattle.inputs.proofs.words.signed_words_of.Given as goal

abbrev pub invariant-loop-i : goal.invariant-loop-i
invariant-loop-i l = Filling (λ (j : ℕ). to_z w32 (big_at 4 l.payload (j * 4))) (pos 0) (length l.payload) l.initial.out l.out l.n l.i
