-- Closed cases of the definitions, which the checker computes: what stands where a field is due.
-- Assumes nothing.
use Rattle.std.specs.Prelude.{◌≡◌, refl, List, [], ◌∷◌, ℕ}
use Rattle.octets.specs.Octets.{big_at}
use Rattle.field.specs.Field.{field_at}
use Rattle.inputs.specs.declared.due.Due.TheVariants.{Here, Other, CutShort, Ended}
use Rattle.inputs.specs.inner.Due.{due_at}

-- ---- a field of tag 64 with two bytes, then one byte of another
input : List ℕ
input = 64 ∷ 0 ∷ 2 ∷ 7 ∷ 8 ∷ 65 ∷ []

due-here : due_at 64 input 0 ≡ Here 3 5
unfolding due_at field_at big_at input
due-here = refl

due-other : due_at 65 input 0 ≡ Other 64
unfolding due_at field_at big_at input
due-other = refl

due-cut : due_at 65 input 5 ≡ CutShort
unfolding due_at field_at big_at input
due-cut = refl

due-ended : due_at 65 input 6 ≡ Ended
unfolding due_at field_at big_at input
due-ended = refl
