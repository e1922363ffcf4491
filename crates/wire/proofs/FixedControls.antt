-- Numbers of a fixed width: closed cases.
-- Assumes nothing.
use Rattle.std.specs.Prelude.{◌≡◌, refl, [], ◌∷◌}
use Rattle.wire.specs.Fixed.{little_of, little}

little-four : (little_of 4 0x01020304 ≡ 0x04 ∷ 0x03 ∷ 0x02 ∷ 0x01 ∷ []) × (little (0x04 ∷ 0x03 ∷ 0x02 ∷ 0x01 ∷ []) ≡ 0x01020304)
unfolding little_of little
little-four = (refl, refl)

-- what the width does not hold is left out
little-past : (little_of 1 0xff ≡ 0xff ∷ []) × (little_of 1 0x100 ≡ 0x00 ∷ []) × (little_of 0 1 ≡ [])
unfolding little_of
little-past = (refl, refl, refl)
