-- What 01's rounding means, in the logic's own account of IEEE 754 (`lib.Ieee`): its `round` takes a fraction to the nearest value of a
-- format, ties to even, and past the largest to an infinity, and its `to_bits binary32 nan` is 7FC00000.
--
--   signed_of minus n == the integer of a sign and a size
--        int_bits f z == the bits of the value of the format f that is nearest to the integer z
--           narrow x == a double's value at the format of a float, rounded once
--       narrow_bits b == the bits of a float from the bits of a double
--
-- Assumes nothing.
use Rattle.std.specs.Prelude.{Bool, true, false, ℕ, ◌*◌, ℤ, pos, neg_ℤ, Float}
use Rattle.std.specs.Float.{nan, inf, fin, Format, binary32, binary64}
use Rattle.std.specs.Float.Ieee.{up, down, round, of_int, of_bits, to_bits}

abbrev pub signed_of : (minus : Bool) (size : ℕ) → ℤ
signed_of true n = neg_ℤ (pos n)
signed_of false n = pos n

-- 01, Option steps: "on float and double they round to nearest, ties to even" [ROUND-1]
unfoldable pub int_bits : Format → ℤ → ℕ
int_bits f z = to_bits f (of_int f z)

-- 01, Option steps: "A float constant fits double exactly and float by the same rounding, overflow to infinity, NaN to 7FC00000"
-- [ROUND-2, ROUND-3]
unfoldable pub narrow : Float → Float
narrow nan = nan
narrow (inf s) = inf s
narrow (fin s m e) = round binary32 s (m * up e) (down e)

unfoldable pub narrow_bits : (bits : ℕ) → ℕ
narrow_bits b = to_bits binary32 (narrow (of_bits binary64 b))
