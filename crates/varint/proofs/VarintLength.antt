-- How many bytes a varint has, by the powers of 128 that its number lies between: one law, and its instances with the limits of
-- `varint_len`.
-- Assumes nothing.
use Rattle.std.specs.Prelude.{◌≡◌, ℕ, zero, suc, ◌-◌, ◌/◌, ◌^◌, ◌≤◌, ◌<◌, length}
use Rattle.basis.proofs.Kit.{arith}
use native.Mathlib.Nat.{pow-suc, one-le-pow, lt_of_lt_of_le}
use Rattle.limits.specs.Figures.{most_varint}
use Rattle.varint.specs.Varint.{varint_within, varint}
use Rattle.varint.proofs.VarintLaws.{within-one, within_more}

-- k groups of seven bits between the first and the last, where m bytes at the most follow the first
length-within : (m k v : ℕ) → k < m → 128 ^ suc k ≤ v → v < 128 ^ suc (suc k) → length (varint_within m v) ≡ suc (suc k)
length-within zero k v room low high = absurd (omega arith)
length-within (suc m) zero v room low high = rw (within_more m v low, within-one m (v / 128) (omega arith))
length-within (suc m) (suc k) v room low high =
    let some = one-le-pow (suc k) 128 (omega arith) in
    let least = pow-suc 128 (suc k) in
    let limit = pow-suc 128 (suc (suc k)) in
    rw (within_more m v (omega arith), length-within m k (v / 128) (omega arith) (omega arith) (omega arith))

module _ (v : ℕ) where
  length-between : (k : ℕ) → k < most_varint - 1 → 128 ^ suc k ≤ v → v < 128 ^ suc (suc k) → length (varint v) ≡ suc (suc k)
  unfolding varint
  length-between k = length-within (most_varint - 1) k v

  pub one_byte : v < 128 → length (varint v) ≡ 1
  unfolding varint
  one_byte h = rw (within-one (most_varint - 1) v h)

  pub two_bytes : 128 ≤ v → v < 16_384 → length (varint v) ≡ 2
  two_bytes = length-between 0 (omega arith)

  pub three-bytes : 16_384 ≤ v → v < 2_097_152 → length (varint v) ≡ 3
  three-bytes = length-between 1 (omega arith)

  pub four_bytes : 2_097_152 ≤ v → v < 268_435_456 → length (varint v) ≡ 4
  four_bytes = length-between 2 (omega arith)

  pub five-bytes : 268_435_456 ≤ v → v < 34_359_738_368 → length (varint v) ≡ 5
  five-bytes = length-between 3 (omega arith)

  pub six-bytes : 34_359_738_368 ≤ v → v < 4_398_046_511_104 → length (varint v) ≡ 6
  six-bytes = length-between 4 (omega arith)

  pub seven-bytes : 4_398_046_511_104 ≤ v → v < 562_949_953_421_312 → length (varint v) ≡ 7
  seven-bytes = length-between 5 (omega arith)

  pub eight-bytes : 562_949_953_421_312 ≤ v → v < 72_057_594_037_927_936 → length (varint v) ≡ 8
  eight-bytes = length-between 6 (omega arith)

  pub nine-bytes : 72_057_594_037_927_936 ≤ v → v < 9_223_372_036_854_775_808 → length (varint v) ≡ 9
  nine-bytes = length-between 7 (omega arith)

  pub ten-bytes : 9_223_372_036_854_775_808 ≤ v → v < 2 ^ 64 → length (varint v) ≡ 10
  ten-bytes low high = length-between 8 (omega arith) low (omega arith)

-- what is below a lower limit is below the limit: if one of the code's is too low, the length above it is refused, which is wrong, and
-- not the one below it, which holds
pub ruleset varint_lengths =
    (one_byte, two_bytes, three-bytes, four_bytes, five-bytes, six-bytes, seven-bytes, eight-bytes, nine-bytes, ten-bytes, lt_of_lt_of_le)
