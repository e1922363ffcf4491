-- Closed cases, which antt computes, that hold the definitions of specs/ to 01 and to IEEE 754: of each rule one that holds, one at the
-- limit and one past it. The definitions are believed, so a wrong clause need break no other proof. Assumes nothing.
use Rattle.std.specs.Prelude.{◌≡◌, refl, true, false, List, [], ◌∷◌, map, ℕ}
use lib.Ieee.{Format, binary32, binary64, of_int, of_bits, round, to_bits}
use Rattle.round.specs.Rounding.{signed_of, int_bits, narrow, narrow_bits}

-- f gives the second number of each pair at the first
abbrev Gives : (ℕ → ℕ) → List (ℕ × ℕ) → Type 0
Gives f cases = map (λ (c : ℕ × ℕ). f c.0) cases ≡ map (λ (c : ℕ × ℕ). c.1) cases

abbrev plus : Format → ℕ → ℕ
plus f n = int_bits f (signed_of false n)

abbrev minus : Format → ℕ → ℕ
minus f n = int_bits f (signed_of true n)

-- ---- integers to float
-- 0, 1 and 2 ^ 24, up to which every whole number is a float
exact-32 : Gives (plus binary32) ((0, 0) ∷ (1, 0x3f80_0000) ∷ (16777215, 0x4b7f_ffff) ∷ (16777216, 0x4b80_0000) ∷ [])
unfolding int_bits of_int to_bits
exact-32 = refl

-- 2 ^ 24 + 1 is a tie and goes down to the even one, 2 ^ 24 + 2 is a float, 2 ^ 24 + 3 is a tie and goes up to the even one
tie-32 : Gives (plus binary32) ((16777217, 0x4b80_0000) ∷ (16777218, 0x4b80_0001) ∷ (16777219, 0x4b80_0002) ∷ [])
unfolding int_bits of_int to_bits
tie-32 = refl

-- one below a tie, the tie, one above it
near-32 : Gives (plus binary32) ((33554433, 0x4c00_0000) ∷ (33554434, 0x4c00_0000) ∷ (33554435, 0x4c00_0001) ∷ [])
unfolding int_bits of_int to_bits
near-32 = refl

-- one below the tie with 2 ^ 64, that tie, and 2 ^ 64 - 1
last-32 : Gives (plus binary32)
    ((0xffff_ff7f_ffff_ffff, 0x5f7f_ffff) ∷ (0xffff_ff80_0000_0000, 0x5f80_0000) ∷ (0xffff_ffff_ffff_ffff, 0x5f80_0000) ∷ [])
unfolding int_bits of_int to_bits
last-32 = refl

-- minus nothing is plus zero; -1; ties; 1 - 2 ^ 64
minus-32 : Gives (minus binary32)
    ((0, 0) ∷ (1, 0xbf80_0000) ∷ (16777217, 0xcb80_0000) ∷ (16777219, 0xcb80_0002) ∷ (0xffff_ffff_ffff_ffff, 0xdf80_0000) ∷ [])
unfolding int_bits of_int to_bits
minus-32 = refl

-- ---- integers to double
-- 0, 1 and 2 ^ 53
exact-64 : Gives (plus binary64)
    ((0, 0)
    ∷ (1, 0x3ff0_0000_0000_0000)
    ∷ (0x1f_ffff_ffff_ffff, 0x433f_ffff_ffff_ffff)
    ∷ (0x20_0000_0000_0000, 0x4340_0000_0000_0000)
    ∷ [])
unfolding int_bits of_int to_bits
exact-64 = refl

-- 2 ^ 53 + 1 is a tie and goes down to the even one, 2 ^ 53 + 2 is a double, 2 ^ 53 + 3 is a tie and goes up to the even one
tie-64 : Gives (plus binary64)
    ((0x20_0000_0000_0001, 0x4340_0000_0000_0000)
    ∷ (0x20_0000_0000_0002, 0x4340_0000_0000_0001)
    ∷ (0x20_0000_0000_0003, 0x4340_0000_0000_0002)
    ∷ [])
unfolding int_bits of_int to_bits
tie-64 = refl

-- one below the tie with 2 ^ 64, that tie, and 2 ^ 64 - 1
last-64 : Gives (plus binary64)
    ((0xffff_ffff_ffff_fbff, 0x43ef_ffff_ffff_ffff)
    ∷ (0xffff_ffff_ffff_fc00, 0x43f0_0000_0000_0000)
    ∷ (0xffff_ffff_ffff_ffff, 0x43f0_0000_0000_0000)
    ∷ [])
unfolding int_bits of_int to_bits
last-64 = refl

minus-64 : Gives (minus binary64)
    ((0, 0)
    ∷ (1, 0xbff0_0000_0000_0000)
    ∷ (0x20_0000_0000_0001, 0xc340_0000_0000_0000)
    ∷ (0xffff_ffff_ffff_ffff, 0xc3f0_0000_0000_0000)
    ∷ [])
unfolding int_bits of_int to_bits
minus-64 = refl

-- ---- double to float
-- 0; 1.5, which is a float; 0.1, which is rounded up
narrow-some : Gives narrow_bits ((0, 0) ∷ (0x3ff8_0000_0000_0000, 0x3fc0_0000) ∷ (0x3fb9_9999_9999_999a, 0x3dcc_cccd) ∷ [])
unfolding narrow_bits narrow round of_bits to_bits
narrow-some = refl

-- 1 + 2 ^ -24 is a tie and goes down to the even one, the next double goes up; so the other way below 1 + 3 * 2 ^ -24 and at it
narrow-tie : Gives narrow_bits
    ((0x3ff0_0000_1000_0000, 0x3f80_0000)
    ∷ (0x3ff0_0000_1000_0001, 0x3f80_0001)
    ∷ (0x3ff0_0000_2fff_ffff, 0x3f80_0001)
    ∷ (0x3ff0_0000_3000_0000, 0x3f80_0002)
    ∷ [])
unfolding narrow_bits narrow round of_bits to_bits
narrow-tie = refl

-- the largest float; just below half a unit more; half a unit more, either sign; the largest double
narrow-over : Gives narrow_bits
    ((0x47ef_ffff_e000_0000, 0x7f7f_ffff)
    ∷ (0x47ef_ffff_efff_ffff, 0x7f7f_ffff)
    ∷ (0x47ef_ffff_f000_0000, 0x7f80_0000)
    ∷ (0xc7ef_ffff_f000_0000, 0xff80_0000)
    ∷ (0x7fef_ffff_ffff_ffff, 0x7f80_0000)
    ∷ [])
unfolding narrow_bits narrow round of_bits to_bits
narrow-over = refl

-- the least float with all its digits, 2 ^ -126; the double before it, which is rounded up to it; the float before it
narrow-low : Gives narrow_bits
    ((0x3810_0000_0000_0000, 0x80_0000) ∷ (0x380f_ffff_ffff_ffff, 0x80_0000) ∷ (0x380f_ffff_c000_0000, 0x7f_ffff) ∷ [])
unfolding narrow_bits narrow round of_bits to_bits
narrow-low = refl

-- the least float, 2 ^ -149; half of it, a tie to zero; the double after that; one and a half of it, a tie to two; the least double
narrow-least : Gives narrow_bits
    ((0x36a0_0000_0000_0000, 1) ∷ (0x3690_0000_0000_0000, 0) ∷ (0x3690_0000_0000_0001, 1) ∷ (0x36a8_0000_0000_0000, 2) ∷ (1, 0) ∷ [])
unfolding narrow_bits narrow round of_bits to_bits
narrow-least = refl

-- -0; what is rounded to it, the least double and half the least float
narrow-minus : Gives narrow_bits
    ((0x8000_0000_0000_0000, 0x8000_0000) ∷ (0x8000_0000_0000_0001, 0x8000_0000) ∷ (0xb690_0000_0000_0000, 0x8000_0000) ∷ [])
unfolding narrow_bits narrow round of_bits to_bits
narrow-minus = refl

-- the infinities, and beside them the first and the last NaN of either sign
narrow-special : Gives narrow_bits
    ((0x7ff0_0000_0000_0000, 0x7f80_0000)
    ∷ (0x7ff0_0000_0000_0001, 0x7fc0_0000)
    ∷ (0x7fff_ffff_ffff_ffff, 0x7fc0_0000)
    ∷ (0xfff0_0000_0000_0000, 0xff80_0000)
    ∷ (0xfff0_0000_0000_0001, 0x7fc0_0000)
    ∷ (0xffff_ffff_ffff_ffff, 0x7fc0_0000)
    ∷ [])
unfolding narrow_bits narrow of_bits to_bits
narrow-special = refl
