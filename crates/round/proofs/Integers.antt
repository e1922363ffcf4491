-- The laws of the conversions of integers, at either format: the shift that brings the top bit to bit 63, the bits of an integer that is so
-- shifted, and the sign. Assumes nothing.
use Rattle.std.specs.Prelude.{◌≡◌, refl, Bool, true, false, ℕ, zero, suc, ◌+◌, ◌-◌, ◌*◌, ◌/◌, ◌%◌, ◌^◌, ◌≤◌, ◌<◌, ltb}
use Rattle.basis.specs.Kit.{sym, ap, ◌∙◌}
use Rattle.basis.proofs.Kit.{arith, w64, Fits}
use Prim.Native.Nat.{suc-le-suc, min}
use native.Mathlib.Nat.{le_trans, lt_of_le_of_lt, zero-lt-suc, one-mul, mul-le-mul_right, mod-eq_of_lt, min-eq_left}
use mir.Syntax.{Width}
use mir.Val.{bits}
use lib.IntN.{pos, neg_ℤ}
use lib.Dec.{T, ltb→lt, lit≤}
use lib.Pow.{pow-add, shl_lt}
use lib.Count.{count_leading_zeros, leading_top}
use lib.Ieee.{Format, binary32, binary64, prec, emax, low, hid, ones, top, round, of_int, to_bits}
use lib.Ieee.Nearest.{closest, div_mono}
use Rattle.round.specs.Rounding.{signed_of, int_bits}
use Rattle.round.proofs.Closest.{closest-le-pow, closest-le-suc}
use Rattle.round.proofs.Digits.{shift_same, lead-two}
use Rattle.round.proofs.RoundBits.{round-bits, round-signed}

-- ---- `norm_shift`: v's top bit is bit k, and the shift makes 64 with k + 1
module _ (v : ℕ) (P : 0 < v) (h : Fits w64 v) where
  pub norm-lt : count_leading_zeros 64 v < 64
  norm-lt = let t = leading_top 64 v P h.fits in omega arith

  pub norm-low : 2 ^ 63 ≤ v * 2 ^ count_leading_zeros 64 v
  norm-low =
      let t = leading_top 64 v P h.fits in
      let e : t.0 + count_leading_zeros 64 v ≡ 63 = omega arith in
      rw (← (pow-add 2 t.0 (count_leading_zeros 64 v)), e) at (mul-le-mul_right (2 ^ count_leading_zeros 64 v) t.2)

  pub norm-high : v * 2 ^ count_leading_zeros 64 v < 2 ^ 64
  norm-high =
      let t = leading_top 64 v P h.fits in
      let e : suc t.0 + count_leading_zeros 64 v ≡ 64 = omega arith in
      rw e at (shl_lt {a = v} (suc t.0) (count_leading_zeros 64 v) t.3)

pub ruleset norm_laws = (norm-lt, norm-low, norm-high)

-- ---- every format holds the size of a 64-bit integer
word_fits : (f : Format) → (2 ≤ prec f) × (prec f ≤ 64) × (63 ≤ emax f)
word_fits binary32 = (lit≤ tt, lit≤ tt, lit≤ tt)
word_fits binary64 = (lit≤ tt, lit≤ tt, lit≤ tt)

-- how many digits are dropped of a number whose top bit is brought to bit 63 by a shift of z, counted in units of the smallest value
abbrev dropped : Format → ℕ → ℕ
dropped f z = 64 + low f - prec f - z

-- v is such a number, and q the prec digits that are kept of it
module _ (f : Format) (v z q : ℕ) (Z : z < 64) (lo : 2 ^ 63 ≤ v * 2 ^ z) (hi : v * 2 ^ z < 2 ^ 64)
    (Q : q ≡ closest (v * 2 ^ z % 2 ^ 64) (2 ^ (64 - prec f))) where
  kept-is : closest (v * 2 ^ z) (2 ^ (64 - prec f)) ≡ q
  kept-is = sym (rw (mod-eq_of_lt hi) at Q)

  shifted-lt : v * 2 ^ z < 2 ^ (prec f + (64 - prec f))
  shifted-lt = let w = word_fits f in let e : prec f + (64 - prec f) ≡ 64 = omega arith in rw e hi

  shifted-ge : 2 ^ (prec f - 1 + (64 - prec f)) ≤ v * 2 ^ z
  shifted-ge = let w = word_fits f in let e : prec f - 1 + (64 - prec f) ≡ 63 = omega arith in rw e lo

  shifted-is : v * 2 ^ low f * 2 ^ (64 - prec f) ≡ v * 2 ^ z * (1 * 2 ^ dropped f z)
  shifted-is = let w = word_fits f in rw one-mul (shift_same v (low f) (64 - prec f) z (dropped f z) (omega arith))

  int-round : to_bits f (round f false v 1) ≡ min (dropped f z * hid f + q) (ones f * hid f)
  int-round =
      rw kept-is at (round-bits f v 1 (dropped f z) (v * 2 ^ z) (64 - prec f) (zero-lt-suc 0) shifted-is shifted-lt (λ k. shifted-ge))

  int_le : dropped f z * hid f + q ≤ ones f * hid f
  int_le =
      let w = word_fits f in
      let l : q ≤ 2 ^ prec f = rw kept-is at (closest-le-pow (v * 2 ^ z) (prec f) (64 - prec f) shifted-lt) in
      let m : suc (suc (dropped f z)) * hid f ≤ ones f * hid f = mul-le-mul_right (hid f) (omega arith) in
      omega (arith, lead-two (prec f) (omega arith) (dropped f z))

  pub int-bits : (e h : ℕ) → e ≡ 64 + low f - prec f → h ≡ hid f → (e - z) * h + q ≡ int_bits f (pos v)
  unfolding int_bits of_int
  int-bits e h E H = rw (E, H) (sym (int-round ∙ min-eq_left int_le))

pub int-zero : (f : Format) (v : ℕ) → v ≡ 0 → 0 ≡ int_bits f (pos v)
unfolding int_bits of_int to_bits
int-zero binary32 v e = rw e
int-zero binary64 v e = rw e

-- ---- what is kept of a 64-bit number is small, and so are the bits
module _ (m d q : ℕ) (Q : q ≡ closest (m % 2 ^ 64) d) (D : 0 < d) where
  kept-few : q ≤ suc (2 ^ 64 / d)
  kept-few = rw Q (le_trans (closest-le-suc (m % 2 ^ 64) d) (suc-le-suc (div_mono _ _ _ _ D D (mul-le-mul_right d (omega arith)))))

  pub kept-fits : (w : Width) → T (ltb (suc (2 ^ 64 / d)) (2 ^ bits w)) → Fits w q
  kept-fits w t = record { fits = lt_of_le_of_lt kept-few (ltb→lt _ _ t) }

  pub int-below : (e z h n : ℕ) → T (ltb (e * h + suc (2 ^ 64 / d)) n) → (e - z) * h + q < n
  int-below e z h n t =
      let l : (e - z) * h ≤ e * h = mul-le-mul_right h (omega arith) in
      omega (arith, kept-few, ltb→lt (e * h + suc (2 ^ 64 / d)) n t)

  pub int-fits : (w : Width) (e z h : ℕ) → T (ltb (e * h + suc (2 ^ 64 / d)) (2 ^ bits w)) → Fits w ((e - z) * h + q)
  int-fits w e z h t = record { fits = int-below e z h (2 ^ bits w) t }

pub ruleset int_laws = (int-zero, int-bits, kept-fits, int-below, int-fits)

-- ---- the sign
int-negative : (f : Format) (n r : ℕ) → r ≡ int_bits f (pos n) → (n ≡ 0 → ⊥) → top f + r ≡ int_bits f (neg_ℤ (pos n))
unfolding int_bits of_int
int-negative f zero r e z = absurd (z refl)
int-negative f (suc n) r e z = ap (λ (x : ℕ). top f + x) e ∙ sym (round-signed f true (suc n) 1)

module _ (f : Format) (minus : Bool) (n r : ℕ) (e : r ≡ int_bits f (pos n)) where
  pub int-plus : minus ≡ false → r ≡ int_bits f (signed_of minus n)
  int-plus h = rw h e

  pub int-minus-zero : minus ≡ true → n ≡ 0 → r ≡ int_bits f (signed_of minus n)
  int-minus-zero h z = rw h (rw z (rw z at e))

  pub int-minus : minus ≡ true → (n ≡ 0 → ⊥) → (t : ℕ) → t ≡ top f → t + r ≡ int_bits f (signed_of minus n)
  int-minus h z t p = rw (h, p) (int-negative f n r e z)

pub ruleset sign_laws = (int-plus, int-minus-zero, int-minus)
