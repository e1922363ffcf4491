-- The laws of narrowing a double to a float: the bits of m * 2 ^ x units of the smallest double, then the same by a double's fields, as
-- `finite` has them, then with the sign, the infinities and the NaNs, as `f64_bits_to_f32_bits` has them. Assumes nothing.
use Rattle.std.specs.Prelude.{◌≡◌, refl, Bool, true, false, ℕ, zero, suc, ◌+◌, ◌-◌, ◌*◌, ◌/◌, ◌%◌, ◌^◌, ◌≤◌, ◌<◌, leb}
use Rattle.basis.specs.Kit.{sym, ap, ◌∙◌}
use Rattle.basis.proofs.Kit.{arith, ne_eqb, w64, Fits}
use mathlib.Core.Bool.{cond}
use Prim.Native.Nat.{min}
use native.Mathlib.Nat.{lt_of_lt_of_le}
use borrow.Author.Tests.{le-leb, lt-leb}
use mir.Syntax.{w32}
use lib.Dec.{lit≤}
use lib.Pow.{pow_pos, pow_mono}
use lib.Ieee.{Float, nan, inf, fin, binary32, binary64, odd, round, of_fields, of_bits, to_bits}
use lib.Ieee.Fits.{down_pos}
use lib.Ieee.Exact.{HasValue, odd_sign}
use lib.Ieee.Nearest.{closest}
use lib.Ieee.Scale.{round_same}
use Rattle.round.specs.Rounding.{narrow, narrow_bits}
use Rattle.round.proofs.Closest.{closest-le-pow, closest-le-suc, closest-zero}
use Rattle.round.proofs.Digits.{shift-apart}
use Rattle.round.proofs.RoundBits.{round-bits, round-signed}

-- ---- m * 2 ^ x times the smallest double, which is 2 ^ 149 / 2 ^ 1074 times the smallest float
narrow-value : (x : Float) (a c : ℕ) → 0 < c → HasValue x false a c → narrow x ≡ round binary32 false a c
unfolding narrow
narrow-value nan a c p h = absurd h
narrow-value (inf s) a c p h = absurd h
narrow-value (fin s m e) a c p h = rw h.0 (round_same binary32 false _ _ a c (down_pos e) p h.1)

abbrev bits_at : ℕ → ℕ → ℕ
bits_at m x = to_bits binary32 (narrow (odd 53 false m x 1074))

module _ (m x : ℕ) (hi : m < 2 ^ 53) where
  at-round : bits_at m x ≡ to_bits binary32 (round binary32 false (m * 2 ^ x) (2 ^ 1074))
  at-round = ap (to_bits binary32) (narrow-value _ (m * 2 ^ x) (2 ^ 1074) (pow_pos 1074) (odd_sign 53 false m x 1074))

  at_lt : (j : ℕ) → 29 ≤ j → m < 2 ^ (24 + j)
  at_lt j l = lt_of_lt_of_le hi (pow_mono {i = 53} (omega arith))

  at_low : (j : ℕ) → x + j ≡ 925 → 29 ≤ j → bits_at m x ≡ closest m (2 ^ j)
  at_low j e l =
      let u = shift-apart m x 149 j 1074 0 (omega arith) in
      at-round
      ∙ round-bits binary32 (m * 2 ^ x) (2 ^ 1074) 0 m j (pow_pos 1074) u (at_lt j l) (λ k. absurd (omega arith))
      ∙ omega (arith, closest-le-pow m 24 j (at_lt j l))

  at_none : x ≤ 871 → bits_at m x ≡ 0
  at_none l =
      let d : m * 2 < 2 ^ 54 = omega arith in
      at_low (925 - x) (omega arith) (omega arith)
      ∙ closest-zero m (2 ^ (925 - x)) (lt_of_lt_of_le d (pow_mono {i = 54} (omega arith)))

  at_high : (k : ℕ) → x ≡ 896 + k → 2 ^ 52 ≤ m → bits_at m x ≡ min (k * 0x80_0000 + closest m (2 ^ 29)) 0x7f80_0000
  at_high k e lo =
      let u = shift-apart m x 149 29 1074 k (omega arith) in
      at-round ∙ round-bits binary32 (m * 2 ^ x) (2 ^ 1074) k m 29 (pow_pos 1074) u hi (λ z. lo)

-- ---- by the exponent's field e and the fraction's field t
abbrev bits_of : Bool → ℕ → ℕ → ℕ
bits_of s e t = to_bits binary32 (narrow (of_fields binary64 s e t))

abbrev with_lead : ℕ → ℕ
with_lead t = 0x10_0000_0000_0000 + t

field-normal : (s : Bool) (e t : ℕ) → 0 < e → (e ≡ 2047 → ⊥) → of_fields binary64 s e t ≡ odd 53 s (with_lead t) (e - 1) 1074
unfolding of_fields
field-normal s zero t p h = absurd (omega arith)
field-normal s (suc x) t p h = let e : suc x - 1 ≡ x = omega arith in rw (ne_eqb (suc x) 2047 h, e)

pub finite-zero : (e t : ℕ) → e ≤ 872 → t < 2 ^ 52 → 0 ≡ bits_of false e t
unfolding of_fields
finite-zero zero t l h = sym (at_none t 0 (omega arith) (lit≤ tt))
finite-zero (suc x) t l h =
    rw (field-normal false (suc x) t (omega arith) (omega arith)) (sym (at_none (with_lead t) (suc x - 1) (omega arith) (omega arith)))

module _ (e t r : ℕ) (h : t < 2 ^ 52) where
  module _ (l : e ≤ 896) (R : r ≡ closest (with_lead t) (2 ^ (926 - e))) where
    low-le : r ≤ 2 ^ 24
    low-le = rw R (closest-le-pow (with_lead t) 24 (926 - e) (at_lt (with_lead t) 0 (omega arith) (926 - e) (omega arith)))

    pub finite-low-le : r ≤ 0x7f80_0000
    finite-low-le = omega (arith, low-le)

    pub finite-low-fits : Fits w32 r
    finite-low-fits = record { fits = omega (arith, low-le) }

    pub finite-low : 872 < e → r ≡ bits_of false e t
    finite-low g =
        rw (R, field-normal false e t (omega arith) (omega arith))
        (sym (at_low (with_lead t) (e - 1) (omega arith) (926 - e) (omega arith) (omega arith)))

  module _ (l : e < 2047) (R : r ≡ closest (with_lead t) (2 ^ 29)) where
    pub finite-high-fits : Fits w64 ((e - 897) * 0x80_0000 + r)
    finite-high-fits = record { fits = omega (arith, closest-le-suc (with_lead t) (2 ^ 29)) }

    module _ (g : 896 < e) where
      high_bits : min ((e - 897) * 0x80_0000 + r) 0x7f80_0000 ≡ bits_of false e t
      high_bits =
          rw (R, field-normal false e t (omega arith) (omega arith))
          (sym (at_high (with_lead t) (e - 1) (omega arith) (e - 897) (omega arith) (omega arith)))

      pub finite-high : (e - 897) * 0x80_0000 + r < 0x7f80_0000 → (e - 897) * 0x80_0000 + r ≡ bits_of false e t
      finite-high b = omega (arith, high_bits)

      pub finite-over : 0x7f80_0000 ≤ (e - 897) * 0x80_0000 + r → 0x7f80_0000 ≡ bits_of false e t
      finite-over b = omega (arith, high_bits)

pub ruleset finite_laws = (finite-zero, finite-low, finite-low-le, finite-low-fits, finite-high, finite-over, finite-high-fits)

-- ---- the sign, the infinities and the NaNs
narrow_signed : (s : Bool) (d q k l : ℕ)
    → to_bits binary32 (narrow (odd d s q k l)) ≡ cond s 0x8000_0000 0 + to_bits binary32 (narrow (odd d false q k l))
unfolding odd narrow
narrow_signed s d zero k l = round-signed binary32 s _ _
narrow_signed s d (suc q) k l = round-signed binary32 s _ _

module _ (s : Bool) where
  field-signed : (e t : ℕ) → (e ≡ 2047 → ⊥) → bits_of s e t ≡ cond s 0x8000_0000 0 + bits_of false e t
  unfolding of_fields
  field-signed zero t h = narrow_signed s 53 t 0 1074
  field-signed (suc x) t h =
      rw (field-normal s (suc x) t (omega arith) h, field-normal false (suc x) t (omega arith) h)
      (narrow_signed s 53 (with_lead t) (suc x - 1) 1074)

  field-inf : (e t : ℕ) → e ≡ 2047 → t ≡ 0 → bits_of s e t ≡ cond s 0x8000_0000 0 + 0x7f80_0000
  unfolding of_fields narrow to_bits
  field-inf e t p q = rw (p, q)

  field-nan : (e t : ℕ) → e ≡ 2047 → (t ≡ 0 → ⊥) → bits_of s e t ≡ 0x7fc0_0000
  unfolding of_fields narrow to_bits
  field-nan e t p q = rw (p, ne_eqb t 0 q)

-- ---- the whole pattern b
abbrev exponent : ℕ → ℕ
exponent b = b % 0x8000_0000_0000_0000 / 0x10_0000_0000_0000

abbrev fraction : ℕ → ℕ
fraction b = b % 0x10_0000_0000_0000

module _ (b : ℕ) where
  narrow-fields : (s : Bool) → leb 0x8000_0000_0000_0000 b ≡ s → narrow_bits b ≡ bits_of s (exponent b) (fraction b)
  unfolding narrow_bits of_bits
  narrow-fields s e = rw e

  pub narrow-nan : exponent b ≡ 2047 → (fraction b ≡ 0 → ⊥) → 0x7fc0_0000 ≡ narrow_bits b
  narrow-nan p q = sym (narrow-fields _ refl ∙ field-nan _ (exponent b) (fraction b) p q)

  module _ (h : b < 0x8000_0000_0000_0000) where
    pub narrow-plus : (r : ℕ) → r ≡ bits_of false (exponent b) (fraction b) → r ≡ narrow_bits b
    narrow-plus r p = p ∙ sym (narrow-fields false (lt-leb _ _ h))

    pub narrow-plus-inf : exponent b ≡ 2047 → fraction b ≡ 0 → 0x7f80_0000 ≡ narrow_bits b
    narrow-plus-inf p q = sym (narrow-fields false (lt-leb _ _ h) ∙ field-inf false (exponent b) (fraction b) p q)

  module _ (h : 0x8000_0000_0000_0000 ≤ b) where
    pub narrow-minus : (r : ℕ) → r ≡ bits_of false (exponent b) (fraction b) → (exponent b ≡ 2047 → ⊥) → 0x8000_0000 + r ≡ narrow_bits b
    narrow-minus r p n = rw p (sym (narrow-fields true (le-leb _ _ h) ∙ field-signed true (exponent b) (fraction b) n))

    pub narrow-minus-inf : exponent b ≡ 2047 → fraction b ≡ 0 → 0xff80_0000 ≡ narrow_bits b
    narrow-minus-inf p q = sym (narrow-fields true (le-leb _ _ h) ∙ field-inf true (exponent b) (fraction b) p q)

pub ruleset narrow_laws = (narrow-nan, narrow-plus, narrow-plus-inf, narrow-minus, narrow-minus-inf)
