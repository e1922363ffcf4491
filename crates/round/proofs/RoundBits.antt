-- The bits of a rounded fraction, at either format: the number that is kept of its digits, which may be one too long, plus the number of
-- digits that are dropped, as the exponent's field, and the infinity's bits where that is more. The sign is a bit on top. Assumes nothing.
use Rattle.std.specs.Prelude.{◌≡◌, refl, Bool, true, false, ℕ, zero, suc, ◌+◌, ◌-◌, ◌*◌, ◌/◌, ◌^◌, ◌≤◌, ◌<◌, ltb}
use Rattle.basis.specs.Kit.{sym, ap, ◌∙◌}
use Rattle.basis.proofs.Kit.{arith, lt-ltb, le-ltb}
use mathlib.Core.Bool.{cond}
use Prim.Native.Nat.{min}
use native.Mathlib.Nat.{le_trans, zero-add, mul-pos, mul-div_cancel, le-div_iff_mul-le, div-div-eq-div-mul, min-eq_left, min-eq_right}
use native.Mathlib.Decide.{dec_lt}
use lib.Pow.{pow-add, pow_pos, shr_lt}
use lib.Ieee.{Float, nan, inf, fin, Format, prec, emax, low, up, down, size, odd, units, round, hid, ones, top, to_bits}
use lib.Ieee.Fits.{two, reach, down_pos, round_is}
use lib.Ieee.Exact.{HasValue, odd_sign}
use lib.Ieee.Nearest.{closest, closest_same, div_same}
use lib.Ieee.Scale.{overflow}
use Rattle.round.proofs.Closest.{closest-le-pow, closest-ge}
use Rattle.round.proofs.Digits.{size-over, written, written_is, limit-under, limit-over}

-- ---- a value that is a units of the smallest one
value-bits : (f : Format) (x : Float) (a : ℕ) → HasValue x false a (2 ^ low f) → to_bits f x ≡ written (prec f) a
unfolding to_bits
value-bits f nan a h = absurd h
value-bits f (inf t) a h = absurd h
value-bits f (fin t m e) a h =
    let n : m * up e * 2 ^ low f / down e ≡ a = rw h.1 (mul-div_cancel a (down_pos e)) in
    rw (h.0, n) (omega arith)

-- ---- q * 2 ^ k units
module _ (f : Format) where
  prec-pos : 0 < prec f
  prec-pos = omega (arith, two f)

  emax-pos : 0 < 2 * emax f
  emax-pos = omega (arith, two f, reach f)

  overflow-is : overflow f ≡ hid f * 2 ^ (2 * emax f)
  overflow-is =
      let e : low f + suc (emax f) ≡ prec f - 1 + 2 * emax f = omega (arith, two f, reach f) in
      ap (λ (x : ℕ). 2 ^ x) e ∙ pow-add 2 (prec f - 1) (2 * emax f)

  module _ (q k : ℕ) (hi : q ≤ 2 ^ prec f) (lo : 0 < k → hid f ≤ q) where
    units-finite : q * 2 ^ k < overflow f → to_bits f (odd (suc (prec f)) false q k (low f)) ≡ min (k * hid f + q) (ones f * hid f)
    units-finite h =
        value-bits f _ _ (odd_sign (suc (prec f)) false q k (low f))
        ∙ written_is (prec f) k q prec-pos hi lo
        ∙ sym (min-eq_left (limit-under (prec f) k q prec-pos hi lo (2 * emax f) emax-pos (rw overflow-is at h)))

    units-over : overflow f ≤ q * 2 ^ k → to_bits f (inf false) ≡ min (k * hid f + q) (ones f * hid f)
    unfolding to_bits
    units-over h = zero-add _ ∙ sym (min-eq_right (limit-over (prec f) k q prec-pos hi lo (2 * emax f) emax-pos (rw overflow-is at h)))

    units-bits : to_bits f (units f false q k) ≡ min (k * hid f + q) (ones f * hid f)
    unfolding units
    units-bits = elim (dec_lt (q * 2 ^ k) (overflow f)) [
      | yes h ↦ rw (lt-ltb _ _ h) (units-finite h)
      | no h ↦ let g : overflow f ≤ q * 2 ^ k = omega arith in rw (le-ltb _ _ g) (units-over g)
    ]

-- ---- `round`, by the number k of digits that it drops
round-units : (f : Format) (s : Bool) (num den k : ℕ) → size (num * 2 ^ low f / den) - prec f ≡ k
    → round f s num den ≡ units f s (closest (num * 2 ^ low f) (den * 2 ^ k)) k
round-units f s num den k d = rw d at (round_is f s num den)

-- num / den is a * 2 ^ k / 2 ^ j units, and a has prec + j digits, or at most so many where k is 0
module _ (f : Format) (num den k a j : ℕ) (D : 0 < den) (e : num * 2 ^ low f * 2 ^ j ≡ a * (den * 2 ^ k)) (hi : a < 2 ^ (prec f + j))
    (lo : 0 < k → 2 ^ (prec f - 1 + j) ≤ a) where
  unit-pos : 0 < den * 2 ^ k
  unit-pos = mul-pos D (pow_pos k)

  whole_is : num * 2 ^ low f / den / 2 ^ k ≡ a / 2 ^ j
  whole_is = div-div-eq-div-mul (num * 2 ^ low f) den (2 ^ k) ∙ div_same _ _ _ _ unit-pos (pow_pos j) e

  whole-ge : 0 < k → hid f ≤ a / 2 ^ j
  whole-ge K = (le-div_iff_mul-le (pow_pos j)).1 (rw pow-add at (lo K))

  dropped-is : size (num * 2 ^ low f / den) - prec f ≡ k
  dropped-is = size-over (prec f) k (num * 2 ^ low f / den) (prec-pos f) (rw whole_is (shr_lt (prec f) j hi)) (rw whole_is whole-ge)

  pub round-bits : to_bits f (round f false num den) ≡ min (k * hid f + closest a (2 ^ j)) (ones f * hid f)
  round-bits =
      ap (to_bits f) (round-units f false num den k dropped-is ∙ ap (λ q. units f false q k) (closest_same _ _ _ _ unit-pos (pow_pos j) e))
      ∙ units-bits f (closest a (2 ^ j)) k (closest-le-pow a (prec f) j hi) (λ K. le_trans (whole-ge K) (closest-ge a (2 ^ j)))

-- ---- the sign
module _ (f : Format) (s : Bool) where
  odd-signed : (d q k l : ℕ) → to_bits f (odd d s q k l) ≡ cond s (top f) 0 + to_bits f (odd d false q k l)
  unfolding odd to_bits
  odd-signed d zero k l = omega arith
  odd-signed d (suc q) k l = omega arith

  units-signed : (q k : ℕ) → to_bits f (units f s q k) ≡ cond s (top f) 0 + to_bits f (units f false q k)
  unfolding units to_bits
  units-signed q k = go (ltb (q * 2 ^ k) (overflow f))
    where
      picked : Bool → Bool → Float
      picked b t = cond b (odd (suc (prec f)) t q k (low f)) (inf t)

      go : (b : Bool) → to_bits f (picked b s) ≡ cond s (top f) 0 + to_bits f (picked b false)
      go true = odd-signed (suc (prec f)) q k (low f)
      go false = omega arith

  pub round-signed : (num den : ℕ) → to_bits f (round f s num den) ≡ cond s (top f) 0 + to_bits f (round f false num den)
  round-signed num den =
      let k = size (num * 2 ^ low f / den) - prec f in
      let q = closest (num * 2 ^ low f) (den * 2 ^ k) in
      rw (round-units f s num den k refl, round-units f false num den k refl) (units-signed q k)
