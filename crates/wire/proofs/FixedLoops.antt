-- The loops of `put_little` and `little_at`: what is known at the head of each, and its laws.
-- Assumes nothing.
use Rattle.std.specs.Prelude.{◌≡◌, List, [], ◌∷◌, ℕ, suc, ◌+◌, ◌-◌, ◌*◌, ◌/◌, ◌%◌, ◌^◌, ◌≤◌, ◌<◌, length, get_or}
use Rattle.basis.specs.Kit.{sets}
use Rattle.basis.proofs.Kit.{arith, w64, Fits}
use native.Mathlib.Nat.{add-zero, add_assoc, sub-zero, sub_self, sub-eq-zero_of_le, pow-suc, pow-le-pow_right}
use Rattle.octets.specs.Octets.{part}
use Rattle.octets.specs.inner.Laid.{Laid}
use Rattle.wire.specs.Fixed.{little_of, little}
use Rattle.octets.proofs.Halfway.{Halfway, halfway-start, halfway-next, halfway-end, halfway-length}
use Rattle.octets.proofs.Parts.{part-nil, part-cons}

-- ---- `put_little`: x is what is left of v after i bytes
pub record Filling (l : List ℕ) (at v width : ℕ) (l' : List ℕ) (x i : ℕ) : Type 0 where
  pub within : i ≤ width
  pub laid : Halfway l at (little_of width v) (little_of (width - i) x) l' (at + i)

pub filling-start : (l : List ℕ) (at v width : ℕ) → Filling l at v width l v 0
filling-start l at v width = record { within = omega arith; laid = rw (sub-zero, add-zero) (halfway-start l at (little_of width v)) }

module _ (l : List ℕ) (at v width : ℕ) (m : List ℕ) (x i : ℕ) (f : Filling l at v width m x i) where
  pub filling-next : (l' : List ℕ) → l' ≡ sets m (at + i) ((x % 256) ∷ []) → i < width
      → Filling l at v width l' (x / 256) (i + 1)
  unfolding little_of
  filling-next l' e h =
      let less : width - i ≡ suc (width - (i + 1)) = omega arith in
      let next = halfway-next (x % 256) (little_of (width - (i + 1)) (x / 256)) (rw less at f.laid) e in
      record { within = omega arith; laid = rw (add_assoc at i 1) at next }

  pub filling-end : width ≤ i → Laid l at (little_of width v) m (at + width)
  unfolding little_of
  filling-end h = let z : i ≡ width = omega (arith, f.within) in rw z at (halfway-end (rw (sub-eq-zero_of_le h) at f.laid))

  pub filling-length : length m ≡ length l
  filling-length = halfway-length f.laid

pub ruleset filling_laws = (filling-start, filling-next, filling-end, filling-length)

-- ---- `little_at`: n is the number of the bytes from the i-th on
pub record Summing (s : List ℕ) (at width n i : ℕ) : Type 0 where
  pub within : i ≤ width
  pub inside : at + width ≤ length s
  pub value : n ≡ little (part s (at + i) (at + width))
  pub small : n < 256 ^ (width - i)

pub summing_start : (s : List ℕ) (at width : ℕ) → at + width ≤ length s → Summing s at width 0 width
unfolding little
summing_start s at width h =
    let none = part-nil s (at + width) (at + width) (omega arith) in
    record { within = omega arith; inside = h; value = rw none; small = rw (sub_self width) (omega arith) }

module _ (s : List ℕ) (at width n i : ℕ) (k : Summing s at width n i) where
  module _ (h : 0 < i) (b : ℕ) (g : b < 256) where
    sum_lt : n * 256 + b < 256 ^ (width - (i - 1))
    sum_lt =
        let more : width - (i - 1) ≡ suc (width - i) = omega (arith, k.within) in
        rw (more, pow-suc) (omega (arith, k.small))

    pub sum_fits : width ≤ 8 → Fits w64 (n * 256 + b)
    sum_fits w =
        let p : 256 ^ (width - (i - 1)) ≤ 256 ^ 8 = pow-le-pow_right (omega arith) {j = 8} (omega arith) in
        record { fits = omega (arith, sum_lt) }

    pub summing-next : b ≡ get_or s (at + (i - 1)) 0 → Summing s at width (n * 256 + b) (i - 1)
    unfolding little
    summing-next e =
        let first = part-cons s (at + (i - 1)) (at + width) (omega (arith, k.within)) k.inside in
        let on : suc (at + (i - 1)) ≡ at + i = omega arith in
        record {
          within = omega (arith, k.within);
          inside = k.inside;
          small = sum_lt;
          value = rw (first, on, ← e, ← k.value) (omega arith);
        }

  pub product-fits : 0 < i → width ≤ 8 → Fits w64 (n * 256)
  product-fits h w = record { fits = omega (arith, (sum_fits h 0 (omega arith) w).fits) }

  pub summing-end : i ≤ 0 → n ≡ little (part s at (at + width))
  summing-end h = let z : i ≡ 0 = omega arith in rw (z, add-zero) at k.value

  pub summing-small : i ≤ 0 → n < 256 ^ width
  summing-small h = let z : i ≡ 0 = omega arith in rw (z, sub-zero) at k.small

pub ruleset summing_laws = (summing_start, sum_fits, summing-next, product-fits, summing-end, summing-small)
