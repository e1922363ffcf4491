-- Numbers by their binary digits: powers of two, how many digits a number has, and how q * 2 ^ k is written with p digits, as `to_bits`
-- does: k times the weight of the leading digit, plus q. No format stands here. Assumes nothing.
use Rattle.std.specs.Prelude.{◌≡◌, ℕ, zero, suc, ◌+◌, ◌-◌, ◌*◌, ◌/◌, ◌^◌, ◌≤◌, ◌<◌}
use Rattle.basis.specs.Kit.{ap, ◌∙◌}
use Rattle.basis.proofs.Kit.{arith}
use mathlib.Core.Logic.{inl, inr}
use native.Mathlib.Nat.{le_refl, le_trans, lt_of_lt_of_le, lt_of_le_of_lt, lt_of_not-le, lt_irrefl, zero-lt-suc, eq-or-lt_of_le}
use native.Mathlib.Nat.{suc-mul, mul_assoc, mul-le-mul, mul-le-mul_left, mul-le-mul_right, le_of_mul-le-mul_left, le_of_mul-le-mul_right}
use native.Mathlib.Nat.{pow-suc, pow-succ', le-div_iff_mul-le, div-lt_iff_lt-mul}
use native.Mathlib.Decide.{dec_lt}
use lib.Pow.{pow-add, pow_pos, pow_mono, pow-lt, shl-shr}
use lib.Ieee.{size}
use lib.Ieee.Digits.{size-lt, size-le}

-- ---- powers of two
pow_lt_back : (i p : ℕ) → 2 ^ i < 2 ^ p → i < p
pow_lt_back i p h = lt_of_not-le (λ g. lt_irrefl (2 ^ i) (lt_of_lt_of_le h (pow_mono g)))

pow_le_back : (i p : ℕ) → 2 ^ i ≤ 2 ^ p → i ≤ p
pow_le_back i p h = omega (arith, pow_lt_back i (suc p) (lt_of_le_of_lt h (pow-lt (omega arith))))

pub shift_same : (m a b c d : ℕ) → a + b ≡ c + d → m * 2 ^ a * 2 ^ b ≡ m * 2 ^ c * 2 ^ d
shift_same m a b c d e = simp (mul_assoc, ← pow-add, e)

pub shift-apart : (m a b c d g : ℕ) → a + b + c ≡ d + g → m * 2 ^ a * 2 ^ b * 2 ^ c ≡ m * (2 ^ d * 2 ^ g)
shift-apart m a b c d g e = simp (mul_assoc, ← pow-add, e)

-- ---- the weight of the leading one of p digits
abbrev pub lead : ℕ → ℕ
lead p = 2 ^ (p - 1)

module _ (p : ℕ) (P : 0 < p) where
  lead-twice : 2 ^ p ≡ lead p * 2
  lead-twice = let e : p ≡ suc (p - 1) = omega arith in ap (λ (x : ℕ). 2 ^ x) e ∙ pow-suc 2 (p - 1)

  lead-shift : (k : ℕ) → 2 ^ p * 2 ^ k ≡ lead p * 2 ^ suc k
  lead-shift k = let d = lead-twice in rw (d, mul_assoc, pow-succ')

  pub lead-two : (k : ℕ) → suc (suc k) * lead p ≡ k * lead p + 2 ^ p
  lead-two k = omega (arith, lead-twice, suc-mul (suc k) (lead p), suc-mul k (lead p))

-- ---- w has p digits and k more, or at most p of them where k is 0
pub size-over : (p k w : ℕ) → 0 < p → w / 2 ^ k < 2 ^ p → (0 < k → lead p ≤ w / 2 ^ k) → size w - p ≡ k
size-over p k w P hi lo = go k lo (size-le w (p + k) (rw pow-add ((div-lt_iff_lt-mul (pow_pos k)).0 hi)))
  where
    go : (k : ℕ) → (0 < k → lead p ≤ w / 2 ^ k) → size w ≤ p + k → size w - p ≡ k
    go zero l h = omega arith
    go (suc k) l h =
        let b = (le-div_iff_mul-le (pow_pos (suc k))).0 (l (zero-lt-suc k)) in
        omega (arith, pow_lt_back (p - 1 + suc k) (size w) (lt_of_le_of_lt (rw pow-add b) (size-lt w)))

-- ---- a, as `to_bits` writes it with p digits
abbrev pub written : ℕ → ℕ → ℕ
written p a = (size a - p) * lead p + a / 2 ^ (size a - p)

written-under : (p k q : ℕ) → 0 < p → q < 2 ^ p → (0 < k → lead p ≤ q) → written p (q * 2 ^ k) ≡ k * lead p + q
written-under p k q P hi lo =
    let e : size (q * 2 ^ k) - p ≡ k = size-over p k (q * 2 ^ k) P (rw shl-shr hi) (rw shl-shr lo) in
    rw (e, shl-shr)

-- one digit too long
written-full : (p k : ℕ) → 0 < p → written p (2 ^ p * 2 ^ k) ≡ k * lead p + 2 ^ p
written-full p k P =
    ap (written p) (lead-shift p P k)
    ∙ written-under p (suc k) (lead p) P (pow-lt (omega arith)) (λ g. le_refl (lead p))
    ∙ omega (arith, lead-two p P k, suc-mul (suc k) (lead p))

module _ (p k q : ℕ) (P : 0 < p) (hi : q ≤ 2 ^ p) (lo : 0 < k → lead p ≤ q) where
  pub written_is : written p (q * 2 ^ k) ≡ k * lead p + q
  written_is = elim (eq-or-lt_of_le hi) [
    | inl e ↦ rw e (written-full p k P)
    | inr l ↦ written-under p k q P l lo
  ]

  -- below 2 ^ E times the leading digit's weight it is written as at most E + 1 of these, and from there on as at least so many
  module _ (E : ℕ) (pos : 0 < E) where
    pub limit-under : q * 2 ^ k < lead p * 2 ^ E → k * lead p + q ≤ (E + 1) * lead p
    limit-under l = elim (dec_lt k E) [
      | yes g ↦ let m : suc (suc k) * lead p ≤ (E + 1) * lead p = mul-le-mul_right (lead p) (omega arith) in omega (arith, lead-two p P k)
      | no g ↦ absurd (lt_irrefl _ (lt_of_le_of_lt (mul-le-mul (lo (omega arith)) (pow_mono {i = E} (omega arith))) l))
    ]

    module _ (g : lead p * 2 ^ E ≤ q * 2 ^ k) where
      over-full : k < E → 2 ^ p ≤ q
      over-full l = le_of_mul-le-mul_right (rw (lead-shift p P k) (le_trans (mul-le-mul_left (lead p) (pow_mono l)) g)) (pow_pos k)

      over-near : E ≤ suc k
      over-near =
          let h = le_trans g (mul-le-mul_right (2 ^ k) hi) in
          pow_le_back E (suc k) (le_of_mul-le-mul_left (rw (lead-shift p P k) at h) (pow_pos (p - 1)))

      pub limit-over : (E + 1) * lead p ≤ k * lead p + q
      limit-over = elim (dec_lt k E) [
        | yes l ↦
            let m : (E + 1) * lead p ≤ suc (suc k) * lead p = mul-le-mul_right (lead p) (omega (arith, over-near)) in
            omega (arith, over-full l, lead-two p P k)
        | no l ↦
            let m : (E + 1) * lead p ≤ suc k * lead p = mul-le-mul_right (lead p) (omega arith) in
            omega (arith, suc-mul k (lead p), lo (omega arith))
      ]
