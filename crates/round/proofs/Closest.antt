-- `closest m p`, the whole number nearest to m / p, a tie to the even one: which neighbour of m / p it is, how large, and that it is within
-- half of m / p and even at a tie. Then the laws of `round_shift`, whose p is 1 << k. Assumes nothing.
use Rattle.std.specs.Prelude.{◌≡◌, refl, ℕ, zero, suc, ◌+◌, ◌-◌, ◌*◌, ◌/◌, ◌%◌, ◌^◌, ◌≤◌, ◌<◌, eqb}
use Rattle.basis.specs.Kit.{sym, ap, ◌∙◌}
use Rattle.basis.proofs.Kit.{arith, add-one, w64, Fits}
use mathlib.Core.Path.{subst}
use mathlib.Core.Bool.{not}
use Prim.Native.Nat.{compare, Ordering}
use native.Mathlib.Nat.{le_trans, le_of_lt, lt_of_lt_of_le, mod-lt, add-zero, one-mul, suc-mul, div-add-mod', div-eq_of_lt, mod-eq_of_lt}
use lib.Dec.{T, is_le, compare_is_eq, leb→le, nleb→lt, eqb→eq, eqb_refl, lit<}
use lib.Arith.{lt_of_le-ne}
use lib.Pow.{pow_pos, pow_mono, shl_exact, shr_lt}
use lib.Ieee.{nearest}
use lib.Ieee.Fits.{nearest-le}
use lib.Ieee.Nearest.{closest, nearest-ge}

-- ---- what `compare` says
abbrev Cmp : Ordering → ℕ → ℕ → Type 0
Cmp Ordering.lt a b = a < b
Cmp Ordering.eq a b = a ≡ b
Cmp Ordering.gt a b = b < a

cmp : (a b : ℕ) → Cmp (compare a b) a b
cmp a b = go (compare a b) (leb→le a b) (nleb→lt a b) (eqb→eq a b) (λ e. subst (λ (x : ℕ). T (eqb a x)) e (eqb_refl a))
  where
    go : (o : Ordering) → (T (is_le o) → a ≤ b) → (T (not (is_le o)) → b < a) → (T (compare_is_eq o) → a ≡ b) → (a ≡ b → T (compare_is_eq o)) → Cmp o a b
    go Ordering.lt h k e n = lt_of_le-ne (h tt) n
    go Ordering.eq h k e n = e tt
    go Ordering.gt h k e n = k tt

cmp-unique : (o p : Ordering) (a b : ℕ) → Cmp o a b → Cmp p a b → o ≡ p
cmp-unique Ordering.lt Ordering.lt a b x y = refl
cmp-unique Ordering.eq Ordering.eq a b x y = refl
cmp-unique Ordering.gt Ordering.gt a b x y = refl
cmp-unique Ordering.lt Ordering.eq a b x y = absurd (omega arith)
cmp-unique Ordering.lt Ordering.gt a b x y = absurd (omega arith)
cmp-unique Ordering.eq Ordering.lt a b x y = absurd (omega arith)
cmp-unique Ordering.eq Ordering.gt a b x y = absurd (omega arith)
cmp-unique Ordering.gt Ordering.lt a b x y = absurd (omega arith)
cmp-unique Ordering.gt Ordering.eq a b x y = absurd (omega arith)

-- ---- which neighbour
abbrev side : ℕ → ℕ → Ordering
side m p = compare (m % p * 2) p

module _ (m p : ℕ) where
  closest-by : (o : Ordering) → Cmp o (m % p * 2) p → nearest (m / p) o ≡ closest m p
  closest-by o h = ap (nearest (m / p)) (cmp-unique o (side m p) (m % p * 2) p h (cmp (m % p * 2) p))

  closest-down : m % p < p - m % p → m / p ≡ closest m p
  closest-down h = closest-by Ordering.lt (omega arith)

  closest-tie : 0 < p → m % p ≡ p - m % p → m / p + m / p % 2 ≡ closest m p
  closest-tie P h = closest-by Ordering.eq (omega (arith, mod-lt m P))

  closest-up : p - m % p ≤ m % p → (m % p ≡ p - m % p → ⊥) → m / p + 1 ≡ closest m p
  closest-up h n = add-one (m / p) ∙ closest-by Ordering.gt (omega arith)

-- ---- what that means: twice the distance from n * p to m is at most p, and a tie goes to the even one
abbrev pub WithinHalf : ℕ → ℕ → ℕ → Type 0
WithinHalf n m p = (2 * (n * p) ≤ 2 * m + p) × (2 * m ≤ 2 * (n * p) + p)

module _ (q r p : ℕ) (l : r < p) where
  half_down : r * 2 ≤ p → WithinHalf q (q * p + r) p
  half_down h = omega arith

  half_up : p ≤ r * 2 → WithinHalf (suc q) (q * p + r) p
  half_up h = let e = suc-mul q p in omega arith

  half-tie : r * 2 ≡ p → (b : ℕ) → b < 2 → WithinHalf (q + b) (q * p + r) p
  half-tie h zero B = rw add-zero (half_down (omega arith))
  half-tie h (suc zero) B = rw add-one (half_up (omega arith))
  half-tie h (suc (suc b)) B = absurd (omega arith)

  half-by : (o : Ordering) → Cmp o (r * 2) p → WithinHalf (nearest q o) (q * p + r) p
  half-by Ordering.lt h = half_down (omega arith)
  half-by Ordering.eq h = half-tie h (q % 2) (omega arith)
  half-by Ordering.gt h = half_up (omega arith)

pub closest-within-half : (m p : ℕ) → 0 < p → WithinHalf (closest m p) m p
closest-within-half m p P = rw (div-add-mod' m p) at (half-by (m / p) (m % p) p (mod-lt m P) (side m p) (cmp (m % p * 2) p))

pub closest-even : (m p : ℕ) → m % p * 2 ≡ p → closest m p % 2 ≡ 0
closest-even m p e = rw (← (closest-by m p Ordering.eq e)) (omega arith)

-- ---- how large
pub closest-le-suc : (m p : ℕ) → closest m p ≤ suc (m / p)
closest-le-suc m p = nearest-le (m / p) (side m p)

pub closest-le-pow : (m p j : ℕ) → m < 2 ^ (p + j) → closest m (2 ^ j) ≤ 2 ^ p
closest-le-pow m p j h = le_trans (closest-le-suc m (2 ^ j)) (shr_lt p j h)

pub closest-ge : (m p : ℕ) → m / p ≤ closest m p
closest-ge m p = nearest-ge (m / p) (side m p)

pub closest-zero : (m p : ℕ) → m * 2 < p → closest m p ≡ 0
closest-zero m p h =
    let l : m < p = omega arith in
    sym (closest-by m p Ordering.lt (rw (mod-eq_of_lt l) h)) ∙ div-eq_of_lt l

-- ---- `round_shift`: 1 << k, as the machine computes it
abbrev bit : ℕ → ℕ
bit k = 1 * 2 ^ k % 2 ^ 64

bit_is : (k : ℕ) → k < 64 → bit k ≡ 2 ^ k
bit_is k h = shl_exact {a = 1} 1 k 64 (lit< tt) (omega arith) ∙ one-mul (2 ^ k)

pub shift-pos : (k : ℕ) → k < 64 → 0 < bit k
shift-pos k h = rw (bit_is k h) (pow_pos k)

module _ (m k : ℕ) (K : k < 64) where
  pub shift_rest : m % bit k ≤ bit k
  shift_rest = le_of_lt (mod-lt m (shift-pos k K))

  pub shift-down : m % bit k < bit k - m % bit k → m / bit k ≡ closest m (2 ^ k)
  shift-down = rw (bit_is k K) (closest-down m (2 ^ k))

  pub shift-tie : m % bit k ≡ bit k - m % bit k → m / bit k + m / bit k % 2 ≡ closest m (2 ^ k)
  shift-tie = rw (bit_is k K) (closest-tie m (2 ^ k) (pow_pos k))

  pub shift-up : bit k - m % bit k ≤ m % bit k → (m % bit k ≡ bit k - m % bit k → ⊥) → m / bit k + 1 ≡ closest m (2 ^ k)
  shift-up = rw (bit_is k K) (closest-up m (2 ^ k))

  module _ (P : 0 < k) (h : Fits w64 m) where
    shift-half : m / bit k < 2 ^ 63
    shift-half = rw (bit_is k K) (shr_lt 63 k (lt_of_lt_of_le h.fits (pow_mono {i = 64} (omega arith))))

    pub shift-tie-fits : Fits w64 (m / bit k + m / bit k % 2)
    shift-tie-fits = let l = shift-half in record { fits = omega arith }

    pub shift-up-fits : Fits w64 (m / bit k + 1)
    shift-up-fits = let l = shift-half in record { fits = omega arith }

pub ruleset shift_laws = (shift-pos, shift_rest, shift-down, shift-tie, shift-up, shift-tie-fits, shift-up-fits)
