-- The size of a signed number as `size` computes it, and the front of an array as `answer` prints it.
-- Assumes nothing.
use Rattle.std.specs.Prelude.{◌≡◌, true, false, List, ℕ, suc, ◌+◌, ◌≤◌, length, take}
use Rattle.basis.specs.Kit.{ap, ◌∙◌}
use Rattle.basis.proofs.Kit.{arith, add-one, le-ltb, w64, Fits}
use mathlib.Core.Bool.{true≢false}
use borrow.Author.Tests.{ltb-true}
use lib.Dec.{T}
use lib.IntN.{ℤ, pos, negsuc, nat_abs, ◌-ℤ◌}
use lib.ListN.{length-take}
use lib.Signed.{mag, non_neg, lt_z}
use mir.Facts.{to_z-of_z, Fits-nat_abs}
use mir.Syntax.{w32}
use mir.Val.{SFits, to_z, of_z}

-- ---- a negative number n: -1 - n is not negative, and one less than the size of n
below-minus : (n : ℤ) → lt_z n (pos 0) ≡ true → negsuc 0 -ℤ n ≡ pos (mag n)
below-minus (pos a) h = absurd (omega (arith, ltb-true a 0 h))
below-minus (negsuc a) h = simp (le-ltb (suc a) 1 (omega arith)) (ap pos (omega arith))

below-size : (n : ℤ) → lt_z n (pos 0) ≡ true → mag n + 1 ≡ nat_abs n
below-size (pos a) h = absurd (omega (arith, ltb-true a 0 h))
below-size (negsuc a) h = add-one a

pub not-below : (n : ℤ) → lt_z n (pos 0) ≡ false → T (non_neg n)
not-below (pos a) h = tt
not-below (negsuc a) h = absurd (true≢false h)

module _ (n : ℤ) (f : SFits w32 n) where
  module _ (h : lt_z (to_z w32 (of_z w32 n)) (pos 0) ≡ true) where
    below : lt_z n (pos 0) ≡ true
    below = rw (to_z-of_z f) at h

    pub size-minus : SFits w32 (negsuc 0 -ℤ to_z w32 (of_z w32 n))
    size-minus = rw (to_z-of_z f, below-minus n below) (record { sfits = f.sfits })

    back : to_z w32 (of_z w32 (negsuc 0 -ℤ to_z w32 (of_z w32 n))) ≡ pos (mag n)
    back = to_z-of_z size-minus ∙ rw (to_z-of_z f) (below-minus n below)

    pub size-positive : T (non_neg (to_z w32 (of_z w32 (negsuc 0 -ℤ to_z w32 (of_z w32 n)))))
    size-positive = rw back tt

    pub size-next : Fits w64 (nat_abs (to_z w32 (of_z w32 (negsuc 0 -ℤ to_z w32 (of_z w32 n)))) + 1)
    size-next = rw back (record { fits = omega (arith, f.sfits) })

    pub size_below : nat_abs (to_z w32 (of_z w32 (negsuc 0 -ℤ to_z w32 (of_z w32 n)))) + 1 ≡ nat_abs n
    size_below = rw back (below-size n below)

  pub size_fits : Fits w64 (nat_abs (to_z w32 (of_z w32 n)))
  size_fits = rw (to_z-of_z f) (Fits-nat_abs tt f)

pub ruleset size_laws = (not-below, size-minus, size-positive, size-next, size_below, size_fits)

-- ---- the front of an array
module _ (l : List ℕ) (n : ℕ) where
  pub array-front : (k : ℕ) → length l ≡ k → n ≤ k → n ≤ length l
  array-front k e h = rw e h

  pub take_count : n ≤ length l → n ≡ length (take n l)
  take_count h = rw length-take (omega arith)

pub ruleset front_laws = (array-front, take_count)
