-- The ways through `digit_of`: a byte within one of three ranges, a blank or a line end, any other.
-- Assumes nothing.
use Rattle.std.specs.Prelude.{◌≡◌, true, false, ◌&&◌, ◌||◌, ℕ, ◌+◌, ◌-◌, ◌≤◌, eqb, leb}
use Rattle.basis.proofs.Kit.{arith}
use denote.Floats.{passes}
use lib.Dec.{T, leb→le}
use mir.Facts.{and_yes}
use Rattle.hexadecimal.specs.Digits.{blank, other, digit_of}

-- ---- a byte within a range
pub record Within (lo hi c : ℕ) : Type 0 where
  pub low : lo ≤ c
  pub high : c ≤ hi

within : (lo hi c : ℕ) → (leb lo c && leb c hi) ≡ true → Within lo hi c
within lo hi c e =
    let tests : T (leb lo c) × T (leb c hi) = and_yes (leb lo c) (leb c hi) (passes _ e) in
    record { low = leb→le lo c tests.0; high = leb→le c hi tests.1 }

module _ (c : ℕ) where
  module _ (e : (leb 48 c && leb c 57) ≡ true) where
    pub figure-low : 48 ≤ c
    figure-low = (within 48 57 c e).low

    pub figure-most : c - 48 ≤ other
    figure-most = omega (arith, (within 48 57 c e).high)

  module _ (e : (leb 65 c && leb c 70) ≡ true) where
    pub upper-low : 65 ≤ c
    upper-low = (within 65 70 c e).low

    pub upper-most : c - 65 + 10 ≤ other
    upper-most = omega (arith, (within 65 70 c e).high)

  module _ (e : (leb 97 c && leb c 102) ≡ true) where
    pub lower-low : 97 ≤ c
    lower-low = (within 97 102 c e).low

    pub lower-most : c - 97 + 10 ≤ other
    lower-most = omega (arith, (within 97 102 c e).high)

-- ---- what a byte stands for
module _ (c : ℕ) where
  pub digit-figure : (leb 48 c && leb c 57) ≡ true → c - 48 ≡ digit_of c
  unfolding digit_of
  digit-figure e = simp (digit_of, e)

  module _ (f : (leb 48 c && leb c 57) ≡ false) where
    pub digit-upper : (leb 65 c && leb c 70) ≡ true → c - 65 + 10 ≡ digit_of c
    unfolding digit_of
    digit-upper e = simp (digit_of, f, e)

    module _ (u : (leb 65 c && leb c 70) ≡ false) where
      pub digit-lower : (leb 97 c && leb c 102) ≡ true → c - 97 + 10 ≡ digit_of c
      unfolding digit_of
      digit-lower e = simp (digit_of, f, u, e)

      module _ (l : (leb 97 c && leb c 102) ≡ false) where
        pub digit-blank : (eqb c 32 || eqb c 9 || eqb c 10 || eqb c 13) ≡ true → blank ≡ digit_of c
        unfolding digit_of
        digit-blank e = simp (digit_of, f, u, l, e)

        pub digit-other : (eqb c 32 || eqb c 9 || eqb c 10 || eqb c 13) ≡ false → other ≡ digit_of c
        unfolding digit_of
        digit-other e = simp (digit_of, f, u, l, e)

pub ruleset digit_laws = (
  figure-low,
  figure-most,
  upper-low,
  upper-most,
  lower-low,
  lower-most,
  digit-figure,
  digit-upper,
  digit-lower,
  digit-blank,
  digit-other,
)
