-- Indices of oneofs: what they are in either numbering, and how they grow from one oneof to the next.
--
--   reals_before x, synthetics_before x == how many of each kind are opened before x
--                   Numbers numbering <-> the indices are those of one of the two numberings
--          Grows numbering reals r s <-> how the indices after r real and s synthetic oneofs go on
--
-- Assumes nothing.
use Rattle.std.specs.Prelude.{◌≡◌, refl, Bool, true, false, ℕ, suc, ◌+◌, ◌≤◌, eqb}
use Rattle.basis.specs.Kit.{sym}
use Rattle.basis.proofs.Kit.{arith, eq-eqb, ne_eqb}
use borrow.Author.Tests.{eqb-true, eqb-false}
use Rattle.oneofs.specs.Fields.{Kind, real, synthetic, Oneof, oneof, declared, index_of}

abbrev pub reals_before : Oneof → ℕ
reals_before (oneof k r s) = r

abbrev pub synthetics_before : Oneof → ℕ
synthetics_before (oneof k r s) = s

module _ (numbering reals r s : ℕ) where
  pub index-declared : (k : Kind) → numbering ≡ declared → index_of numbering reals (oneof k r s) ≡ r + s
  unfolding index_of
  index-declared k e = simp (index_of, eq-eqb numbering declared e)

  module _ (e : numbering ≡ declared → ⊥) where
    index_real : index_of numbering reals (oneof real r s) ≡ r
    unfolding index_of
    index_real = simp (index_of, ne_eqb numbering declared e)

    index-synthetic : index_of numbering reals (oneof synthetic r s) ≡ reals + s
    unfolding index_of
    index-synthetic = simp (index_of, ne_eqb numbering declared e)

-- one count for both kinds, or one for each
pub data Numbers (numbering : ℕ) : Type 0 where
  together : ((reals : ℕ) (x : Oneof) → index_of numbering reals x ≡ reals_before x + synthetics_before x) → Numbers numbering
  apart : ((reals r s : ℕ) → index_of numbering reals (oneof real r s) ≡ r)
      → ((reals r s : ℕ) → index_of numbering reals (oneof synthetic r s) ≡ reals + s)
      → Numbers numbering

sum-declared : (numbering reals : ℕ) (x : Oneof) → numbering ≡ declared → index_of numbering reals x ≡ reals_before x + synthetics_before x
sum-declared numbering reals (oneof k r s) = index-declared numbering reals r s k

pub numbers : (numbering : ℕ) → Numbers numbering
numbers numbering = go (eqb numbering declared) refl
  where
    go : (b : Bool) → eqb numbering declared ≡ b → Numbers numbering
    go true e = together λ reals x. sum-declared numbering reals x (eqb-true numbering declared e)
    go false e =
        let other = eqb-false numbering declared e in
        apart (λ reals r s. index_real numbering reals r s other) (λ reals r s. index-synthetic numbering reals r s other)

-- ---- the first of each kind, and by how much one moves the other kind: the ways through `first_synthetic` and `shared_step`
module _ (numbering reals : ℕ) where
  pub first-shared : numbering ≡ declared → 0 ≡ index_of numbering reals (oneof synthetic 0 0)
  first-shared e = sym (index-declared numbering reals 0 0 synthetic e)

  pub first-apart : (numbering ≡ declared → ⊥) → reals ≡ index_of numbering reals (oneof synthetic 0 0)
  first-apart e = omega (arith, index-synthetic numbering reals 0 0 e)

pub ruleset first_laws = (first-shared, first-apart)

pub step-shared : (numbering : ℕ) → numbering ≡ declared → 1 ≡ index_of numbering 0 (oneof real 0 1)
step-shared numbering e = sym (index-declared numbering 0 0 1 real e)

pub step-apart : (numbering : ℕ) → (numbering ≡ declared → ⊥) → 0 ≡ index_of numbering 0 (oneof real 0 1)
step-apart numbering e = sym (index_real numbering 0 0 1 e)

pub ruleset step_laws = (step-shared, step-apart)

-- ---- from one oneof to the next
pub record Grows (numbering reals r s : ℕ) : Type 0 where
  pub real-real : index_of numbering reals (oneof real r s) + 1 ≡ index_of numbering reals (oneof real (suc r) s)
  pub real-synthetic :
      index_of numbering reals (oneof real r s) + index_of numbering 0 (oneof real 0 1) ≡ index_of numbering reals (oneof real r (suc s))
  pub synthetic-synthetic :
      index_of numbering reals (oneof synthetic r s) + 1 ≡ index_of numbering reals (oneof synthetic r (suc s))
  pub synthetic-real :
      index_of numbering reals (oneof synthetic r s) + index_of numbering 0 (oneof real 0 1)
      ≡ index_of numbering reals (oneof synthetic (suc r) s)
  pub real-few : index_of numbering reals (oneof real r s) ≤ r + s
  pub synthetic-few : index_of numbering reals (oneof synthetic r s) ≤ reals + (r + s)

pub grows : (numbering reals r s : ℕ) → Grows numbering reals r s
grows numbering reals r s = go (numbers numbering)
  where
    go : Numbers numbering → Grows numbering reals r s
    go (together is) = record {
      real-real = omega (arith, is reals (oneof real r s), is reals (oneof real (suc r) s));
      real-synthetic = omega (arith, is reals (oneof real r s), is 0 (oneof real 0 1), is reals (oneof real r (suc s)));
      synthetic-synthetic = omega (arith, is reals (oneof synthetic r s), is reals (oneof synthetic r (suc s)));
      synthetic-real = omega (arith, is reals (oneof synthetic r s), is 0 (oneof real 0 1), is reals (oneof synthetic (suc r) s));
      real-few = omega (arith, is reals (oneof real r s));
      synthetic-few = omega (arith, is reals (oneof synthetic r s));
    }
    go (apart of_real of_synthetic) = record {
      real-real = omega (arith, of_real reals r s, of_real reals (suc r) s);
      real-synthetic = omega (arith, of_real reals r s, of_real 0 0 1, of_real reals r (suc s));
      synthetic-synthetic = omega (arith, of_synthetic reals r s, of_synthetic reals r (suc s));
      synthetic-real = omega (arith, of_synthetic reals r s, of_real 0 0 1, of_synthetic reals (suc r) s);
      real-few = omega (arith, of_real reals r s);
      synthetic-few = omega (arith, of_synthetic reals r s);
    }
