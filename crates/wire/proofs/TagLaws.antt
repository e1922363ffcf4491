-- Tags: a number and a wire type are read back from their tag, and a good tag is one of a field number and a wire type that is read.
-- Assumes nothing.
use Rattle.std.specs.Prelude.{◌≡◌, true, false, ◌&&◌, ℕ, ◌≤◌, ◌<◌, eqb, leb}
use Rattle.basis.specs.Kit.{sym, ◌∙◌}
use Rattle.basis.proofs.Kit.{arith, ne_eqb}
use mathlib.Core.Bool.{false≢true, and-eq-true_iff}
use native.Mathlib.Decide.{dec_lt}
use borrow.Author.Tests.{le-leb, leb-true}
use Rattle.limits.specs.Figures.{most_number}
use Rattle.wire.specs.Tag.{tag_of, number_of, wire_type_of, wire_read, tag_good}

pub number-of-tag-of : (n w : ℕ) → w < 8 → number_of (tag_of n w) ≡ n
number-of-tag-of n w h = omega arith

pub wire-type-of-tag-of : (n w : ℕ) → w < 8 → wire_type_of (tag_of n w) ≡ w
wire-type-of-tag-of n w h = omega arith

pub tag-of-parts : (t : ℕ) → tag_of (number_of t) (wire_type_of t) ≡ t
tag-of-parts t = omega arith

module _ (w : ℕ) (h : 8 ≤ w) where
  eqb-below : (x : ℕ) → x < 8 → eqb w x ≡ false
  eqb-below x l = ne_eqb w x (λ e. omega arith)

  wire-read-not : wire_read w ≡ false
  wire-read-not = rw (eqb-below 0 (omega arith), eqb-below 1 (omega arith), eqb-below 2 (omega arith), eqb-below 5 (omega arith))

pub wire-read-lt : (w : ℕ) → wire_read w ≡ true → w < 8
wire-read-lt w r = elim (dec_lt w 8) [
  | yes h ↦ h
  | no h ↦ absurd (false≢true (sym (wire-read-not w (omega arith)) ∙ r))
]

-- a tag of a field number in its range and of a wire type that is read; of one that is written out, `refl` says so
pub tag-of-good : (n w : ℕ) → 1 ≤ n → n ≤ most_number → wire_read w ≡ true → tag_good (tag_of n w) ≡ true
unfolding tag_good
tag-of-good n w h k r =
    let l = wire-read-lt w r in
    rw (number-of-tag-of n w l, wire-type-of-tag-of n w l, le-leb 1 n h, le-leb n most_number k) r

-- and no other tag is good
module _ (t : ℕ) (g : tag_good t ≡ true) where
  range : (leb 1 (number_of t) && leb (number_of t) most_number) ≡ true
  unfolding tag_good
  range = ((and-eq-true_iff _ (wire_read (wire_type_of t))).0 g).0

  pub tag-good-pos : 1 ≤ number_of t
  tag-good-pos = leb-true _ _ ((and-eq-true_iff (leb 1 (number_of t)) _).0 range).0

  pub tag-good-le : number_of t ≤ most_number
  tag-good-le = leb-true _ _ ((and-eq-true_iff (leb 1 (number_of t)) _).0 range).1

  pub tag-good-wire : wire_read (wire_type_of t) ≡ true
  unfolding tag_good
  tag-good-wire = ((and-eq-true_iff (leb 1 (number_of t) && leb (number_of t) most_number) _).0 g).1

-- the tests of `tag_good`
pub tag_good_is : (t n w : ℕ) → n ≡ number_of t → w ≡ wire_type_of t → (leb 1 n && leb n most_number && wire_read w) ≡ tag_good t
unfolding tag_good
tag_good_is t n w p q = rw (p, q)
