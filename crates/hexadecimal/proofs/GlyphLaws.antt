-- Digits as they are printed, and that they read back as their numbers.
-- Assumes nothing.
use Rattle.std.specs.Prelude.{◌≡◌, true, false, ◌&&◌, ℕ, ◌+◌, ◌-◌, ◌≤◌, ◌<◌, leb}
use Rattle.basis.specs.Kit.{sym, ap, ◌∙◌}
use Rattle.basis.proofs.Kit.{arith, lt-ltb, le-ltb}
use native.Mathlib.Decide.{dec_lt}
use borrow.Author.Tests.{le-leb, lt-leb}
use Rattle.hexadecimal.specs.Digits.{digit_of, glyph_of}
use Rattle.hexadecimal.proofs.DigitLaws.{digit-figure, digit-upper}

module _ (d : ℕ) where
  pub glyph-figure : d < 10 → 48 + d ≡ glyph_of d
  unfolding glyph_of
  glyph-figure h = simp (glyph_of, lt-ltb d 10 h)

  pub glyph-letter : 10 ≤ d → 55 + d ≡ glyph_of d
  unfolding glyph_of
  glyph-letter h = simp (glyph_of, le-ltb d 10 h)

  figure-back : d < 10 → digit_of (glyph_of d) ≡ d
  figure-back h =
      let test : (leb 48 (48 + d) && leb (48 + d) 57) ≡ true = simp (le-leb 48 (48 + d) (omega arith), le-leb (48 + d) 57 (omega arith)) in
      let number : 48 + d - 48 ≡ d = omega arith in
      ap digit_of (sym (glyph-figure h)) ∙ sym (digit-figure (48 + d) test) ∙ number

  letter-back : 10 ≤ d → d < 16 → digit_of (glyph_of d) ≡ d
  letter-back h k =
      let none : (leb 48 (55 + d) && leb (55 + d) 57) ≡ false = simp (le-leb 48 (55 + d) (omega arith), lt-leb (55 + d) 57 (omega arith)) in
      let test : (leb 65 (55 + d) && leb (55 + d) 70) ≡ true = simp (le-leb 65 (55 + d) (omega arith), le-leb (55 + d) 70 (omega arith)) in
      let number : 55 + d - 65 + 10 ≡ d = omega arith in
      ap digit_of (sym (glyph-letter h)) ∙ sym (digit-upper (55 + d) none test) ∙ number

  pub digit_glyph : d < 16 → digit_of (glyph_of d) ≡ d
  digit_glyph h = elim (dec_lt d 10) [ yes g ↦ figure-back g | no g ↦ letter-back (omega arith) h ]

pub ruleset glyph_laws = (glyph-figure, glyph-letter)
