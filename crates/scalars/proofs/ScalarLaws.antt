-- Scalar constants on types: the ways through the functions of one constant each.
-- Assumes nothing.
use Rattle.std.specs.Prelude.{◌≡◌, refl, Bool, true, false, List, ℕ, ◌+◌, ◌-◌, ◌≤◌, ◌<◌, Err, Ok}
use Rattle.basis.proofs.Kit.{arith, eq-eqb, ne_eqb, w64, Fits as FitsIn}
use borrow.Author.Tests.{le-leb, lt-leb}
use lib.Ieee.{binary32, binary64}
use Rattle.reply.specs.declared.Refusal.TheVariants.{UnsupportedExtensionType, ValueRange, StrLitDecodeError}
use Rattle.field.specs.declared.Span.{Span}
use Rattle.field.specs.Leaf.{text}
use Rattle.utf8.specs.Utf8.{is_utf8}
use Rattle.types.specs.Types.{TYPE_DOUBLE, TYPE_FLOAT}
use Rattle.types.specs.Types.{TYPE_BOOL, TYPE_STRING, TYPE_BYTES}
use Rattle.round.specs.Rounding.{signed_of, int_bits, narrow_bits}
use Rattle.records.specs.declared.Body.TheVariants.{Bits, Bytes}
use Rattle.scalars.specs.Scalars.{is_small, is_signed, is_integer, width, most_of, pattern_of, integer_on, float_on, string_on, bool_on}

-- ---- most_of
module _ (t : ℕ) (a b : Bool) (p : a ≡ is_signed t) (q : b ≡ is_small t) where
  module _ (x : a ≡ true) (y : b ≡ true) where
    pub most-minus-small : (m : Bool) → m ≡ true → 2147483648 ≡ most_of m t
    unfolding most_of
    most-minus-small m z = rw (z, most_of, ← p, x, width, ← q, y) refl

    pub most-plus-small : (m : Bool) → m ≡ false → 2147483647 ≡ most_of m t
    unfolding most_of
    most-plus-small m z = rw (z, most_of, ← p, x, width, ← q, y) refl

  module _ (x : a ≡ true) (y : b ≡ false) where
    pub most-minus-large : (m : Bool) → m ≡ true → 9223372036854775808 ≡ most_of m t
    unfolding most_of
    most-minus-large m z = rw (z, most_of, ← p, x, width, ← q, y) refl

    pub most-plus-large : (m : Bool) → m ≡ false → 9223372036854775807 ≡ most_of m t
    unfolding most_of
    most-plus-large m z = rw (z, most_of, ← p, x, width, ← q, y) refl

  module _ (x : a ≡ false) where
    pub most-minus-none : (m : Bool) → m ≡ true → 0 ≡ most_of m t
    unfolding most_of
    most-minus-none m z = rw (z, most_of, ← p, x) refl

    pub most-small : b ≡ true → (m : Bool) → m ≡ false → 4294967295 ≡ most_of m t
    unfolding most_of
    most-small y m z = rw (z, most_of, ← p, x, width, ← q, y) refl

    pub most-large : b ≡ false → (m : Bool) → m ≡ false → 18446744073709551615 ≡ most_of m t
    unfolding most_of
    most-large y m z = rw (z, most_of, ← p, x, width, ← q, y) refl

pub ruleset most_laws = (most-minus-small, most-plus-small, most-minus-large, most-plus-large, most-minus-none, most-small, most-large)

-- ---- pattern_of
pub pattern-zero : (m : Bool) (n : ℕ) → m ≡ true → n ≡ 0 → 0 ≡ pattern_of m n
unfolding pattern_of
pattern-zero m n z h = rw (z, h) refl

pub pattern-minus : (m : Bool) (n : ℕ) → m ≡ true → FitsIn w64 n → (n ≡ 0 → ⊥) → 0xffff_ffff_ffff_ffff - n + 1 ≡ pattern_of m n
unfolding pattern_of
pattern-minus m n z f h = rw z (omega (arith, f.fits))

pub pattern-plus : (m : Bool) (n : ℕ) → m ≡ false → n ≡ pattern_of m n
unfolding pattern_of
pattern-plus m n z = rw z refl

pub ruleset pattern_laws = (pattern-zero, pattern-minus, pattern-plus)

-- ---- integer_on
module _ (t n : ℕ) (m : Bool) (b : Bool) (p : b ≡ is_integer t) where
  module _ (x : b ≡ true) (k : ℕ) (q : k ≡ most_of m t) where
    pub integer-fits : n ≤ k → (v : ℕ) → v ≡ pattern_of m n → Ok (Bits v) ≡ integer_on t m n
    unfolding integer_on
    integer-fits h v e = simp (integer_on, ← p, x, ← q, le-leb n k h, e)

    pub integer-range : k < n → Err ValueRange ≡ integer_on t m n
    unfolding integer_on
    integer-range h = simp (integer_on, ← p, x, ← q, lt-leb n k h)

  module _ (x : b ≡ false) where
    pub integer-float : t ≡ TYPE_FLOAT → (v : ℕ) → v ≡ int_bits binary32 (signed_of m n) → Ok (Bits v) ≡ integer_on t m n
    unfolding integer_on
    integer-float h v e = simp (integer_on, ← p, x, eq-eqb t TYPE_FLOAT h, e)

    module _ (f : t ≡ TYPE_FLOAT → ⊥) where
      pub integer-double : t ≡ TYPE_DOUBLE → (v : ℕ) → v ≡ int_bits binary64 (signed_of m n) → Ok (Bits v) ≡ integer_on t m n
      unfolding integer_on
      integer-double h v e = simp (integer_on, ← p, x, ne_eqb t TYPE_FLOAT f, eq-eqb t TYPE_DOUBLE h, e)

      pub integer-other : (t ≡ TYPE_DOUBLE → ⊥) → Err UnsupportedExtensionType ≡ integer_on t m n
      unfolding integer_on
      integer-other h = simp (integer_on, ← p, x, ne_eqb t TYPE_FLOAT f, ne_eqb t TYPE_DOUBLE h)

pub ruleset integer_laws = (integer-fits, integer-range, integer-float, integer-double, integer-other)

-- ---- float_on
module _ (t b : ℕ) where
  pub float-double : t ≡ TYPE_DOUBLE → Ok (Bits b) ≡ float_on t b
  unfolding float_on
  float-double h = simp (float_on, eq-eqb t TYPE_DOUBLE h)

  module _ (d : t ≡ TYPE_DOUBLE → ⊥) where
    pub float-float : t ≡ TYPE_FLOAT → (v : ℕ) → v ≡ narrow_bits b → Ok (Bits v) ≡ float_on t b
    unfolding float_on
    float-float h v e = simp (float_on, ne_eqb t TYPE_DOUBLE d, eq-eqb t TYPE_FLOAT h, e)

    pub float-other : (t ≡ TYPE_FLOAT → ⊥) → Err UnsupportedExtensionType ≡ float_on t b
    unfolding float_on
    float-other h = simp (float_on, ne_eqb t TYPE_DOUBLE d, ne_eqb t TYPE_FLOAT h)

pub ruleset float_laws = (float-double, float-float, float-other)

-- ---- bool_on
module _ (t : ℕ) where
  module _ (h : t ≡ TYPE_BOOL) where
    pub bool-true : (b : Bool) → b ≡ true → Ok (Bits 1) ≡ bool_on t b
    unfolding bool_on
    bool-true b z = simp (bool_on, z, eq-eqb t TYPE_BOOL h)

    pub bool_false : (b : Bool) → b ≡ false → Ok (Bits 0) ≡ bool_on t b
    unfolding bool_on
    bool_false b z = simp (bool_on, z, eq-eqb t TYPE_BOOL h)

  pub bool-other : (t ≡ TYPE_BOOL → ⊥) → (b : Bool) → Err UnsupportedExtensionType ≡ bool_on t b
  unfolding bool_on
  bool-other h b = simp (bool_on, ne_eqb t TYPE_BOOL h)

pub ruleset bool_laws = (bool-true, bool_false, bool-other)

-- ---- string_on
module _ (r : List ℕ) (t : ℕ) (p : Span) where
  module _ (h : t ≡ TYPE_STRING) (b : Bool) (q : b ≡ is_utf8 (text r p)) where
    pub string-fits : b ≡ true → Ok (Bytes p) ≡ string_on r t p
    unfolding string_on
    string-fits x = simp (string_on, eq-eqb t TYPE_STRING h, ← q, x)

    pub string-bad : b ≡ false → Err StrLitDecodeError ≡ string_on r t p
    unfolding string_on
    string-bad x = simp (string_on, eq-eqb t TYPE_STRING h, ← q, x)

  module _ (d : t ≡ TYPE_STRING → ⊥) where
    pub string_bytes : t ≡ TYPE_BYTES → Ok (Bytes p) ≡ string_on r t p
    unfolding string_on
    string_bytes h = simp (string_on, ne_eqb t TYPE_STRING d, eq-eqb t TYPE_BYTES h)

    pub string-other : (t ≡ TYPE_BYTES → ⊥) → Err UnsupportedExtensionType ≡ string_on r t p
    unfolding string_on
    string-other h = simp (string_on, ne_eqb t TYPE_STRING d, ne_eqb t TYPE_BYTES h)

pub ruleset string_laws = (string-fits, string-bad, string_bytes, string-other)
