-- The four forms of RFC 3629, section 3, as facts on numbers: they are what `utf8` writes, and `point_of` reads the value back.
-- Assumes nothing.
use Rattle.std.specs.Prelude.{◌≡◌, refl, Bool, true, false, ◌&&◌, ◌||◌, List, [], ◌∷◌, ◌++◌, ℕ, ◌+◌, ◌-◌, ◌*◌, ◌/◌, ◌%◌, ◌≤◌, ◌<◌, ltb, leb, get_or}
use Rattle.basis.specs.Kit.{sym, ◌∙◌}
use Rattle.basis.proofs.Kit.{arith, lt-ltb, le-ltb}
use mathlib.Core.Bool.{true≢false}
use native.Mathlib.Nat.{div-div-eq-div-mul}
use borrow.Author.Tests.{le-leb, ltb-true, ltb-false, leb-true}
use Rattle.utf8.specs.Utf8.{is_scalar, utf8, point_of}

-- the surrogates, U+D800 to U+DFFF, are the numbers whose 0x800th is 0x1B
abbrev pub NoSurrogate : ℕ → Type 0
NoSurrogate c = c / 0x800 ≡ 0x1B → ⊥

-- the bytes of the scalar value c
pub data Form (c : ℕ) : List ℕ → Type 0 where
  one : c < 0x80 → Form c (c ∷ [])
  two : {x y : ℕ} → 0x80 ≤ c → c < 0x800 → x ≡ 0xC0 + c / 64 → y ≡ 0x80 + c % 64 → Form c (x ∷ y ∷ [])
  three : {x y z : ℕ} → 0x800 ≤ c → c < 0x10000 → NoSurrogate c
      → x ≡ 0xE0 + c / 4096 → y ≡ 0x80 + c / 64 % 64 → z ≡ 0x80 + c % 64 → Form c (x ∷ y ∷ z ∷ [])
  four : {x y z w : ℕ} → 0x10000 ≤ c → c ≤ 0x10FFFF
      → x ≡ 0xF0 + c / 262144 → y ≡ 0x80 + c / 4096 % 64 → z ≡ 0x80 + c / 64 % 64 → w ≡ 0x80 + c % 64 → Form c (x ∷ y ∷ z ∷ w ∷ [])

-- ---- scalar values

scalar-low : (c : ℕ) → c < 0xD800 → is_scalar c ≡ true
unfolding is_scalar
scalar-low c h = simp (is_scalar, lt-ltb c 0xD800 h)

scalar-high : (c : ℕ) → 0xE000 ≤ c → c ≤ 0x10FFFF → is_scalar c ≡ true
unfolding is_scalar
scalar-high c l h = simp (is_scalar, le-ltb c 0xD800 (omega arith), le-leb 0xE000 c l, le-leb c 0x10FFFF h)

scalar : (c : ℕ) → c ≤ 0x10FFFF → NoSurrogate c → is_scalar c ≡ true
scalar c h n = go (ltb c 0xD800) refl
  where
    go : (t : Bool) → ltb c 0xD800 ≡ t → is_scalar c ≡ true
    go true e = scalar-low c (ltb-true c _ e)
    go false e = let l = ltb-false c _ e in scalar-high c (omega arith) h

record Scalar (c : ℕ) : Type 0 where
  most : c ≤ 0x10FFFF
  plain : NoSurrogate c

scalar-inv : (c : ℕ) → is_scalar c ≡ true → Scalar c
unfolding is_scalar
scalar-inv c = go (ltb c 0xD800) (leb 0xE000 c) (leb c 0x10FFFF) refl refl refl
  where
    go : (x y z : Bool) → ltb c 0xD800 ≡ x → leb 0xE000 c ≡ y → leb c 0x10FFFF ≡ z → (x || y && z) ≡ true → Scalar c
    go true y z p q r e = let h = ltb-true c _ p in record { most = omega arith; plain = λ s. omega arith }
    go false true true p q r e = let l = leb-true _ c q in record { most = leb-true c _ r; plain = λ s. omega arith }
    go false true false p q r e = absurd (true≢false (sym e))
    go false false z p q r e = absurd (true≢false (sym e))

-- ---- what `utf8` writes

pub form-utf8 : (c : ℕ) → is_scalar c ≡ true → Form c (utf8 c)
unfolding utf8
form-utf8 c s = go (ltb c 0x80) (ltb c 0x800) (ltb c 0x10000) refl refl refl (scalar-inv c s)
  where
    go : (x y z : Bool) → ltb c 0x80 ≡ x → ltb c 0x800 ≡ y → ltb c 0x10000 ≡ z → Scalar c → Form c (utf8 c)
    go true y z p q r k = simp (utf8, p) (one (ltb-true c _ p))
    go false true z p q r k = simp (utf8, p, q) (two (ltb-false c _ p) (ltb-true c _ q) refl refl)
    go false false true p q r k = simp (utf8, p, q, r) (three (ltb-false c _ q) (ltb-true c _ r) k.plain refl refl refl)
    go false false false p q r k = simp (utf8, p, q, r) (four (ltb-false c _ r) k.most refl refl refl refl)

module _ {c : ℕ} where
  pub form-is : {u : List ℕ} → Form c u → u ≡ utf8 c
  unfolding utf8
  form-is (one h) = simp (utf8, lt-ltb c 0x80 h)
  form-is (two l h p q) = simp (p, q, utf8, le-ltb c 0x80 l, lt-ltb c 0x800 h)
  form-is (three l h n p q r) = simp (p, q, r, utf8, le-ltb c 0x80 (omega arith), le-ltb c 0x800 l, lt-ltb c 0x10000 h)
  form-is (four l h p q r s) = simp (p, q, r, s, utf8, le-ltb c 0x80 (omega arith), le-ltb c 0x800 (omega arith), le-ltb c 0x10000 l)

  pub form-scalar : {u : List ℕ} → Form c u → is_scalar c ≡ true
  form-scalar (one h) = scalar-low c (omega arith)
  form-scalar (two l h p q) = scalar-low c (omega arith)
  form-scalar (three l h n p q r) = scalar c (omega arith) n
  form-scalar (four l h p q r s) = scalar-high c (omega arith) h

-- ---- what `point_of` reads

abbrev pub point2 : ℕ → ℕ → ℕ
point2 a b = (a - 0xC0) * 64 + (b - 0x80)

abbrev pub point3 : ℕ → ℕ → ℕ → ℕ
point3 a b c = (a - 0xE0) * 4096 + (b - 0x80) * 64 + (c - 0x80)

abbrev pub point4 : ℕ → ℕ → ℕ → ℕ → ℕ
point4 a b c d = (a - 0xF0) * 262144 + (b - 0x80) * 4096 + (c - 0x80) * 64 + (d - 0x80)

module _ (bs : List ℕ) where
  point-two : 0x80 ≤ get_or bs 0 0 → get_or bs 0 0 < 0xE0 → point_of bs ≡ point2 (get_or bs 0 0) (get_or bs 1 0)
  unfolding point_of
  point-two l h = simp (point_of, le-ltb _ _ l, lt-ltb _ _ h)

  pub point-three : 0xE0 ≤ get_or bs 0 0 → get_or bs 0 0 < 0xF0 → point_of bs ≡ point3 (get_or bs 0 0) (get_or bs 1 0) (get_or bs 2 0)
  unfolding point_of
  point-three l h = simp (point_of, le-ltb (get_or bs 0 0) 0x80 (omega arith), le-ltb _ _ l, lt-ltb _ _ h)

  pub point-four : 0xF0 ≤ get_or bs 0 0 → point_of bs ≡ point4 (get_or bs 0 0) (get_or bs 1 0) (get_or bs 2 0) (get_or bs 3 0)
  unfolding point_of
  point-four l = simp (point_of, le-ltb (get_or bs 0 0) 0x80 (omega arith), le-ltb (get_or bs 0 0) 0xE0 (omega arith), le-ltb _ _ l)

four-digits : (c : ℕ) → c / 262144 * 262144 + c / 4096 % 64 * 4096 + c / 64 % 64 * 64 + c % 64 ≡ c
four-digits c = omega (arith, div-div-eq-div-mul c 64 64, div-div-eq-div-mul c 4096 64)

pub form-point : {c : ℕ} {u : List ℕ} → Form c u → (bs : List ℕ) → point_of (u ++ bs) ≡ c
unfolding point_of
form-point {c} (one h) bs = simp (point_of, lt-ltb c 0x80 h)
form-point {u = u} (two l h p q) bs = point-two (u ++ bs) (omega arith) (omega arith) ∙ omega arith
form-point {u = u} (three l h n p q r) bs = point-three (u ++ bs) (omega arith) (omega arith) ∙ omega arith
form-point {c} {u} (four l h p q r s) bs = point-four (u ++ bs) (omega arith) ∙ omega (arith, four-digits c)
