-- The laws of `two`, `three`, `four` and `lead_at`: what the bytes of a value that stands at the front of a list are, by its lead byte.
-- Assumes nothing.
use Rattle.std.specs.Prelude.{◌≡◌, List, [], ◌∷◌, ℕ, ◌-◌, ◌/◌, ◌≤◌, ◌<◌, length, get_or, take, drop}
use Rattle.basis.specs.Kit.{sym}
use Rattle.basis.proofs.Kit.{arith}
use lib.ListN.{take-append-drop, length-drop}
use lib.Seq.{take-suc, take_all, length-take-le}
use Rattle.octets.specs.Octets.{part}
use Rattle.utf8.specs.Utf8.{point_of, lead_of}
use Rattle.utf8.proofs.Forms.{NoSurrogate, Form, one, two, three, four, form-point}
use Rattle.utf8.proofs.Forms.{point2, point3, point4, point-three, point-four}
use Rattle.utf8.proofs.Front.{Front, front, lead-front, lead-none}

-- ---- none stands there: what the bytes of a value would have to be

record Second (bs : List ℕ) : Type 0 where
  low : 0xC2 ≤ get_or bs 0 0
  tail : get_or bs 1 0 / 64 ≡ 2
  long : 2 ≤ length bs

second : {bs : List ℕ} {n : ℕ} → Front bs n → 0x80 ≤ get_or bs 0 0 → Second bs
second (front (one h) bs) k = absurd (omega arith)
second (front (two l h p q) bs) k = record { low = omega arith; tail = omega arith; long = omega arith }
second (front (three l h v p q r) bs) k = record { low = omega arith; tail = omega arith; long = omega arith }
second (front (four l h p q r s) bs) k = record { low = omega arith; tail = omega arith; long = omega arith }

record Third (bs : List ℕ) : Type 0 where
  tail : get_or bs 2 0 / 64 ≡ 2
  long : 3 ≤ length bs

third : {bs : List ℕ} {n : ℕ} → Front bs n → 0xE0 ≤ get_or bs 0 0 → Third bs
third (front (one h) bs) k = absurd (omega arith)
third (front (two l h p q) bs) k = absurd (omega arith)
third (front (three l h v p q r) bs) k = record { tail = omega arith; long = omega arith }
third (front (four l h p q r s) bs) k = record { tail = omega arith; long = omega arith }

record Fourth (bs : List ℕ) : Type 0 where
  tail : get_or bs 3 0 / 64 ≡ 2
  long : 4 ≤ length bs

fourth : {bs : List ℕ} {n : ℕ} → Front bs n → 0xF0 ≤ get_or bs 0 0 → Fourth bs
fourth (front (one h) bs) k = absurd (omega arith)
fourth (front (two l h p q) bs) k = absurd (omega arith)
fourth (front (three l h v p q r) bs) k = absurd (omega arith)
fourth (front (four l h p q r s) bs) k = record { tail = omega arith; long = omega arith }

-- the values of three bytes, and of four
record Range3 (p : ℕ) : Type 0 where
  least : 0x800 ≤ p
  plain : NoSurrogate p

range3 : {bs : List ℕ} {n : ℕ} → Front bs n → 0xE0 ≤ get_or bs 0 0 → get_or bs 0 0 < 0xF0 → Range3 (point_of bs)
range3 (front (one h) bs) k m = absurd (omega arith)
range3 (front (two l h p q) bs) k m = absurd (omega arith)
range3 (front (three l h v p q r) bs) k m = rw (form-point (three l h v p q r) bs) (record { least = l; plain = v })
range3 (front (four l h p q r s) bs) k m = absurd (omega arith)

record Range4 (p : ℕ) : Type 0 where
  least : 0x10000 ≤ p
  most : p ≤ 0x10FFFF

range4 : {bs : List ℕ} {n : ℕ} → Front bs n → 0xF0 ≤ get_or bs 0 0 → Range4 (point_of bs)
range4 (front (one h) bs) k = absurd (omega arith)
range4 (front (two l h p q) bs) k = absurd (omega arith)
range4 (front (three l h v p q r) bs) k = absurd (omega arith)
range4 (front (four l h p q r s) bs) k = rw (form-point (four l h p q r s) bs) (record { least = l; most = h })

-- cut before the second, third or fourth byte; that byte does not go on with a value; the value is out of range
module _ (bs : List ℕ) where
  module _ (k : 0x80 ≤ get_or bs 0 0) where
    pub second-cut : length bs < 2 → 0 ≡ lead_of bs
    second-cut h = lead-none bs (λ n f. let s = second f k in omega arith)

    pub second-low : (a : ℕ) → a ≡ get_or bs 0 0 → a < 0xC2 → 0 ≡ lead_of bs
    second-low a e h = lead-none bs (λ n f. let s = second f k in omega arith)

    pub second-not : (b : ℕ) → b ≡ get_or bs 1 0 → (b / 64 ≡ 2 → ⊥) → 0 ≡ lead_of bs
    second-not b e h = lead-none bs (λ n f. let s = second f k in omega arith)

  module _ (k : 0xE0 ≤ get_or bs 0 0) where
    pub third-cut : length bs < 3 → 0 ≡ lead_of bs
    third-cut h = lead-none bs (λ n f. let s = third f k in omega arith)

    pub third-not : (c : ℕ) → c ≡ get_or bs 2 0 → (c / 64 ≡ 2 → ⊥) → 0 ≡ lead_of bs
    third-not c e h = lead-none bs (λ n f. let s = third f k in omega arith)

    module _ (m : get_or bs 0 0 < 0xF0) (a b c : ℕ) (x : a ≡ get_or bs 0 0) (y : b ≡ get_or bs 1 0) (z : c ≡ get_or bs 2 0) where
      point-is : point_of bs ≡ point3 a b c
      point-is = rw (x, y, z) (point-three bs k m)

      pub three-low : point3 a b c < 0x800 → 0 ≡ lead_of bs
      three-low h = lead-none bs (λ n f. let s = range3 f k m in omega (arith, point-is))

      pub three-surrogate : point3 a b c / 0x800 ≡ 0x1B → 0 ≡ lead_of bs
      three-surrogate h = lead-none bs (λ n f. (rw point-is at (range3 f k m)).plain h)

  module _ (k : 0xF0 ≤ get_or bs 0 0) where
    pub fourth-cut : length bs < 4 → 0 ≡ lead_of bs
    fourth-cut h = lead-none bs (λ n f. let s = fourth f k in omega arith)

    pub fourth-not : (d : ℕ) → d ≡ get_or bs 3 0 → (d / 64 ≡ 2 → ⊥) → 0 ≡ lead_of bs
    fourth-not d e h = lead-none bs (λ n f. let s = fourth f k in omega arith)

    module _ (a b c d : ℕ) (x : a ≡ get_or bs 0 0) (y : b ≡ get_or bs 1 0) (z : c ≡ get_or bs 2 0) (w : d ≡ get_or bs 3 0) where
      points-are : point_of bs ≡ point4 a b c d
      points-are = rw (x, y, z, w) (point-four bs k)

      pub four_low : point4 a b c d < 0x10000 → 0 ≡ lead_of bs
      four_low h = lead-none bs (λ n f. let s = range4 f k in omega (arith, points-are))

      pub four-high : 0x10FFFF < point4 a b c d → 0 ≡ lead_of bs
      four-high h = lead-none bs (λ n f. let s = range4 f k in omega (arith, points-are))

-- ---- one stands there

form-two : (a b : ℕ) → 0xC2 ≤ a → a < 0xE0 → b / 64 ≡ 2 → Form (point2 a b) (a ∷ b ∷ [])
form-two a b l h q = two {x = a} {y = b} (omega arith) (omega arith) (omega arith) (omega arith)

module _ (a b c : ℕ) (q : b / 64 ≡ 2) (r : c / 64 ≡ 2) where
  form-three : 0xE0 ≤ a → a < 0xF0 → 0x800 ≤ point3 a b c → NoSurrogate (point3 a b c) → Form (point3 a b c) (a ∷ b ∷ c ∷ [])
  form-three l h m w = three {x = a} {y = b} {z = c} m (omega arith) w (omega arith) (omega arith) (omega arith)

  form-four : (d : ℕ) → d / 64 ≡ 2 → 0xF0 ≤ a → 0x10000 ≤ point4 a b c d → point4 a b c d ≤ 0x10FFFF
      → Form (point4 a b c d) (a ∷ b ∷ c ∷ d ∷ [])
  form-four d s l m h = four {x = a} {y = b} {z = c} {w = d} m h (omega arith) (omega arith) (omega arith) (omega arith)

module _ (bs : List ℕ) where
  lead-take : {c : ℕ} {u : List ℕ} (n : ℕ) → n ≤ length bs → take n bs ≡ u → Form c u → n ≡ lead_of bs
  lead-take n h e f =
      let whole = take-append-drop n bs in
      let long = length-take-le n bs h in
      sym (lead-front (rw (← e, whole, long) at (front f (drop n bs))))

  take-two : 2 ≤ length bs → take 2 bs ≡ get_or bs 0 0 ∷ get_or bs 1 0 ∷ []
  take-two h = rw (take-suc bs 1 0 (omega arith), take-suc bs 0 0 (omega arith))

  take-three : 3 ≤ length bs → take 3 bs ≡ get_or bs 0 0 ∷ get_or bs 1 0 ∷ get_or bs 2 0 ∷ []
  take-three h = rw (take-suc bs 2 0 (omega arith), take-two (omega arith))

  take-four : 4 ≤ length bs → take 4 bs ≡ get_or bs 0 0 ∷ get_or bs 1 0 ∷ get_or bs 2 0 ∷ get_or bs 3 0 ∷ []
  take-four h = rw (take-suc bs 3 0 (omega arith), take-three (omega arith))

  module _ (a b : ℕ) (x : a ≡ get_or bs 0 0) (y : b ≡ get_or bs 1 0) (q : b / 64 ≡ 2) where
    pub two-lead : 2 ≤ length bs → 0xC2 ≤ a → get_or bs 0 0 < 0xE0 → 2 ≡ lead_of bs
    two-lead h l m = lead-take 2 h (rw (x, y) (take-two h)) (form-two a b l (omega arith) q)

    module _ (c : ℕ) (z : c ≡ get_or bs 2 0) (r : c / 64 ≡ 2) where
      pub three-lead : 3 ≤ length bs → 0xE0 ≤ get_or bs 0 0 → get_or bs 0 0 < 0xF0
          → 0x800 ≤ point3 a b c → NoSurrogate (point3 a b c) → 3 ≡ lead_of bs
      three-lead h l m p v = lead-take 3 h (rw (x, y, z) (take-three h)) (form-three a b c q r (omega arith) (omega arith) p v)

      pub four-lead : (d : ℕ) → d ≡ get_or bs 3 0 → d / 64 ≡ 2 → 4 ≤ length bs → 0xF0 ≤ get_or bs 0 0
          → 0x10000 ≤ point4 a b c d → point4 a b c d ≤ 0x10FFFF → 4 ≡ lead_of bs
      four-lead d w s h l m p = lead-take 4 h (rw (x, y, z, w) (take-four h)) (form-four a b c q r d s (omega arith) m p)

-- a lead byte of more bytes is above those of fewer
pub three-above : (a : ℕ) → 0xE0 ≤ a → 0x80 ≤ a
three-above a h = omega arith

pub four-above : (a : ℕ) → 0xF0 ≤ a → 0xE0 ≤ a
four-above a h = omega arith

-- ---- at a place: the rest of the list, as the code lends it

module _ (s : List ℕ) (at : ℕ) where
  rest-is : part s at (length s) ≡ drop at s
  rest-is = take_all (length s - at) (drop at s) (omega (arith, length-drop at s))

  pub rest-lead : (r : ℕ) → r ≡ lead_of (part s at (length s)) → r ≡ lead_of (drop at s)
  rest-lead r e = rw rest-is at e

  pub one-lead : (a : ℕ) → at < length s → a ≡ get_or (part s at (length s)) 0 0 → a < 0x80 → 1 ≡ lead_of (drop at s)
  one-lead a h e l =
      let long : 1 ≤ length (drop at s) = omega (arith, length-drop at s) in
      lead-take (drop at s) 1 long (rw (e, rest-is) (take-suc (drop at s) 0 0 long)) (one l)

pub ruleset two_laws = (second-cut, second-low, second-not, two-lead)

pub ruleset three_laws = (second-not, third-cut, third-not, three-low, three-surrogate, three-lead, three-above)

pub ruleset four_laws = (second-not, third-not, fourth-cut, fourth-not, four_low, four-high, four-lead, three-above, four-above)

pub ruleset lead_laws = (rest-lead, one-lead)
