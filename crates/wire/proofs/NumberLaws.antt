-- Zigzag, the low 32 bits and widening by sign: each undoes its inverse, and what each makes of the bits of a signed number.
-- Assumes nothing.
use Rattle.std.specs.Prelude.{◌≡◌, refl, Bool, true, false, ℕ, suc, ◌+◌, ◌-◌, ◌*◌, ◌/◌, ◌%◌, ◌^◌, ◌≤◌, ◌<◌, eqb, ltb}
use Rattle.basis.specs.Kit.{sym, ◌∙◌}
use Rattle.basis.proofs.Kit.{arith, eq-eqb, ne_eqb, lt-ltb, le-ltb, w64}
use lib.IntN.{ℤ, pos, negsuc}
use mir.Syntax.{Width, w8, w16, w32, w128}
use mir.Val.{SFits, of_z, bits, hbits}
use borrow.Author.Tests.{ltb-true, ltb-false, eqb-true, eqb-false}
use Rattle.wire.specs.Numbers.{zig, zigzag_of, unzigzag_of, low32_of, widen32_of}

-- ---- one law for each way through the code

pub zigzag-plus : (u : ℕ) → u < 2 ^ 63 → 2 * u ≡ zigzag_of u
unfolding zigzag_of
zigzag-plus u h = simp (zigzag_of, lt-ltb u (2 ^ 63) h)

pub zigzag-minus : (u : ℕ) → 2 ^ 63 ≤ u → 2 * (2 ^ 64 - 1 - u) + 1 ≡ zigzag_of u
unfolding zigzag_of
zigzag-minus u h = simp (zigzag_of, le-ltb u (2 ^ 63) h)

pub unzigzag-even : (z : ℕ) → z % 2 ≡ 0 → z / 2 ≡ unzigzag_of z
unfolding unzigzag_of
unzigzag-even z h = simp (unzigzag_of, eq-eqb (z % 2) 0 h)

pub unzigzag-odd : (z : ℕ) → (z % 2 ≡ 0 → ⊥) → 2 ^ 64 - 1 - z / 2 ≡ unzigzag_of z
unfolding unzigzag_of
unzigzag-odd z h = simp (unzigzag_of, ne_eqb (z % 2) 0 h)

pub low32-mod : (u : ℕ) → u % 2 ^ 32 ≡ low32_of u
unfolding low32_of
low32-mod u = refl

pub widen32-plus : (u : ℕ) → u < 2 ^ 31 → u ≡ widen32_of u
unfolding widen32_of
widen32-plus u h = simp (widen32_of, lt-ltb u (2 ^ 31) h)

pub widen32-minus : (u : ℕ) → 2 ^ 31 ≤ u → u + (2 ^ 64 - 2 ^ 32) ≡ widen32_of u
unfolding widen32_of
widen32-minus u h = simp (widen32_of, le-ltb u (2 ^ 31) h)

pub ruleset number_laws = (zigzag-plus, zigzag-minus, unzigzag-even, unzigzag-odd, low32-mod, widen32-plus, widen32-minus)

-- ---- zigzag and its inverse

pub unzigzag-zigzag : (u : ℕ) → u < 2 ^ 64 → unzigzag_of (zigzag_of u) ≡ u
unzigzag-zigzag u h = go (ltb u (2 ^ 63)) refl
  where
    go : (t : Bool) → ltb u (2 ^ 63) ≡ t → unzigzag_of (zigzag_of u) ≡ u
    go true e = rw (← zigzag-plus u (ltb-true u _ e), ← unzigzag-even (2 * u) (omega arith)) (omega arith)
    go false e =
        let low : 2 ^ 63 ≤ u = ltb-false u _ e in
        rw (← zigzag-minus u low, ← unzigzag-odd (2 * (2 ^ 64 - 1 - u) + 1) (λ p. omega arith)) (omega arith)

pub zigzag-unzigzag : (z : ℕ) → z < 2 ^ 64 → zigzag_of (unzigzag_of z) ≡ z
zigzag-unzigzag z h = go (eqb (z % 2) 0) refl
  where
    go : (t : Bool) → eqb (z % 2) 0 ≡ t → zigzag_of (unzigzag_of z) ≡ z
    go true e =
        let even : z % 2 ≡ 0 = eqb-true (z % 2) 0 e in
        rw (← unzigzag-even z even, ← zigzag-plus (z / 2) (omega arith)) (omega arith)
    go false e =
        let odd : z % 2 ≡ 0 → ⊥ = eqb-false (z % 2) 0 e in
        rw (← unzigzag-odd z odd, ← zigzag-minus (2 ^ 64 - 1 - z / 2) (omega arith)) (omega arith)

-- ---- of the bits of a signed number

pub zigzag-signed : (z : ℤ) → SFits w64 z → zigzag_of (of_z w64 z) ≡ zig z
zigzag-signed (pos n) f = sym (zigzag-plus n f.sfits)
zigzag-signed (negsuc n) f =
    let h : n < 2 ^ 63 = f.sfits in
    sym (zigzag-minus (2 ^ 64 - suc n) (omega arith)) ∙ omega arith

pub unzigzag-signed : (z : ℤ) → unzigzag_of (zig z) ≡ of_z w64 z
unzigzag-signed (pos n) = sym (unzigzag-even (2 * n) (omega arith)) ∙ omega arith
unzigzag-signed (negsuc n) = sym (unzigzag-odd (2 * n + 1) (λ p. omega arith)) ∙ omega arith

-- the sign takes one bit, at every width
half : (w : Width) → 2 * 2 ^ hbits w ≡ 2 ^ bits w
half w8 = refl
half w16 = refl
half w32 = refl
half w64 = refl
half w128 = refl

-- a number of so many bits has a zigzag form of as many
pub zig-lt : (w : Width) (z : ℤ) → SFits w z → zig z < 2 ^ bits w
zig-lt w (pos n) f = omega (arith, half w, f.sfits)
zig-lt w (negsuc n) f = omega (arith, half w, f.sfits)

pub widen32-signed : (z : ℤ) → SFits w32 z → widen32_of (of_z w32 z) ≡ of_z w64 z
widen32-signed (pos n) f = sym (widen32-plus n f.sfits)
widen32-signed (negsuc n) f =
    let h : n < 2 ^ 31 = f.sfits in
    sym (widen32-minus (2 ^ 32 - suc n) (omega arith)) ∙ omega arith

pub low32-signed : (z : ℤ) → SFits w32 z → low32_of (of_z w64 z) ≡ of_z w32 z
low32-signed (pos n) f = let h : n < 2 ^ 31 = f.sfits in sym (low32-mod n) ∙ omega arith
low32-signed (negsuc n) f = let h : n < 2 ^ 31 = f.sfits in sym (low32-mod (2 ^ 64 - suc n)) ∙ omega arith
