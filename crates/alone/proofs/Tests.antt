-- Tests that come out alike: one of two things by each, and the order of two places that are moved together.
-- Assumes nothing.
use Rattle.std.specs.Prelude.{◌≡◌, refl, Bool, true, false, ℕ, ◌+◌, eqb, ltb}
use Rattle.basis.specs.Kit.{sym}
use Rattle.basis.proofs.Kit.{arith, eq-eqb, ne_eqb, lt-ltb, le-ltb}
use borrow.Author.Tests.{eqb-true, eqb-false, ltb-true, ltb-false}
use Rattle.basis.proofs.Never.{never}

module _ {A : Type 0} (R : A → A → Type 0) where
  pub by_cases : {b b' : Bool} {u u' v v' : A} → b ≡ b' → (b ≡ true → R u u') → (b ≡ false → R v v')
      → R (elim b [ true ↦ u | false ↦ v ]) (elim b' [ true ↦ u' | false ↦ v' ])
  by_cases {b} {b'} {u} {u'} {v} {v'} p f g = go b b' p f g
    where
      go : (b b' : Bool) → b ≡ b' → (b ≡ true → R u u') → (b ≡ false → R v v')
          → R (elim b [ true ↦ u | false ↦ v ]) (elim b' [ true ↦ u' | false ↦ v' ])
      go true true p f g = f refl
      go true false p f g = never cc
      go false true p f g = never cc
      go false false p f g = g refl

  pub by-test : (b : Bool) {u u' v v' : A} → R u u' → R v v' → R (elim b [ true ↦ u | false ↦ v ]) (elim b [ true ↦ u' | false ↦ v' ])
  by-test true h k = h
  by-test false h k = k

module _ (x x' y y' a b : ℕ) (p : x + b ≡ y + a) (q : x' + b ≡ y' + a) where
  pub ltb-moved : ltb x x' ≡ ltb y y'
  ltb-moved = go (ltb x x') refl
    where
      go : (v : Bool) → ltb x x' ≡ v → v ≡ ltb y y'
      go true h = let k = ltb-true x x' h in sym (lt-ltb y y' (omega arith))
      go false h = let k = ltb-false x x' h in sym (le-ltb y y' (omega arith))

  pub eqb-moved : eqb x x' ≡ eqb y y'
  eqb-moved = go (eqb x x') refl
    where
      go : (v : Bool) → eqb x x' ≡ v → v ≡ eqb y y'
      go true h = let k = eqb-true x x' h in sym (eq-eqb y y' (omega arith))
      go false h = sym (ne_eqb y y' (λ z. eqb-false x x' h (omega arith)))
