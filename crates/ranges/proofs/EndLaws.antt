-- What an end becomes: the ways through `end_of`, on the bits of a signed word.
-- Assumes nothing.
use Rattle.std.specs.Prelude.{◌≡◌, refl, true, false, ℕ, zero, suc, ◌-◌, ◌^◌, ◌<◌, Some, None}
use Rattle.basis.proofs.Kit.{arith, eq-eqb, ne_eqb, lt-ltb}
use lib.IntN.{ℤ, pos, negsuc, ◌+ℤ◌}
use mir.Syntax.{w32}
use mir.Val.{SFits, of_z, to_z}
use mir.Facts.{to_z-of_z}
use Rattle.ranges.specs.Ranges.{enum_reserved, last_end, is_last, end_of}

last-yes : (e : ℤ) → SFits w32 e → of_z w32 e ≡ last_end → is_last e ≡ true
last-yes (pos n) f z = let y : n ≡ last_end = z in eq-eqb n last_end y
last-yes (negsuc n) f z = let h : n < 2 ^ 31 = f.sfits in let y : 2 ^ 32 - suc n ≡ last_end = z in absurd (omega arith)

last-no : (e : ℤ) → (of_z w32 e ≡ last_end → ⊥) → is_last e ≡ false
last-no (pos n) z = let y : n ≡ last_end → ⊥ = z in ne_eqb n last_end y
last-no (negsuc n) z = refl

next_fits : (e : ℤ) → SFits w32 e → (of_z w32 e ≡ last_end → ⊥) → SFits w32 (e +ℤ pos 1)
next_fits (pos n) f z = let h : n < 2 ^ 31 = f.sfits in let y : n ≡ last_end → ⊥ = z in record { sfits = omega arith }
next_fits (negsuc zero) f z = record { sfits = omega arith }
next_fits (negsuc (suc n)) f z =
    let h : suc n < 2 ^ 31 = f.sfits in
    record { sfits = simp (lt-ltb 1 (suc (suc n)) (omega arith)) (omega arith) }

module _ (k : ℕ) (e : ℤ) (f : SFits w32 e) where
  pub end_kept : k ≡ enum_reserved → Some (to_z w32 (of_z w32 e)) ≡ end_of k e
  unfolding end_of
  end_kept h = rw (to_z-of_z f) (simp (end_of, eq-eqb k enum_reserved h))

  pub end_none : (k ≡ enum_reserved → ⊥) → of_z w32 e ≡ last_end → None ≡ end_of k e
  unfolding end_of
  end_none h z = simp (end_of, ne_eqb k enum_reserved h, last-yes e f z)

  pub end_fits : (of_z w32 e ≡ last_end → ⊥) → SFits w32 (to_z w32 (of_z w32 e) +ℤ pos 1)
  end_fits z = rw (to_z-of_z f) (next_fits e f z)

  pub end-next : (k ≡ enum_reserved → ⊥) → (of_z w32 e ≡ last_end → ⊥) → Some (to_z w32 (of_z w32 (to_z w32 (of_z w32 e) +ℤ pos 1))) ≡ end_of k e
  unfolding end_of
  end-next h z = rw (to_z-of_z f, to_z-of_z (next_fits e f z)) (simp (end_of, ne_eqb k enum_reserved h, last-no e z))

pub ruleset end_laws = (end_kept, end_none, end_fits, end-next)
