-- One path followed by another: the laws of `join`.
-- Assumes nothing.
use Rattle.std.specs.Prelude.{◌≡◌, refl, List, [], ◌∷◌, ◌++◌, ℕ, ◌+◌, ◌*◌, ◌^◌, ◌<◌, length}
use Rattle.basis.specs.Kit.{sets}
use Rattle.basis.proofs.Kit.{arith, w64, Fits}
use mathlib.Core.List.{append-nil}
use Rattle.octets.specs.inner.Laid.{Laid}
use Rattle.octets.proofs.Overlay.{laid-append}
use Rattle.path.specs.Path.{dot, split, components, spell}
use Rattle.path.proofs.PathLaws.{spell-split, split-append, components-nil, components-split}

module _ (a b : List ℕ) where
  spell-alone : length b ≡ 0 → spell (split a ++ components b) ≡ a
  spell-alone h = rw (components-nil b h, append-nil) (spell-split a)

  spell_both : (length b ≡ 0 → ⊥) → spell (split a ++ components b) ≡ a ++ dot ∷ b
  spell_both k = rw (components-split b k, ← (split-append a b)) (spell-split (a ++ dot ∷ b))

  module _ (l l' : List ℕ) (r : ℕ) where
    pub join-alone : length b ≡ 0 → Laid l 0 a l' r → Laid l 0 (spell (split a ++ components b)) l' r
    join-alone h p = rw (spell-alone h) p

    pub join-both : (length b ≡ 0 → ⊥) → (m : List ℕ) (n : ℕ) → Laid l 0 a m n
        → (m' : List ℕ) → m' ≡ sets m n (dot ∷ []) → Laid m' (n + 1) b l' r → Laid l 0 (spell (split a ++ components b)) l' r
    join-both k m n p m' e q =
        let point : Laid m n (dot ∷ []) m' (n + 1) = record { next = refl; left = e } in
        rw (spell_both k) (laid-append a (dot ∷ b) p (laid-append (dot ∷ []) b point q))

pub join-fits : (l a b l' : List ℕ) (n : ℕ) → length a * 1 < 2 ^ 63 → length b * 1 < 2 ^ 63 → Laid l 0 a l' n → n + 1 + length b < 2 ^ 64
join-fits l a b l' n h k p = omega (arith, p.next)

pub point-fits : (l a l' : List ℕ) (n : ℕ) → length a * 1 < 2 ^ 63 → Laid l 0 a l' n → Fits w64 (n + 1)
point-fits l a l' n h p = record { fits = omega (arith, p.next) }

pub alone-fits : (b : List ℕ) → length b * 1 < 2 ^ 63 → 0 + length b < 2 ^ 64
alone-fits b h = omega arith

pub ruleset join_laws = (join-alone, join-both, join-fits, point-fits, alone-fits)
