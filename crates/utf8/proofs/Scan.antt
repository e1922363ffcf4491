-- The loop of `is_utf8`: what is known at its head, and its laws.
-- Assumes nothing.
use Rattle.std.specs.Prelude.{◌≡◌, refl, true, false, List, ℕ, ◌+◌, ◌^◌, ◌≤◌, ◌<◌, length, drop}
use Rattle.basis.specs.Kit.{sym, ◌∙◌}
use Rattle.basis.proofs.Kit.{arith, w64, Fits}
use lib.ListN.{length-drop, drop_of_length-le}
use lib.Seq.{drop-drop}
use Rattle.utf8.specs.Utf8.{lead_of, utf8_from, is_utf8}
use Rattle.utf8.proofs.Front.{Front, front-within, lead-some}
use Rattle.utf8.proofs.Laws.{utf8-step, utf8-not}

-- the bytes from i on decide
pub record Scanned (s : List ℕ) (i : ℕ) : Type 0 where
  pub within : i ≤ length s
  pub rest : is_utf8 s ≡ utf8_from 0 (drop i s)

pub scan-start : (s : List ℕ) → Scanned s 0
unfolding is_utf8
scan-start s = record { within = omega arith; rest = refl }

module _ (s : List ℕ) (i : ℕ) (k : Scanned s i) where
  pub scan-end : length s ≤ i → true ≡ is_utf8 s
  unfolding utf8_from
  scan-end h = rw (k.rest, drop_of_length-le s h)

  module _ (h : i < length s) (n : ℕ) (e : n ≡ lead_of (drop i s)) where
    pub scan-not : n ≡ 0 → false ≡ is_utf8 s
    scan-not z = sym (k.rest ∙ utf8-not (drop i s) (omega (arith, length-drop i s)) (sym e ∙ z))

    module _ (z : n ≡ 0 → ⊥) where
      stands-there : Front (drop i s) n
      stands-there = lead-some (drop i s) n e z

      scan-within : i + n ≤ length s
      scan-within = omega (arith, front-within stands-there, length-drop i s)

      pub scan-fits : length s < 2 ^ 64 → Fits w64 (i + n)
      scan-fits r = record { fits = omega (arith, scan-within) }

      pub scan-next : Scanned s (i + n)
      scan-next =
          let rest = k.rest ∙ utf8-step (drop i s) n stands-there in
          record { within = scan-within; rest = rw (drop-drop n i s) at rest }

pub ruleset scan_laws = (scan-start, scan-end, scan-not, scan-fits, scan-next)
