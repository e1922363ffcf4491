-- Bytes at a place: what stands behind them, and that they are the part between their two places.
-- Assumes nothing.
use Rattle.std.specs.Prelude.{◌≡◌, List, ◌++◌, ℕ, ◌+◌, ◌-◌, length, take, drop}
use Rattle.basis.specs.Kit.{sym, ap, ◌∙◌}
use Rattle.basis.proofs.Kit.{arith}
use mathlib.Core.Path.{ap₂}
use lib.Seq.{take-append_seam, drop-append_seam, drop-drop}
use Rattle.octets.specs.Octets.{part}

module _ (bs : List ℕ) (place : ℕ) (xs ys : List ℕ) (h : drop place bs ≡ xs ++ ys) where
  pub drop-behind : drop (place + length xs) bs ≡ ys
  drop-behind = sym (drop-drop (length xs) place bs) ∙ ap (drop (length xs)) h ∙ drop-append_seam xs ys

  pub part_at : part bs place (place + length xs) ≡ xs
  part_at =
      let size : place + length xs - place ≡ length xs = omega arith in
      ap₂ take size h ∙ take-append_seam xs ys
