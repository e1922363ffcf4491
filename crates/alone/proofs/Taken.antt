-- The front of a request, and behind it one stretch of its bytes: both have twins there.
--
--   taken r n at to == the first n bytes of r, and then those from `at` to `to`
--
-- Assumes nothing.
use Rattle.std.specs.Prelude.{◌≡◌, List, ◌++◌, ℕ, ◌+◌, ◌-◌, ◌≤◌, ◌<◌, length, get_or, take, drop}
use Rattle.basis.specs.Kit.{sym, ap, ◌∙◌}
use Rattle.basis.proofs.Kit.{arith}
use lib.ListN.{length-append, get_or-append}
use lib.Seq.{length-take-le, get_or-take, get_or-drop, get_or-append-add}
use Rattle.octets.specs.Octets.{part}
use Rattle.octets.proofs.Parts.{part_length}
use Rattle.alone.proofs.Windows.{Twin}

abbrev pub taken : (r : List ℕ) (size from to : ℕ) → List ℕ
taken r n at to = take n r ++ part r at to

module _ (r : List ℕ) (n at to : ℕ) (k : n ≤ length r) (h : to ≤ length r) where
  pub taken-length : length (taken r n at to) ≡ n + (to - at)
  taken-length = length-append (take n r) (part r at to) ∙ omega (arith, length-take-le n r k, part_length r at to h)

  pub front-byte : (i : ℕ) → i < n → get_or r i 0 ≡ get_or (taken r n at to) i 0
  front-byte i l = sym (get_or-append (take n r) (part r at to) 0 i (omega (arith, length-take-le n r k)) ∙ get_or-take n r i 0 l)

  abbrev pub front-twin : Twin r (taken r n at to)
  front-twin = record {
    first = 0;
    other = 0;
    size = n;
    inside = omega arith;
    inside' = omega (arith, taken-length);
    byte = λ i l. front-byte (0 + i) (omega arith);
  }

  pub back-byte : (i : ℕ) → i < to - at → get_or r (at + i) 0 ≡ get_or (taken r n at to) (n + i) 0
  back-byte i l =
      sym (ap (λ (m : ℕ). get_or (taken r n at to) (m + i) 0) (sym (length-take-le n r k)) ∙ get_or-append-add (take n r) (part r at to) i 0
      ∙ get_or-take (to - at) (drop at r) i 0 l ∙ get_or-drop at r i 0)

  abbrev pub back-twin : at ≤ to → Twin r (taken r n at to)
  back-twin o = record {
    first = at;
    other = n;
    size = to - at;
    inside = omega arith;
    inside' = omega (arith, taken-length);
    byte = back-byte;
  }
