-- Real oneofs: the loop of `count_reals`, which has counted them among the first i words.
-- Assumes nothing.
use Rattle.std.specs.Prelude.{◌≡◌, List, ◌∷◌, ℕ, ◌+◌, ◌≤◌, ◌<◌, eqb, length, get_or, drop}
use Rattle.basis.specs.Kit.{sym, ap, ◌∙◌}
use Rattle.basis.specs.First.{only_if}
use Rattle.basis.proofs.Kit.{arith, add-one, eq-eqb, ne_eqb}
use lib.ListN.{drop_of_length-le}
use lib.Seq.{drop-cons}
use Rattle.oneofs.specs.Fields.{real_count}

pub record Counting (ws : List ℕ) (n i : ℕ) : Type 0 where
  pub reached : i ≤ length ws
  pub few : n ≤ i
  pub counted : n + real_count (drop i ws) ≡ real_count ws

pub counting-start : (ws : List ℕ) → Counting ws 0 0
counting-start ws = record { reached = omega arith; few = omega arith; counted = omega arith }

pub word-here : (ws : List ℕ) (i : ℕ) → i < length ws → drop i ws ≡ get_or ws i 0 ∷ drop (i + 1) ws
word-here ws i h = rw (drop-cons ws i 0 h, add-one i)

module _ (ws : List ℕ) (n i : ℕ) (u : Counting ws n i) where
  pub counting-done : length ws ≤ i → n ≡ real_count ws
  counting-done h = omega (arith, u.counted, ap real_count (drop_of_length-le ws h))

  module _ (h : i < length ws) where
    split-here : n + (only_if (eqb (get_or ws i 0) 2) 1 0 + real_count (drop (i + 1) ws)) ≡ real_count ws
    split-here = ap (λ l. n + real_count l) (sym (word-here ws i h)) ∙ u.counted

    pub counting-real : get_or ws i 0 ≡ 2 → Counting ws (n + 1) (i + 1)
    counting-real e = record {
      reached = omega arith;
      few = omega (arith, u.few);
      counted = let p = rw (eq-eqb _ 2 e) at split-here in omega (arith, p);
    }

    pub counting-other : (get_or ws i 0 ≡ 2 → ⊥) → Counting ws n (i + 1)
    counting-other e = record {
      reached = omega arith;
      few = omega (arith, u.few);
      counted = let p = rw (ne_eqb _ 2 e) at split-here in omega (arith, p);
    }

pub ruleset counting_laws = (counting-start, counting-done, counting-real, counting-other)
