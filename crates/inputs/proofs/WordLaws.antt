-- A buffer that is filled by a rule, element by element: the loops of `words_of` and `signed_words_of`, for elements of any type.
-- Assumes nothing.
use Rattle.std.specs.Prelude.{◌≡◌, refl, List, ℕ, ◌+◌, ◌*◌, ◌/◌, ◌≤◌, ◌<◌, length, get_or, take}
use Rattle.basis.specs.Kit.{ap, ◌∙◌}
use Rattle.basis.proofs.Kit.{arith, Fits}
use Prim.Native.Nat.{min}
use native.Mathlib.Decide.{dec_lt}
use lib.IntN.{ℤ}
use lib.ListN.{set, length-set, length-take}
use lib.Seq.{get_or-set_same, get_or-set_other}
use mir.Syntax.{w32}
use mir.Val.{to_z, of_z}
use mir.Facts.{of_z-to_z}
use Rattle.inputs.specs.Words.{Filled}

pub record Filling {A : Type 0} (f : ℕ → A) (d : A) (bytes : ℕ) (l l' : List A) (n i : ℕ) : Type 0 where
  pub reached : i ≤ n
  pub count : n ≡ min (bytes / 4) (length l)
  pub kept : length l' ≡ length l
  pub filled : Filled f d l' i

module _ {A : Type 0} (f : ℕ → A) (d : A) (bytes : ℕ) (l : List A) (n : ℕ) where
  pub filling-start : n ≡ min (bytes / 4) (length l) → Filling f d bytes l l n 0
  filling-start e = record { reached = omega arith; count = e; kept = refl; filled = record { each = λ j h. absurd (omega arith) } }

  module _ (m : List A) (i : ℕ) (k : Filling f d bytes l m n i) where
    pub filling-length : length m ≡ length l
    filling-length = k.kept

    pub filling-end : n ≤ i → Filled f d m n
    filling-end h = let e : i ≡ n = omega (arith, k.reached) in rw e at k.filled

    module _ (h : i < n) where
      pub filling-word : i * 4 + 4 ≤ bytes
      filling-word = omega (arith, k.count)

      pub filling-room : i < length m
      filling-room = omega (arith, k.count, k.kept)

      pub filling-next : (x : A) → x ≡ f i → Filling f d bytes l (set m i x) n (i + 1)
      filling-next x e =
          record { reached = omega arith; count = k.count; kept = length-set m i x ∙ k.kept; filled = record { each = each } }
        where
          each : (j : ℕ) → j < i + 1 → get_or (set m i x) j d ≡ f j
          each j g = elim (dec_lt j i) [
            | yes p ↦ get_or-set_other m i j x d (λ q. omega arith) ∙ k.filled.each j p
            | no p ↦ let q : j ≡ i = omega arith in rw q (get_or-set_same m i x d filling-room ∙ e)
          ]

-- the words that were read are the first so many of the buffer
pub words_count : {A : Type 0} (r k : ℕ) (l l' : List A) → r ≡ min k (length l) → length l' ≡ length l → r ≡ length (take r l')
words_count r k l l' e q = rw length-take (omega arith)

-- a signed word as the machine stores it
pub signed_word : (z : ℤ) (u v : ℕ) → z ≡ to_z w32 u → u ≡ v → u < 4294967296 → to_z w32 (of_z w32 z) ≡ to_z w32 v
signed_word z u v p q h =
    let fits : Fits w32 u = record { fits = h } in
    ap (λ x. to_z w32 (of_z w32 x)) p ∙ ap (to_z w32) (of_z-to_z fits ∙ q)

pub ruleset filling_laws = (filling-start, filling-length, filling-end, filling-word, filling-room, filling-next, signed_word)
