-- The stack as words: how its words are laid, a level that was written is read again, and those below it stay.
-- Assumes nothing.
use Rattle.std.specs.Prelude.{◌≡◌, refl, Bool, true, false, List, [], ◌∷◌, ℕ, ◌+◌, ◌*◌, ◌≤◌, ◌<◌, length, get_or, eqb}
use Rattle.basis.specs.Kit.{sym, ap, ◌∙◌}
use Rattle.basis.specs.Kit.{sets}
use Rattle.basis.proofs.Kit.{arith}
use mathlib.Core.Bool.{not}
use native.Mathlib.Nat.{add-zero}
use mir.Val.{bool_byte}
use Rattle.basis.specs.First.{only_if}
use Rattle.limits.specs.Figures.{most_levels}
use lib.ListN.{set}
use Rattle.octets.proofs.Overlay.{get_or-sets_before, get_or-sets-at}
use Rattle.octets.proofs.Halfway.{Laying, laying-start, laying-next, laying-inside, laying-room, laying-length, laying-end}
use Rattle.field.specs.Leaf.{span}
use Rattle.levels.specs.declared.Level.{Level}
use Rattle.levels.specs.inner.Stack.{level_words, stack_words, words_of, level_at}

-- ---- the loop of `put_words`: all of the words fit, and the first i are laid
pub words-start : (l : List ℕ) (at : ℕ) (ws : List ℕ) → at + length ws ≤ length l → Laying l at ws l (length ws) 0
words-start l at ws h =
    laying-start l at ws (length ws) (record { wanted = omega arith; inside = omega arith; most = λ k. absurd (omega arith) })

pub words-end : (l : List ℕ) (at : ℕ) (ws m : List ℕ) (i : ℕ) → Laying l at ws m (length ws) i → length ws ≤ i → m ≡ sets l at ws
words-end l at ws m i k h = (laying-end l at ws m (length ws) i k h).left

pub words-next : (l : List ℕ) (at : ℕ) (ws m : List ℕ) (i : ℕ) → Laying l at ws m (length ws) i → i < length ws
    → Laying l at ws (set m (at + i) (get_or ws i 0)) (length ws) (i + 1)
words-next l at ws m i k h = laying-next l at ws m (length ws) i k (get_or ws i 0) 0 refl h

pub ruleset words_laws = (words-start, words-end, words-next, laying-inside, laying-room, laying-length)

-- ---- levels
pub level_said : (st : List ℕ) (l : ℕ)
    → record {
      end = get_or st (l * level_words) 0;
      name = span (get_or st (l * level_words + 1) 0) (get_or st (l * level_words + 2) 0);
      place = record {
        file = get_or st (l * level_words + 3) 0;
        message = not (eqb (get_or st (l * level_words + 4) 0) 0);
        body = span (get_or st (l * level_words + 5) 0) (get_or st (l * level_words + 6) 0);
        left = get_or st (l * level_words + 7) 0;
      };
    } ≡ level_at st l
unfolding level_at
level_said st l = refl

-- the code's word of a flag
flag_word : (b : Bool) → bool_byte b ≡ only_if b 1 0
flag_word true = refl
flag_word false = refl

pub level_written : (st : List ℕ) (l : ℕ) (v : Level) (st' : List ℕ)
    → st' ≡ sets st (l * level_words)
    (v.end ∷ v.name.from ∷ v.name.to ∷ v.place.file ∷ bool_byte v.place.message ∷ v.place.body.from ∷ v.place.body.to
    ∷ v.place.left ∷ [])
    → st' ≡ sets st (l * level_words) (words_of v)
level_written st l v st' e = rw (flag_word v.place.message) at e

flag-read : (b : Bool) → not (eqb (only_if b 1 0) 0) ≡ b
flag-read true = refl
flag-read false = refl

module _ (st : List ℕ) (l : ℕ) (v : Level) (h : l < most_levels) (size : length st ≡ stack_words) where
  word_read : (k : ℕ) → k < level_words → get_or (sets st (l * level_words) (words_of v)) (l * level_words + k) 0 ≡ get_or (words_of v) k 0
  word_read k g = get_or-sets-at 0 (words_of v) st (l * level_words) k (omega arith) g

  pub level-read : level_at (sets st (l * level_words) (words_of v)) l ≡ v
  unfolding level_at
  level-read =
      rw (
        sym (ap (λ n. get_or (sets st (l * level_words) (words_of v)) n 0) (add-zero (l * level_words))) ∙ word_read 0 (omega arith),
        word_read 1 (omega arith),
        word_read 2 (omega arith),
        word_read 3 (omega arith),
        word_read 4 (omega arith),
        word_read 5 (omega arith),
        word_read 6 (omega arith),
        word_read 7 (omega arith),
        flag-read v.place.message,
      )

pub level-below : (st : List ℕ) (k : ℕ) (ws : List ℕ) (l : ℕ) → l < k → level_at (sets st (k * level_words) ws) l ≡ level_at st l
unfolding level_at
level-below st k ws l h =
    let word : (n : ℕ) → n < k * level_words → get_or (sets st (k * level_words) ws) n 0 ≡ get_or st n 0 =
    get_or-sets_before 0 ws st (k * level_words) in
    rw (
      word (l * level_words) (omega arith),
      word (l * level_words + 1) (omega arith),
      word (l * level_words + 2) (omega arith),
      word (l * level_words + 3) (omega arith),
      word (l * level_words + 4) (omega arith),
      word (l * level_words + 5) (omega arith),
      word (l * level_words + 6) (omega arith),
      word (l * level_words + 7) (omega arith),
    )
