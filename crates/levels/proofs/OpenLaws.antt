-- Which levels are open: those that end at a place are closed, and the others stay; a level stays open behind a record, and another is
-- opened inside it.
-- Assumes nothing.
use Rattle.std.specs.Prelude.{◌≡◌, List, ℕ, zero, suc, ◌-◌, ◌*◌, ◌≤◌, ◌<◌, length, get_or}
use Rattle.basis.specs.Kit.{sets}
use Rattle.basis.proofs.Kit.{arith}
use mathlib.Core.Path.{subst}
use native.Mathlib.Numerals.{sub-one}
use Rattle.limits.specs.Figures.{most_levels}
use Rattle.field.specs.Leaf.{Lies}
use Rattle.scope.specs.inner.Answers.{InSheet}
use Rattle.levels.specs.declared.Level.{Level}
use Rattle.levels.specs.inner.Stack.{level_words, stack_words, words_of, level_at}
use Rattle.levels.specs.inner.Left.{OpenAt, Settles, none_open, stays_open, closes}
use Rattle.levels.proofs.StackLaws.{level-read, level-below}

-- ---- the loop of `still_open`: of the levels that are left those stay open that stay so of all
pub record Closing (st : List ℕ) (at all depth : ℕ) : Type 0 where
  pub few : depth ≤ most_levels
  pub size : length st ≡ stack_words
  pub closed : (r : ℕ) → Settles st at depth r → Settles st at all r

pub closing-start : (st : List ℕ) (at d : ℕ) → d ≤ most_levels → length st ≡ stack_words → Closing st at d d
closing-start st at d h k = record { few = h; size = k; closed = λ r s. s }

module _ (st : List ℕ) (at all : ℕ) where
  pub closing-inside : (d : ℕ) → Closing st at all d → 0 < d → (d - 1) * level_words < length st
  closing-inside d k g = omega (arith, k.few, k.size)

  pub closing-next : (d : ℕ) → Closing st at all d → 0 < d → get_or st ((d - 1) * level_words) 0 ≤ at → Closing st at all (d - 1)
  unfolding level_at
  closing-next zero k g h = absurd (omega arith)
  closing-next (suc l) k g h =
      rw sub-one (record { few = omega (arith, k.few); size = k.size; closed = λ r s. k.closed r (closes (rw sub-one at h) s) })

  pub closing-stays : (d : ℕ) → Closing st at all d → 0 < d → at < get_or st ((d - 1) * level_words) 0 → Settles st at all d
  unfolding level_at
  closing-stays zero k g h = absurd (omega arith)
  closing-stays (suc l) k g h = k.closed (suc l) (stays_open (rw sub-one at h))

  pub closing-none : (d : ℕ) → Closing st at all d → d ≤ 0 → Settles st at all d
  closing-none zero k h = k.closed zero none_open
  closing-none (suc l) k h = absurd (omega arith)

pub ruleset closing_laws = (closing-start, closing-inside, closing-next, closing-stays, closing-none)

-- ---- what has settled
module _ {st : List ℕ} {at : ℕ} where
  pub settled-few : {d r : ℕ} → Settles st at d r → r ≤ d
  settled-few none_open = omega arith
  settled-few (stays_open h) = omega arith
  settled-few (closes h k) = omega (arith, settled-few k)

  pub settled-more : {d l : ℕ} → Settles st at d (suc l) → at < (level_at st l).end
  settled-more (stays_open h) = h
  settled-more (closes h k) = settled-more k

-- ---- open levels
module _ (s bs st : List ℕ) where
  module _ (l at : ℕ) (o : OpenAt s bs st (suc l) at) where
    pub open-closed : (level_at st l).end ≤ at → OpenAt s bs st l at
    unfolding OpenAt
    open-closed h = let q : (level_at st l).end ≡ at = omega (arith, o.0) in subst (OpenAt s bs st l) q o.4

    pub open-later : (next : ℕ) → next ≤ (level_at st l).end → OpenAt s bs st (suc l) next
    unfolding OpenAt
    open-later next h = (h, o.1, o.2, o.3, o.4)

    pub open-ahead : at ≤ (level_at st l).end
    unfolding OpenAt
    open-ahead = o.0

    pub open-within : (level_at st l).end ≤ length bs
    unfolding OpenAt
    open-within = o.1

    pub open-name : Lies (level_at st l).name s
    unfolding OpenAt
    open-name = o.2

    pub open-place : InSheet s (level_at st l).place
    unfolding OpenAt
    open-place = o.3

  pub settled-open : {at d r : ℕ} → Settles st at d r → OpenAt s bs st d at → OpenAt s bs st r at
  settled-open none_open o = o
  settled-open (stays_open h) o = o
  settled-open {at} (closes {l} h k) o = settled-open k (open-closed l at o h)

  open-below : (k : ℕ) (ws : List ℕ) (d at : ℕ) → d ≤ k → OpenAt s bs st d at → OpenAt s bs (sets st (k * level_words) ws) d at
  unfolding OpenAt
  open-below k ws zero at h o = tt
  open-below k ws (suc l) at h o =
      rw (level-below st k ws l (omega arith))
      (o.0, o.1, o.2, o.3, open-below k ws l (level_at st l).end (omega arith) o.4)

  pub open-inside : (l at : ℕ) (v : Level) → suc l < most_levels → length st ≡ stack_words → Lies v.name s → InSheet s v.place
      → at ≤ v.end → v.end ≤ (level_at st l).end → OpenAt s bs st (suc l) v.end
      → OpenAt s bs (sets st (suc l * level_words) (words_of v)) (suc (suc l)) at
  unfolding OpenAt
  open-inside l at v h size n p a b o =
      rw (level-read st (suc l) v h size)
      (a, omega (arith, o.1), n, p, open-below (suc l) (words_of v) (suc l) v.end (omega arith) o)
