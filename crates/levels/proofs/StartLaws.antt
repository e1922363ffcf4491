-- Option bytes at their start: what is open and left once the outermost level is.
-- Assumes nothing.
use Rattle.std.specs.Prelude.{◌≡◌, refl, List, ℕ, ◌*◌, ◌≤◌, length}
use Rattle.basis.specs.Kit.{ap, ◌∙◌, sets}
use Rattle.basis.proofs.Kit.{arith}
use lib.Seq.{length-sets}
use Rattle.limits.specs.Figures.{most_option_bytes, most_levels}
use Rattle.field.specs.Leaf.{span}
use Rattle.scope.specs.declared.lookup.LookupScope.{LookupScope}
use Rattle.scope.specs.inner.Answers.{InSheet}
use Rattle.lookups.specs.Lookups.{Lookups}
use Rattle.entries.specs.Reading.{reading}
use Rattle.entries.specs.inner.Fronts.{message}
use Rattle.levels.specs.declared.Level.{Level}
use Rattle.levels.specs.declared.Cursor.{Cursor}
use Rattle.levels.specs.inner.Stack.{level_words, stack_words, words_of, level_at}
use Rattle.levels.specs.inner.Left.{flat, left, OpenAt, Open, Starts}
use Rattle.levels.proofs.StackLaws.{level-read}
use Rattle.levels.proofs.LeftLaws.{left-first}

-- ---- `start`
abbrev outermost : (bs : List ℕ) → LookupScope → Level
outermost bs p = record { end = length bs; name = span 0 0; place = p }

pub started : (p : LookupScope) (bs st st' : List ℕ) → length st ≡ stack_words
    → st' ≡ sets st (0 * level_words) (words_of (record { end = length bs; name = span 0 0; place = p }))
    → Starts p bs st' (record { at = 0; depth = 1 })
started p bs st st' h e =
    record {
      cursor = refl;
      level = ap (λ t. level_at t 0) e ∙ level-read st 0 (outermost bs p) (omega arith) h;
      size = ap length e ∙ length-sets st (0 * level_words) (words_of (outermost bs p)) ∙ h;
    }

module _ (p : LookupScope) (bs st : List ℕ) (c : Cursor) (k : Starts p bs st c) where
  pub start-open : (s : List ℕ) → InSheet s p → length bs ≤ most_option_bytes → Open s bs st c
  unfolding OpenAt
  start-open s l h =
      rw k.cursor
      record {
        size = k.size;
        short = h;
        few = omega arith;
        inside = omega arith;
        levels = rw k.level (omega arith, omega arith, (omega arith, omega arith), l, tt);
      }

  pub start_left : (L : Lookups) (s type : List ℕ)
      → left L s type bs st c.depth c.at ≡ flat 0 (reading L s most_levels (message type p) 0 bs)
  start_left L s type = rw k.cursor (left-first L s type bs p st k.level)

pub ruleset start_laws = started
