-- What is still to be read: the rows that open levels come to, from a place on.
--
--                 flat l x ==  the rows of the records x at the level l, or the first fault
--                 both o p ==  the rows of o and then those of p, or the first fault
--     level_rows l m at end ==  the rows of the bytes between two places, inside the message m at the level l
--             left st d at ==  the rows that are left, with d levels of the stack st open, from the place `at` on
--          OpenAt st d at <-> d levels of the stack are open at a place: each ends where those around it go on, and lies in the sheet
--            Open st c <-> so it is at the cursor c, and there are not too many of them
--     Settles st at d r <-> of d levels r are open after those that end at the place are closed
--          Starts p bs st c <-> the cursor c is at the start of bs, the outermost level is the message at the place p
--              event x c ==  the record x, with the cursor c to go on at
--   StepsIn st d e p q st' r <-> the record e, a message of the path p and place q, was stepped into from d levels, or lies too deep
--      Moves o at st r <-> of the rows o that were left at a place the answer r is the first, and the others are left now; or there is none, or
--                          a fault
--
-- Assumes nothing.
use Rattle.std.specs.Prelude.{◌≡◌, List, [], ◌∷◌, ℕ, zero, suc, ◌+◌, ◌-◌, ◌*◌, ◌≤◌, ◌<◌, length, Option, None, Some, Result, Err, Ok}
use Rattle.basis.specs.Kit.{sets}
use Rattle.limits.specs.Figures.{most_option_bytes, most_levels}
use Rattle.octets.specs.Octets.{part}
use Rattle.reply.specs.declared.Refusal.{Refusal}
use Rattle.reply.specs.declared.Refusal.TheVariants.{BeyondLimit}
use Rattle.reply.specs.Outcome.{Outcome, refused as refused_for, nothing, give, refuse, push}
use Rattle.field.specs.declared.Span.{Span}
use Rattle.field.specs.Leaf.{span, Lies}
use Rattle.scope.specs.declared.lookup.LookupScope.{LookupScope}
use Rattle.scope.specs.inner.Answers.{InSheet}
use Rattle.lookups.specs.Lookups.{Lookups, Message, walking}
use Rattle.entries.specs.declared.Entry.{Entry}
use Rattle.entries.specs.declared.Row.{Row}
use Rattle.entries.specs.Tree.{row, rows}
use Rattle.entries.specs.Reading.{Listed, listed, refused, records_from, reading}
use Rattle.levels.specs.declared.Cursor.{Cursor}
use Rattle.levels.specs.declared.Event.{Event}
use Rattle.levels.specs.inner.Stack.{level_words, stack_words, words_of, level_at, message_in}

abbrev pub flat : (level : ℕ) → Listed → Outcome Row
flat l (listed t) = give (rows l t)
flat l (refused w) = refuse w

abbrev pub both : {A : Type 0} (front rest : Outcome A) → Outcome A
both (give l) o = push l o
both nothing o = nothing
both (refused_for c) o = refused_for c

module _ (L : Lookups) (s type bs : List ℕ) where
  unfoldable pub level_rows : (level : ℕ) → Message → (at end : ℕ) → Outcome Row
  level_rows l m at end = flat l (records_from L s (reading L s (most_levels - suc l)) m at 0 (part bs at end))

  unfoldable pub left : (stack : List ℕ) (depth at : ℕ) → Outcome Row
  left st zero at = give []
  left st (suc l) at = both (level_rows l (message_in s type l (level_at st l)) at (level_at st l).end) (left st l (level_at st l).end)

unfoldable pub OpenAt : (s bs stack : List ℕ) (depth at : ℕ) → Type 0
OpenAt s bs st zero at = Unit {0}
OpenAt s bs st (suc l) at =
    (at ≤ (level_at st l).end) × ((level_at st l).end ≤ length bs) × Lies (level_at st l).name s × InSheet s (level_at st l).place
    × OpenAt s bs st l (level_at st l).end

pub record Open (s bs stack : List ℕ) (c : Cursor) : Type 0 where
  pub size : length stack ≡ stack_words
  pub short : length bs ≤ most_option_bytes
  pub few : c.depth ≤ most_levels
  pub inside : c.at ≤ length bs
  pub levels : OpenAt s bs stack c.depth c.at

pub record Starts (p : LookupScope) (bs stack : List ℕ) (c : Cursor) : Type 0 where
  pub cursor : c ≡ record { at = 0; depth = 1 }
  pub level : level_at stack 0 ≡ record { end = length bs; name = span 0 0; place = p }
  pub size : length stack ≡ stack_words

pub data Settles (stack : List ℕ) (at : ℕ) : (depth still : ℕ) → Type 0 where
  none_open : Settles stack at zero zero
  stays_open : {l : ℕ} → at < (level_at stack l).end → Settles stack at (suc l) (suc l)
  closes : {l r : ℕ} → (level_at stack l).end ≤ at → Settles stack at l r → Settles stack at (suc l) r

abbrev pub event : Row → Cursor → Event
event x c = record { row = x; rest = c }

pub data StepsIn (stack : List ℕ) (depth : ℕ) (e : Entry) (p : Span) (q : LookupScope) : (after : List ℕ) → Result Event Refusal → Type 0 where
  too-deep : most_levels ≤ depth → StepsIn stack depth e p q stack (Err BeyondLimit)
  steps-in : {after : List ℕ} → depth < most_levels
      → after ≡ sets stack (depth * level_words) (words_of (record { end = e.place + e.size; name = p; place = q }))
      → StepsIn stack depth e p q after (Ok (event (row (depth - 1) e) (record { at = e.place; depth = depth + 1 })))

pub data Moves (s type bs : List ℕ) (before : Outcome Row) (at : ℕ) (stack : List ℕ) : Result (Option Event) Refusal → Type 0 where
  moves : {e : Event} → Open s bs stack e.rest
      → before ≡ push (e.row ∷ []) (left (walking s) s type bs stack e.rest.depth e.rest.at)
      → at < e.rest.at → Moves s type bs before at stack (Ok (Some e))
  ends : before ≡ give [] → Moves s type bs before at stack (Ok None)
  wrongs : {w : Refusal} → before ≡ refuse w → Moves s type bs before at stack (Err w)
