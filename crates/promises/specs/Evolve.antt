-- Old readers, new writers: the words of the mission's third demand.
--
--        CleanSheet s <-> the sheet is well-formed and clean
--        declares s t <=> the sheet declares a message of the full name t
--      told_in s t x u ==  what the records x hold as the sheet s has it, u being what the look-up of the options type t came to; nothing
--                         where it found no message
--     told_under s t x ==  what the records x hold as the sheet s has it, under the options type t: in order, each number that s does not
--                         declare at its message marked unknown, what lies inside it left out
--   ListedUnder s t x <-> the bytes of the records x are listed under the sheet s and the options type t, not refused, and the rows hold
--                         just that
--         OldReads .. <-> the same of two calls: what one wrote under the newer is bytes of the records of its request; the other, which lists
--                         them under the older, answers 0 where its room is enough, and leaves these rows there
--
-- Assumes nothing.
use Rattle.std.specs.Prelude.{◌≡◌, Bool, true, List, [], ◌++◌, map, ℕ, ◌≤◌, length, drop, Err, Ok, Result}
use Rattle.reply.specs.declared.Answer.{Answer}
use Rattle.reply.specs.Reply.{done_with}
use Rattle.reply.specs.Outcome.{give}
use Rattle.sheet.specs.Table.{message_tag}
use Rattle.sheetform.specs.Form.{judge_sheet}
use Rattle.lookups.specs.Lookups.{walking}
use Rattle.names.specs.Clean.{clean}
use Rattle.names.specs.Contained.{is_in}
use Rattle.records.specs.Records.{Recs, encode}
use Rattle.entries.specs.declared.Row.{Row}
use Rattle.entries.specs.Tree.{words_of}
use Rattle.listing.specs.Listing.{listing}
use Rattle.options.specs.Steps.{records}
use Rattle.options.specs.Resolve.{resolving}
use Rattle.readback.specs.Typed.{Content, content_of}
use Rattle.readback.specs.Older.{told}
use Rattle.places.specs.Places.{options_type}
use Rattle.reply.specs.declared.Refusal.{Refusal}
use Rattle.scope.specs.declared.lookup.LookupScope.{LookupScope}
use Rattle.reply.specs.Verdicts.{fine}

pub record CleanSheet (s : List ℕ) : Type 0 where
  pub fine : judge_sheet s ≡ fine
  pub clear : clean s ≡ true

abbrev pub declares : (s name : List ℕ) → Bool
declares s t = is_in s message_tag t

abbrev pub told_in : (s type : List ℕ) → Recs → Result LookupScope Refusal → List Content
told_in s t x (Ok p) = told (walking s) s (record { name = t; place = p }) 0 x
told_in s t x (Err w) = []

abbrev pub told_under : (s type : List ℕ) → Recs → List Content
told_under s t x = told_in s t x ((walking s).message t)

pub record ListedUnder (s type : List ℕ) (x : Recs) : Type 0 where
  pub rows : List Row
  pub listed : listing s type (encode x) ≡ give (words_of rows)
  pub same : map (content_of (encode x)) rows ≡ told_under s type x

pub record OldReads (older newer r bytes room left : List ℕ) (b : Answer) : Type 0 where
  pub written : Recs
  pub steps : resolving newer r ≡ records written
  pub encoded : bytes ≡ encode written
  pub rows : List Row
  pub same : map (content_of bytes) rows ≡ told_under older (options_type r) written
  pub answer : length (words_of rows) ≤ length room → b ≡ done_with (length (words_of rows))
  pub memory : length (words_of rows) ≤ length room → left ≡ words_of rows ++ drop (length (words_of rows)) room
