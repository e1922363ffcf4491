-- What a request wrote, under the sheet that it was written under.
--
--    TypedAt L s type x <-> the options type is a message of the sheet, and the sheet types the records x there
--   ListedBack s type x <-> the bytes of the records x are listed as rows that hold what these records hold, in order
--
-- Assumes nothing.
use Rattle.std.specs.Prelude.{◌≡◌, List, map, ℕ, Ok}
use Rattle.reply.specs.Outcome.{give}
use Rattle.scope.specs.declared.lookup.LookupScope.{LookupScope}
use Rattle.lookups.specs.Lookups.{Lookups}
use Rattle.records.specs.Records.{Recs, encode}
use Rattle.entries.specs.declared.Row.{Row}
use Rattle.entries.specs.Tree.{words_of}
use Rattle.listing.specs.Listing.{listing}
use Rattle.readback.specs.Typed.{Typed, contents, content_of}

pub record TypedAt (L : Lookups) (s type : List ℕ) (x : Recs) : Type 0 where
  pub place : LookupScope
  pub found : L.message type ≡ Ok place
  pub typed : Typed L s (record { name = type; place = place }) x

pub record ListedBack (s type : List ℕ) (x : Recs) : Type 0 where
  pub rows : List Row
  pub listed : listing s type (encode x) ≡ give (words_of rows)
  pub same : map (content_of (encode x)) rows ≡ contents 0 x
