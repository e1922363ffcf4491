-- What a value query follows, from 01's "Listing and lowering": "A record listed by another declaration than the part's counts as none. At
-- each part the last record of that number is followed."
--
--               Unlisted d t <-> no record at the level of t is listed by d
--               Last d t e i <-> e, which holds i, is the last record at the level of t that d lists; one that is not entered holds nothing
--           Follows l ds t x <-> x is the row that ds lead to, at each of them by the last record that it lists, t standing at the level l
--         parts_named L s q m ==  what the parts of the name q come to, from the message m on
--   Leads joins L s t q bs x <-> the option bytes are read under the options type t, the parts of the name q have declarations, and these
--                                lead to the row x
--     Lacks joins L s t q bs <-> the option bytes are read, and the parts of the name lead to no row, or are left on a group
--           OwnRow s t bs ws <-> the words ws are those of a row that `list` writes of the same bytes
--
-- Assumes nothing.
use Rattle.std.specs.Prelude.{◌≡◌, Bool, true, false, List, [], ◌∷◌, ℕ, suc, length, None, Some}
use Rattle.basis.specs.Among.{Among}
use Rattle.reply.specs.Outcome.{give}
use Rattle.field.specs.Walk.{walk}
use Rattle.request.specs.Name.{parts_in}
use Rattle.sheet.specs.declared.declaration.Declaration.{Declaration}
use Rattle.lookups.specs.Lookups.{Lookups, Message}
use Rattle.entries.specs.declared.Entry.{Entry}
use Rattle.entries.specs.declared.Row.{Row}
use Rattle.entries.specs.Tree.{Tree, end, one, held, row, words, words_of}
use Rattle.entries.specs.Reading.{under, records_of}
use Rattle.listing.specs.Listing.{listing}
use Rattle.following.specs.Reached.{is_by, reached}
use Rattle.naming.specs.Name.{Named, names, group, declarations}

abbrev pub Unlisted : Declaration → Tree → Type 0
Unlisted d end = Unit {0}
Unlisted d (one e t) = (is_by d e.by ≡ false) × Unlisted d t
Unlisted d (held e i t) = (is_by d e.by ≡ false) × Unlisted d t

pub data Last (d : Declaration) : Tree → Entry → Tree → Type 0 where
  last_one : {e : Entry} {t : Tree} → is_by d e.by ≡ true → Unlisted d t → Last d (one e t) e end
  last-held : {e : Entry} {i t : Tree} → is_by d e.by ≡ true → Unlisted d t → Last d (held e i t) e i
  behind-one : {f e : Entry} {i t : Tree} → Last d t e i → Last d (one f t) e i
  behind-held : {f e : Entry} {j i t : Tree} → Last d t e i → Last d (held f j t) e i

pub data Follows : (level : ℕ) → List Declaration → Tree → Row → Type 0 where
  follows-last : {l : ℕ} {d : Declaration} {t i : Tree} {e : Entry} → Last d t e i → Follows l (d ∷ []) t (row l e)
  follows-inside : {l : ℕ} {d f : Declaration} {ds : List Declaration} {t i : Tree} {e : Entry} {x : Row} → Last d t e i
      → Follows (suc l) (f ∷ ds) i x → Follows l (d ∷ f ∷ ds) t x

abbrev pub parts_named : Lookups → (s name : List ℕ) → Message → Named
parts_named L s q m = declarations L s q 0 m (parts_in (walk q 0 (length q)))

module _ (joins : Declaration → Bool) (L : Lookups) (s type q bs : List ℕ) where
  pub record Leads (x : Row) : Type 0 where
    pub message : Message
    pub tree : Tree
    pub read : records_of L s type bs ≡ under message tree
    pub parts : List Declaration
    pub by : parts_named L s q message ≡ names parts
    pub to : reached joins 0 parts tree ≡ Some x

  -- "Absent where there is none or parts are left on a group" [QUERY-6]
  pub data Lacks : Type 0 where
    on-group : {m : Message} {t : Tree} → records_of L s type bs ≡ under m t → parts_named L s q m ≡ group → Lacks
    no_record : {m : Message} {t : Tree} {ds : List Declaration} → records_of L s type bs ≡ under m t → parts_named L s q m ≡ names ds
        → reached joins 0 ds t ≡ None → Lacks

-- 01, Listing: "It answers that record's eight words" [QUERY-6]
pub record OwnRow (s type bs ws : List ℕ) : Type 0 where
  pub rows : List Row
  pub listed : listing s type bs ≡ give (words_of rows)
  pub own : Row
  pub among : Among own rows
  pub is : ws ≡ words own
