-- Option bytes as the tree of their records: the first fault from the front, or the tree. Structural on the bytes; levels are the only
-- fuel.
--
--                   Listed == the records at a level, or the first fault
--               onward f x == f of the records of x
--           enclosed e i x == the message e with what it holds, i, and then x
--   follow .. place bs f x == the records of the item x at the front of bs, and then f of how many bytes it takes
--   records_from .. at k bs == the records of bs, which stand at the place `at`, after the first k; `inner` reads the inside of a message
--    reading L s d m at bs == the records of bs inside the message m, with d levels left
--       records_of L s t bs == the message that the options type t is, with the records of bs under it; or the first fault
--
-- Assumes nothing.
use Rattle.std.specs.Prelude.{List, [], ◌∷◌, ℕ, zero, suc, ◌+◌, ◌-◌, take, drop, Err, Ok, Result}
use Rattle.limits.specs.Figures.{most_levels}
use Rattle.reply.specs.declared.Refusal.{Refusal}
use Rattle.reply.specs.declared.Refusal.TheVariants.{BeyondLimit}
use Rattle.lookups.specs.Lookups.{Lookups, Message}
use Rattle.entries.specs.declared.Entry.{Entry}
use Rattle.entries.specs.Tree.{Tree, end, held, leaves}
use Rattle.entries.specs.Item.{Item, some, into, wrong, item}
use Rattle.scope.specs.declared.lookup.LookupScope.{LookupScope}

pub data Listed : Type 0 where
  listed : Tree → Listed
  refused : Refusal → Listed

abbrev pub onward : (Tree → Tree) → Listed → Listed
onward f (listed t) = listed (f t)
onward f (refused w) = refused w

-- "the first fault from the front is answered" [LIST-11]
abbrev pub enclosed : Entry → (inside rest : Listed) → Listed
enclosed e (refused w) x = refused w
enclosed e (listed i) x = onward (held e i) x

module _ (L : Lookups) (s : List ℕ) where
  module _ (inner : Message → ℕ → List ℕ → Listed) (m : Message) where
    abbrev pub follow : (place : ℕ) → List ℕ → (ℕ → Listed) → Item → Listed
    follow place bs next (wrong w) = refused w
    follow place bs next (some es k) = onward (leaves es) (next k)
    follow place bs next (into e n k size) = enclosed e (inner n (place + k) (take size (drop k bs))) (next (k + size))

    -- a record takes at least its first byte
    unfoldable pub records_from : (place skip : ℕ) → List ℕ → Listed
    records_from place k [] = listed end
    records_from place (suc k) (b ∷ bs) = records_from (suc place) k bs
    records_from place zero (b ∷ bs) = follow place (b ∷ bs) (λ k. records_from (suc place) (k - 1) bs) (item L s m place (b ∷ bs))

  -- "levels 0 to 31 (a known message at level 31 is 3)" [LIMIT-1, LIST-12]
  unfoldable pub reading : (levels : ℕ) → Message → (place : ℕ) → List ℕ → Listed
  reading zero m place bs = refused BeyondLimit
  reading (suc d) m place bs = records_from (reading d) m place 0 bs

pub data Under : Type 0 where
  under : Message → Tree → Under
  refused_by : Refusal → Under

abbrev pub within : Message → Listed → Under
within m (listed t) = under m t
within m (refused w) = refused_by w

-- 01, Replies: "Then the options type, then the option bytes" [ORDER-1, QUERY-2]
module _ (L : Lookups) (s type bs : List ℕ) where
  abbrev pub on_type : Result LookupScope Refusal → Under
  on_type (Err w) = refused_by w
  on_type (Ok p) = within (record { name = type; place = p }) (reading L s most_levels (record { name = type; place = p }) 0 bs)

  unfoldable pub records_of : Under
  records_of = on_type (L.message type)
