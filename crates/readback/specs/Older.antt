-- When a sheet, the older, does not contradict what another, the newer, types: where both declare a number, they declare it alike. And what
-- one who reads under the older is then told of the newer's records.
--
--   `L s` are the look-ups and the sheet of the older, `L' s'` those of the newer; `Same m m'` says which messages of theirs are one
--
--      Kept .. d d' <-> the declarations d of the older and d' of the newer have one type; where that is a message that the newer finds,
--                       the older finds the same
--      Keeps ..     <-> it is so of every number that both declare at the same message
--        told_as o x ==  what a record holds, x, as the older has it, o being what it declares the number by, if anything
--    within s d u f ==  what f makes of the message that u says is found; nothing where none is
--   inside_of .. o f ==  what f makes of the message that the type path of o names; nothing where o is none
--   told L s m l rs ==  what the records rs, at the level l inside the message m, hold as the older has it
--
-- Assumes nothing.
use Rattle.std.specs.Prelude.{◌≡◌, List, [], ◌∷◌, ◌++◌, ℕ, suc, Option, None, Some, Err, Ok, Result}
use Rattle.types.specs.Types.{TYPE_MESSAGE}
use Rattle.sheet.specs.declared.declaration.Declaration.{Declaration}
use Rattle.scope.specs.declared.lookup.LookupScope.{LookupScope}
use Rattle.lookups.specs.Lookups.{Lookups, Message}
use Rattle.records.specs.Records.{Recs, nil, number, bytes, message, payload, encode}
use Rattle.entries.specs.Item.{declared}
use Rattle.readback.specs.Seen.{path_of, reached_by, Names}
use Rattle.readback.specs.Typed.{Content, content_at}
use Rattle.reply.specs.declared.Refusal.{Refusal}

module _ (L : Lookups) (s : List ℕ) (L' : Lookups) (s' : List ℕ) (Same : Message → Message → Type 0) where
  -- 01, "Contained: .. each number declared for a message there has the same name, type and type path" [CONTAIN-1]
  pub record Kept (d d' : Declaration) : Type 0 where
    pub typ : d.shape.typ ≡ d'.shape.typ
    pub path : d'.shape.typ ≡ TYPE_MESSAGE → (p : LookupScope) → L'.message (path_of s' d') ≡ Ok p
        → Names L s d (λ m. Same m (reached_by s' d' p))

  abbrev pub Keeps : Type 0
  Keeps = (m m' : Message) → Same m m' → (n : ℕ) (d d' : Declaration) → declared s m n ≡ Some d → declared s' m' n ≡ Some d' → Kept d d'

-- ---- what is told under the older
-- The mission, 3: "each number the older doesn't declare at that message is marked unknown"; "Every other record keeps type, number and value"
abbrev pub told_as : Option Declaration → Content → Content
told_as None x = record { level = x.level; number = x.number; typ = 0; value = 0; payload = x.payload }
told_as (Some d) x = x

abbrev pub within : (s : List ℕ) → Declaration → Result LookupScope Refusal → (Message → List Content) → List Content
within s d (Ok p) f = f (reached_by s d p)
within s d (Err w) f = []

module _ (L : Lookups) (s : List ℕ) where
  -- "and what lies inside it is left out"
  abbrev pub inside_of : Option Declaration → (Message → List Content) → List Content
  inside_of None f = []
  inside_of (Some d) f = within s d (L.message (path_of s d)) f

  -- "The list is the newer's typed records in order, as 01's steps make them from the request, save .."
  abbrev pub told : Message → (level : ℕ) → Recs → List Content
  told m l nil = []
  told m l (number n t v r) = told_as (declared s m n) (content_at l n t v (payload t v)) ∷ told m l r
  told m l (bytes n t bs r) = told_as (declared s m n) (content_at l n t 0 bs) ∷ told m l r
  told m l (message n i r) =
      told_as (declared s m n) (content_at l n TYPE_MESSAGE 0 (encode i))
      ∷ (inside_of (declared s m n) (λ p. told p (suc l) i) ++ told m l r)
