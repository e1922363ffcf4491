-- Records that are typed by a sheet, and what records hold beside what the rows of a listing hold.
--
--     DeclaredAs s m n t <-> the number n is declared at m by the type t
--         Typed L s m rs <-> every number is declared at m by its record's type, with a value of that type; a message by a type path that
--                            names one, inside which it is so again
--                Content ==  what a record holds: its level, number, type, value (0 where it is length-delimited) and payload
--   content_at l n t v bs ==  that of a record at the level l, of the number n and the type t
--          contents l rs ==  what the records rs hold, which stand at the level l, in order, each message's inside directly after it
--         content_of bs r ==  what the row r of the option bytes bs holds
--
-- Assumes nothing.
use Rattle.std.specs.Prelude.{◌≡◌, List, [], ◌∷◌, ◌++◌, ℕ, suc, ◌+◌, Some}
use Rattle.octets.specs.Octets.{part}
use Rattle.types.specs.Types.{TYPE_MESSAGE}
use Rattle.sheet.specs.declared.declaration.Declaration.{Declaration}
use Rattle.lookups.specs.Lookups.{Lookups, Message}
use Rattle.records.specs.Records.{Recs, nil, number, bytes, message, payload, encode}
use Rattle.payloads.specs.Value.{Fits}
use Rattle.entries.specs.declared.Row.{Row}
use Rattle.entries.specs.Item.{declared}
use Rattle.readback.specs.Seen.{Names}

pub record DeclaredAs (s : List ℕ) (m : Message) (n t : ℕ) : Type 0 where
  pub by : Declaration
  pub declares : declared s m n ≡ Some by
  pub typ : by.shape.typ ≡ t

module _ (L : Lookups) (s : List ℕ) where
  abbrev pub Typed : Message → Recs → Type 0
  Typed m nil = Unit {0}
  Typed m (number n t v r) = DeclaredAs s m n t × Fits t v × Typed m r
  Typed m (bytes n t bs r) = DeclaredAs s m n t × (t ≡ TYPE_MESSAGE → ⊥) × Typed m r
  Typed m (message n i r) = (a : DeclaredAs s m n TYPE_MESSAGE) × Names L s a.by (λ p. Typed p i) × Typed m r

-- ---- what records hold
pub record Content : Type 0 where
  pub level : ℕ
  pub number : ℕ
  pub typ : ℕ
  pub value : ℕ
  pub payload : List ℕ

abbrev pub content_at : (level number typ value : ℕ) (payload : List ℕ) → Content
content_at l n t v bs = record { level = l; number = n; typ = t; value = v; payload = bs }

abbrev pub contents : (level : ℕ) → Recs → List Content
contents l nil = []
contents l (number n t v r) = content_at l n t v (payload t v) ∷ contents l r
contents l (bytes n t bs r) = content_at l n t 0 bs ∷ contents l r
contents l (message n i r) = content_at l n TYPE_MESSAGE 0 (encode i) ∷ (contents (suc l) i ++ contents l r)

abbrev pub content_of : (bs : List ℕ) → Row → Content
content_of bs r = record {
  level = r.level;
  number = r.entry.number;
  typ = r.entry.typ;
  value = r.entry.value;
  payload = part bs r.entry.place (r.entry.place + r.entry.size);
}
