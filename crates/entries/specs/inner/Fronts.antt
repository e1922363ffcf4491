-- The record at a place, as the code answers it.
--
--                message name p ==  the message of that full name at that place
--            unknown_front k w x ==  a record of the number k that nothing declares, of the wire type w, of which x is taken
--               unknown_of k w p ==  a record of the number k that nothing declares, of the wire type w and the payload p
--               on_message e p u ==  a known message of the path p, whose record is e, u being what the look-up of p came to
--             entered_of L s e p ==  a known message of the path p, whose record is e
--          entry_of d k w at n v ==  the record of the number k that d declares, of the payload of n bytes at a place, and the value v
--        known_front L s d k w x ==  a record of the number k that d declares, of which x is taken
--           known_of L s d k w p ==  a record of the number k that d declares
--        by_declared L s o k w p ==  a record of the number k, o being what declares it, if anything
--   behind_tag L s m bs t at end ==  the record behind the good tag t, which ends at `at`
--                Shows s at i r <-> the code's answer r is the item i at the place `at`
--          FrontLies s at end r <-> the record lies behind `at` and before `end`, a message's path and place in the sheet
--
-- Assumes nothing.
use Rattle.std.specs.Prelude.{◌≡◌, true, false, List, [], ◌∷◌, ℕ, ◌+◌, ◌≤◌, ◌<◌, eqb, Option, None, Err, Some, Ok, Result}
use Rattle.reply.specs.declared.Refusal.{Refusal}
use Rattle.field.specs.declared.Span.{Span}
use Rattle.field.specs.Leaf.{text, Lies}
use Rattle.types.specs.Types.{TYPE_MESSAGE}
use Rattle.wire.specs.Tag.{number_of, wire_type_of}
use Rattle.payloads.specs.inner.Placed.{payload_in}
use Rattle.taken.specs.declared.Taken.{Taken}
use Rattle.taken.specs.inner.Taking.{unknown_taken, known_taken}
use Rattle.sheet.specs.declared.declaration.Declaration.{Declaration}
use Rattle.scope.specs.declared.lookup.LookupScope.{LookupScope}
use Rattle.scope.specs.inner.Answers.{InSheet}
use Rattle.lookups.specs.Lookups.{Lookups, Message}
use Rattle.entries.specs.declared.Entry.{Entry}
use Rattle.entries.specs.declared.Front.{Front}
use Rattle.entries.specs.declared.Front.TheVariants.{Leaf, Inside}
use Rattle.entries.specs.Item.{Item, some, into, wrong, declared}
use Rattle.payloads.specs.declared.Payload.{Payload}

abbrev pub message : (name : List ℕ) → LookupScope → Message
message n p = record { name = n; place = p }

abbrev pub unknown_front : (number wire : ℕ) → Result Taken Refusal → Result Front Refusal
unknown_front k w (Err r) = Err r
unknown_front k w (Ok x) = Ok (Leaf (record {
  number = k;
  typ = 0;
  wire = w;
  place = x.place;
  size = x.size;
  value = x.value;
  by = None;
}) x.next)

unfoldable pub unknown_of : (number wire : ℕ) → Option Payload → Result Front Refusal
unknown_of k w p = unknown_front k w (unknown_taken p)

abbrev pub on_message : Entry → Span → Result LookupScope Refusal → Result Front Refusal
on_message e p (Err w) = Err w
on_message e p (Ok q) = Ok (Inside e p q)

unfoldable pub entered_of : Lookups → (s : List ℕ) → Entry → Span → Result Front Refusal
entered_of L s e p = on_message e p (L.message (text s p))

abbrev pub entry_of : Declaration → (number wire at size value : ℕ) → Entry
entry_of d k w at size v = record {
  number = k;
  typ = d.shape.typ;
  wire = w;
  place = at;
  size = size;
  value = v;
  by = Some d;
}

abbrev pub known_front : Lookups → (s : List ℕ) → Declaration → (number wire : ℕ) → Result Taken Refusal → Result Front Refusal
known_front L s d k w (Err r) = Err r
known_front L s d k w (Ok x) = elim (eqb d.shape.typ TYPE_MESSAGE) [
  | true ↦ entered_of L s (entry_of d k w x.place x.size x.value) d.shape.path
  | false ↦ Ok (Leaf (entry_of d k w x.place x.size x.value) x.next)
]

unfoldable pub known_of : Lookups → (s : List ℕ) → Declaration → (number wire : ℕ) → Option Payload → Result Front Refusal
known_of L s d k w p = known_front L s d k w (known_taken d.shape.typ w p)

abbrev pub by_declared : Lookups → (s : List ℕ) → Option Declaration → (number wire : ℕ) → Option Payload → Result Front Refusal
by_declared L s None k w p = unknown_of k w p
by_declared L s (Some d) k w p = known_of L s d k w p

unfoldable pub behind_tag : Lookups → (s : List ℕ) → Message → (bs : List ℕ) (tag at end : ℕ) → Result Front Refusal
behind_tag L s m bs t at end =
    by_declared L s (declared s m (number_of t)) (number_of t) (wire_type_of t) (payload_in (wire_type_of t) bs at end)

-- a message's inside is its payload, from the place of that on
pub data Shows (s : List ℕ) (at : ℕ) : Item → Result Front Refusal → Type 0 where
  leaf : {e : Entry} {skip : ℕ} → Shows s at (some (e ∷ []) skip) (Ok (Leaf e (at + skip)))
  inside : {e : Entry} {p : Span} {q : LookupScope} {skip : ℕ} → e.place ≡ at + skip
      → Shows s at (into e (message (text s p) q) skip e.size) (Ok (Inside e p q))
  wrongly : {w : Refusal} → Shows s at (wrong w) (Err w)

unfoldable pub FrontLies : (s : List ℕ) (at end : ℕ) → Result Front Refusal → Type 0
FrontLies s at end (Ok (Leaf e next)) = (at < next) × (next ≤ end)
FrontLies s at end (Ok (Inside e p q)) = (at < e.place) × (e.place + e.size ≤ end) × Lies p s × InSheet s q
FrontLies s at end (Err w) = Unit {0}
