-- One reading step: the record at the front of the bytes left, from 01's "Listing and lowering". "A record gives 18 for the tag and its
-- wire type, then 19, 18 for the payload, 7 or 8 for a known message's type path, then 3".
--
--                  Item == records that hold nothing, and how many bytes they take; or a known message: its record, itself, how many bytes
--                          stand before its inside, and how many that has; or why there is none
--        declared s m k == what declares the number k at the message m
--                          below, bs are the bytes left, which stand at `place` inside the message m, and t is a tag of n bytes
--         unknown t n x == a record of a number that nothing declares, of the payload x
--         plain d t n x == a record that d declares, on the wire type of its type
--     other_wire d t n x == a record that d declares, on another one
--         known d t n x == a record that d declares
--   item L s m place bs == the record at the front
--
-- Assumes nothing.
use Rattle.std.specs.Prelude.{true, false, List, [], ◌∷◌, ℕ, ◌+◌, eqb, take, drop, Option, None, Err, Some, Ok, Result}
use Rattle.reply.specs.declared.Refusal.{Refusal}
use Rattle.reply.specs.declared.Refusal.TheVariants.{BadBytes, WireMismatch}
use Rattle.field.specs.Leaf.{text}
use Rattle.types.specs.Types.{wire_of, TYPE_MESSAGE}
use Rattle.varint.specs.Varint.{read_varint}
use Rattle.wire.specs.Tag.{number_of, wire_type_of, tag_good}
use Rattle.payloads.specs.Extent.{Extent, payload_at}
use Rattle.payloads.specs.Value.{said, value_of}
use Rattle.sheet.specs.declared.declaration.Declaration.{Declaration}
use Rattle.scope.specs.Scope.{holding}
use Rattle.numbers.specs.Number.{declaration_of}
use Rattle.lookups.specs.Lookups.{Lookups, Message}
use Rattle.entries.specs.declared.Entry.{Entry}
use Rattle.scope.specs.declared.lookup.LookupScope.{LookupScope}
use Rattle.varint.specs.declared.Read.{Read}

pub data Item : Type 0 where
  some : List Entry → (skip : ℕ) → Item
  into : Entry → Message → (skip size : ℕ) → Item
  wrong : Refusal → Item

-- "A number is known if the message, or an extension of it, declares it; fields first, then sheet order." [LIST-3]
abbrev pub declared : (s : List ℕ) → Message → (number : ℕ) → Option Declaration
declared s m k = declaration_of s (holding s m.place) m.name k

-- 7 or 8 for a known message's type path [LIST-9]
abbrev pub entered : Entry → (name : List ℕ) (skip size : ℕ) → Result LookupScope Refusal → Item
entered e name k size (Err w) = wrong w
entered e name k size (Ok p) = into e (record { name = name; place = p }) k size

module _ (L : Lookups) (s : List ℕ) (m : Message) (place : ℕ) (bs : List ℕ) where
  -- "unknown ones are not entered"; "Length-delimited and unknown records have value 0" [LIST-2, LIST-7]
  abbrev pub unknown : (tag size : ℕ) → Option Extent → Item
  unknown t n None = wrong BadBytes
  unknown t n (Some x) = some (record {
    number = number_of t;
    typ = 0;
    wire = wire_type_of t;
    place = place + (n + x.before);
    size = x.size;
    value = 0;
    by = None;
  } ∷ []) (n + x.before + x.size)

  -- "place and length of the payload": the place counts from the first of all option bytes, at every level [LIST-5]
  abbrev pub entry : Declaration → (tag size : ℕ) → Extent → Entry
  entry d t n x = record {
    number = number_of t;
    typ = d.shape.typ;
    wire = wire_type_of t;
    place = place + (n + x.before);
    size = x.size;
    value = value_of d.shape.typ (said (wire_type_of t) (take x.size (drop (n + x.before) bs)));
    by = Some d;
  }

  abbrev pub plain : Declaration → (tag size : ℕ) → Option Extent → Item
  plain d t n None = wrong BadBytes
  plain d t n (Some x) = elim (eqb d.shape.typ TYPE_MESSAGE) [
    | true ↦ entered (entry d t n x) (text s d.shape.path) (n + x.before) x.size (L.message (text s d.shape.path))
    | false ↦ some (entry d t n x ∷ []) (n + x.before + x.size)
  ]

  -- "a known number on another wire type is 19" [LIST-9, LIST-10]
  abbrev pub other_wire : Declaration → (tag size : ℕ) → Option Extent → Item
  other_wire d t n x = wrong WireMismatch

  -- "A fixed table gives each of the 18 types its wire type." [WIRE-6]
  abbrev pub known : Declaration → (tag size : ℕ) → Option Extent → Item
  known d t n x = elim (eqb (wire_of d.shape.typ) (wire_type_of t)) [ true ↦ plain d t n x | false ↦ other_wire d t n x ]

  abbrev pub by_declaration : Option Declaration → (tag size : ℕ) → Option Extent → Item
  by_declaration None t n x = unknown t n x
  by_declaration (Some d) t n x = known d t n x

  -- "Wire types 3, 4, 6, 7, a number outside the range above, a longer varint or a cut record are 18" [WIRE-5, LIST-4, LIST-9]
  abbrev pub by_tag : Option Read → Item
  by_tag None = wrong BadBytes
  by_tag (Some r) = elim (tag_good r.value) [
    | true ↦ by_declaration (declared s m (number_of r.value)) r.value r.next (payload_at (wire_type_of r.value) (drop r.next bs))
    | false ↦ wrong BadBytes
  ]

  unfoldable pub item : Item
  item = by_tag (read_varint bs)
