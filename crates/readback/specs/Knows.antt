-- Which records of a reading are known, by what, and which are entered.
--
--          by_of o ==  what declares a number, as a record has it
--        type_of o ==  the type that it is declared by, 0 where nothing declares it
--   KnownBy s m e <-> the record e inside the message m is known exactly by what declares its number there, on the wire type of its type
--   Knows L s m t <-> so are all records of t; every known message is entered, at the message that its type path names, and nothing else
--
-- Assumes nothing.
use Rattle.std.specs.Prelude.{◌≡◌, List, ℕ, Option, None, Some}
use Rattle.types.specs.Types.{wire_of, TYPE_MESSAGE}
use Rattle.sheet.specs.declared.declaration.Declaration.{Declaration}
use Rattle.lookups.specs.Lookups.{Lookups, Message}
use Rattle.entries.specs.declared.Entry.{Entry}
use Rattle.entries.specs.Tree.{Tree, end, one, held}
use Rattle.entries.specs.Item.{declared}
use Rattle.readback.specs.Seen.{Names}
use Rattle.readback.specs.Typed.{DeclaredAs}

abbrev pub by_of : Option Declaration → Option Declaration
by_of None = None
by_of (Some d) = Some d

abbrev pub type_of : Option Declaration → ℕ
type_of None = 0
type_of (Some d) = d.shape.typ

-- 01, Listing: "A number is known if the message, or an extension of it, declares it"; "a known number on another wire type is 19"
-- [LIST-3, LIST-9]
pub record KnownBy (s : List ℕ) (m : Message) (e : Entry) : Type 0 where
  pub by : e.by ≡ by_of (declared s m e.number)
  pub typ : e.typ ≡ type_of (declared s m e.number)
  pub wire : (d : Declaration) → e.by ≡ Some d → wire_of d.shape.typ ≡ e.wire

-- 01, Listing: "a known message's inside directly after it; unknown ones are not entered" [LIST-2]
module _ (L : Lookups) (s : List ℕ) where
  abbrev pub Knows : Message → Tree → Type 0
  Knows m end = Unit {0}
  Knows m (one e t) = KnownBy s m e × (e.typ ≡ TYPE_MESSAGE → ⊥) × Knows m t
  Knows m (held e i t) = KnownBy s m e × (a : DeclaredAs s m e.number TYPE_MESSAGE) × Names L s a.by (λ p. Knows p i) × Knows m t
