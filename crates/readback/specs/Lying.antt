-- Where the records of a reading lie in the option bytes, and what their values are.
--
--        payload_of bs e ==  the bytes of the payload of the record e
--        said_by y t w p ==  the value that the payload p of the wire type w says on the type t, where y declares the number; 0 where
--                           nothing does
--   RecordLies bs a b e <-> the payload of e lies in bs between the places a and b, and the value of e is what it says
--        Lying bs a b t <-> so do all records of t, each behind the end of the one before it, and what a message holds inside its payload
--
-- Assumes nothing.
use Rattle.std.specs.Prelude.{◌≡◌, List, ℕ, ◌+◌, ◌≤◌, Some, None, Option}
use Rattle.octets.specs.Octets.{part}
use Rattle.payloads.specs.Value.{said, value_of}
use Rattle.entries.specs.declared.Entry.{Entry}
use Rattle.entries.specs.Tree.{Tree, end, one, held}
use Rattle.sheet.specs.declared.declaration.Declaration.{Declaration}

-- 01, Listing: "place and length of the payload" [LIST-5]
abbrev pub payload_of : List ℕ → Entry → List ℕ
payload_of bs e = part bs e.place (e.place + e.size)

-- 01, Listing: "Length-delimited and unknown records have value 0" [LIST-6, LIST-7]
abbrev pub said_by : Option Declaration → (typ wire : ℕ) (payload : List ℕ) → ℕ
said_by None t w p = 0
said_by (Some d) t w p = value_of t (said w p)

pub record RecordLies (bs : List ℕ) (from to : ℕ) (e : Entry) : Type 0 where
  pub behind : from ≤ e.place
  pub inside : e.place + e.size ≤ to
  pub says : e.value ≡ said_by e.by e.typ e.wire (payload_of bs e)

-- 01, Listing: "Order is that of the bytes, a known message's inside directly after it" [LIST-2]
abbrev pub Lying : (bs : List ℕ) (from to : ℕ) → Tree → Type 0
Lying bs a b end = a ≤ b
Lying bs a b (one e t) = RecordLies bs a b e × Lying bs (e.place + e.size) b t
Lying bs a b (held e i t) = RecordLies bs a b e × Lying bs e.place (e.place + e.size) i × Lying bs (e.place + e.size) b t
