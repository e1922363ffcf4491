-- What a reading has of option bytes by Encoding alone, no sheet being asked.
--
--       raw_entry bs e ==  the record e as Encoding has it: its number, its wire type, and the bytes of its payload
--           raws bs t ==  the records at the level of t, likewise
--   Encoded bs xs t <-> the bytes xs, a part of bs, are by Encoding exactly the records at the level of t, and so is the payload of each
--                       known message exactly what it holds
--
-- Assumes nothing.
use Rattle.std.specs.Prelude.{◌≡◌, List, [], ◌∷◌, ℕ, Some}
use Rattle.records.specs.Raw.{Raw, raw_of}
use Rattle.entries.specs.declared.Entry.{Entry}
use Rattle.entries.specs.Tree.{Tree, end, one, held}
use Rattle.readback.specs.Lying.{payload_of}

abbrev pub raw_entry : List ℕ → Entry → Raw
raw_entry bs e = record { number = e.number; wire = e.wire; payload = payload_of bs e }

abbrev pub raws : List ℕ → Tree → List Raw
raws bs end = []
raws bs (one e t) = raw_entry bs e ∷ raws bs t
raws bs (held e i t) = raw_entry bs e ∷ raws bs t

abbrev pub Insides : List ℕ → Tree → Type 0
Insides bs end = Unit {0}
Insides bs (one e t) = Insides bs t
Insides bs (held e i t) = (raw_of (payload_of bs e) ≡ Some (raws bs i)) × Insides bs i × Insides bs t

-- Encoding, "Message Structure": a message is its records in a row; 01, Listing: "Order is that of the bytes" [LIST-2]
pub record Encoded (bs xs : List ℕ) (t : Tree) : Type 0 where
  pub here : raw_of xs ≡ Some (raws bs t)
  pub inside : Insides bs t
