-- Typed records, and their bytes by Encoding.
--
--           Recs == records in order: a number, bytes, or a message that holds records; each by its field number and its type
--     append a b == the records a, then the records b
--   record_of r h b == the one record of the body b, on a field of the shape h, from the places of the request r
--    payload t v == the bytes of the number v on the type t
--     headed n t == the tag of a record of the number n and the type t
--     head_of n k == the tag and the length of a length-delimited record
--     sized n bs == a length-delimited record of the number n
--      encode rs == the bytes of records
--
-- Assumes nothing.
use Rattle.std.specs.Prelude.{true, false, List, [], ◌∷◌, ◌++◌, ℕ, eqb, length}
use Rattle.field.specs.Leaf.{text}
use Rattle.types.specs.Types.{is_any, wire_of, I64, I32, LEN, TYPE_SINT32, TYPE_SINT64}
use Rattle.varint.specs.Varint.{varint}
use Rattle.wire.specs.Tag.{tag_of}
use Rattle.wire.specs.Fixed.{little_of}
use Rattle.wire.specs.Numbers.{zigzag_of, low32_of}
use Rattle.sheet.specs.declared.declaration.Shape.{Shape}
use Rattle.records.specs.declared.Body.{Body}
use Rattle.records.specs.declared.Body.TheVariants.{Bits, Bytes}

-- a number is its 64 bits, a negative one in two's complement; of float and double their own bits. A message has type 11
pub data Recs : Type 0 where
  nil : Recs
  number : (field typ bits : ℕ) → (rest : Recs) → Recs
  bytes : (field typ : ℕ) → (payload : List ℕ) → (rest : Recs) → Recs
  message : (field : ℕ) → (inside rest : Recs) → Recs

abbrev pub append : (front rest : Recs) → Recs
append nil b = b
append (number n t v r) b = number n t v (append r b)
append (bytes n t x r) b = bytes n t x (append r b)
append (message n i r) b = message n i (append r b)

abbrev pub record_of : (request : List ℕ) → Shape → Body → Recs
record_of r h (Bits v) = number h.number h.typ v nil
record_of r h (Bytes p) = bytes h.number h.typ (text r p) nil

-- Encoding, "Signed Integers": sint32 and sint64 by zigzag; "Non-varint Numbers": four or eight bytes; the others are varints [BYTES-2]
unfoldable pub payload : (typ bits : ℕ) → List ℕ
payload t v = elim (eqb (wire_of t) I32) [
  | true ↦ little_of 4 (low32_of v)
  | false ↦ elim (eqb (wire_of t) I64) [
    | true ↦ little_of 8 v
    | false ↦ elim (is_any t (TYPE_SINT32 ∷ TYPE_SINT64 ∷ [])) [ true ↦ varint (zigzag_of v) | false ↦ varint v ]
  ]
]

-- Encoding, "Message Structure": the field number and the wire type [BYTES-1]
abbrev pub headed : (field typ : ℕ) → List ℕ
headed n t = varint (tag_of n (wire_of t))

-- Encoding, "Length-Delimited Records" [BYTES-2]
unfoldable pub head_of : (field size : ℕ) → List ℕ
head_of n k = varint (tag_of n LEN) ++ varint k

abbrev pub sized : (field : ℕ) → List ℕ → List ℕ
sized n bs = head_of n (length bs) ++ bs

unfoldable pub encode : Recs → List ℕ
encode nil = []
encode (number n t v r) = (headed n t ++ payload t v) ++ encode r
encode (bytes n t bs r) = sized n bs ++ encode r
encode (message n i r) = sized n (encode i) ++ encode r
