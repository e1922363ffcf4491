-- Typed records as bytes and back: the examples of the encoding document, and bytes that are no records.
-- Assumes nothing.
use Rattle.std.specs.Prelude.{◌≡◌, refl, List, [], ◌∷◌, map, ℕ, None, Some}
use Rattle.types.specs.Types.{TYPE_INT32, TYPE_STRING, TYPE_SINT32, TYPE_FIXED32, TYPE_FIXED64, wire_of, VARINT, I64, I32, LEN}
use Rattle.varint.specs.Varint.{varint, varint_within, read_varint, read_within}
use Rattle.wire.specs.Fixed.{little_of}
use Rattle.wire.specs.Numbers.{zigzag_of, low32_of}
use Rattle.wire.specs.Tag.{tag_good}
use Rattle.octets.specs.Ascii.{ascii}
use Rattle.records.specs.Records.{Recs, nil, number, bytes, message, payload, head_of, encode}
use Rattle.payloads.specs.Extent.{payload_at}
use Rattle.records.specs.Raw.{Raw, front_of, raw_from, raw_of, raws_of}

abbrev minus_two : ℕ
minus_two = 0xFFFFFFFFFFFFFFFE

abbrev ten_bytes : List ℕ
ten_bytes = 0xFE ∷ 0xFF ∷ 0xFF ∷ 0xFF ∷ 0xFF ∷ 0xFF ∷ 0xFF ∷ 0xFF ∷ 0xFF ∷ 0x01 ∷ []

-- "A Simple Message"; "Length-Delimited Records"; "Signed Integers", -2 by zigzag and not; "Non-varint Numbers"; "Submessages";
-- "Repeated Elements"
abbrev typed : List Recs
typed =
    number 1 TYPE_INT32 150 nil
    ∷ bytes 2 TYPE_STRING (ascii "testing") nil
    ∷ number 1 TYPE_SINT32 minus_two nil
    ∷ number 1 TYPE_INT32 minus_two nil
    ∷ number 1 TYPE_FIXED32 0x01020304 nil
    ∷ number 1 TYPE_FIXED64 0x0102030405060708 nil
    ∷ message 3 (number 1 TYPE_INT32 150 nil) nil
    ∷ bytes 4 TYPE_STRING (ascii "hello") (number 6 TYPE_INT32 1 (number 6 TYPE_INT32 2 (number 6 TYPE_INT32 3 nil)))
    ∷ nil
    ∷ []

abbrev encoded : List (List ℕ)
encoded =
    (0x08 ∷ 0x96 ∷ 0x01 ∷ [])
    ∷ (0x12 ∷ 0x07 ∷ 0x74 ∷ 0x65 ∷ 0x73 ∷ 0x74 ∷ 0x69 ∷ 0x6E ∷ 0x67 ∷ [])
    ∷ (0x08 ∷ 0x03 ∷ [])
    ∷ (0x08 ∷ ten_bytes)
    ∷ (0x0D ∷ 0x04 ∷ 0x03 ∷ 0x02 ∷ 0x01 ∷ [])
    ∷ (0x09 ∷ 0x08 ∷ 0x07 ∷ 0x06 ∷ 0x05 ∷ 0x04 ∷ 0x03 ∷ 0x02 ∷ 0x01 ∷ [])
    ∷ (0x1A ∷ 0x03 ∷ 0x08 ∷ 0x96 ∷ 0x01 ∷ [])
    ∷ (0x22 ∷ 0x05 ∷ 0x68 ∷ 0x65 ∷ 0x6C ∷ 0x6C ∷ 0x6F ∷ 0x30 ∷ 0x01 ∷ 0x30 ∷ 0x02 ∷ 0x30 ∷ 0x03 ∷ [])
    ∷ []
    ∷ []

written : map encode typed ≡ encoded
unfolding encode head_of payload wire_of varint varint_within little_of zigzag_of low32_of
written = refl

abbrev raw : (number wire : ℕ) → List ℕ → Raw
raw n w bs = record { number = n; wire = w; payload = bs }

abbrev raws : List (List Raw)
raws =
    (raw 1 VARINT (0x96 ∷ 0x01 ∷ []) ∷ [])
    ∷ (raw 2 LEN (ascii "testing") ∷ [])
    ∷ (raw 1 VARINT (0x03 ∷ []) ∷ [])
    ∷ (raw 1 VARINT ten_bytes ∷ [])
    ∷ (raw 1 I32 (0x04 ∷ 0x03 ∷ 0x02 ∷ 0x01 ∷ []) ∷ [])
    ∷ (raw 1 I64 (0x08 ∷ 0x07 ∷ 0x06 ∷ 0x05 ∷ 0x04 ∷ 0x03 ∷ 0x02 ∷ 0x01 ∷ []) ∷ [])
    ∷ (raw 3 LEN (0x08 ∷ 0x96 ∷ 0x01 ∷ []) ∷ [])
    ∷ (raw 4 LEN (ascii "hello") ∷ raw 6 VARINT (0x01 ∷ []) ∷ raw 6 VARINT (0x02 ∷ []) ∷ raw 6 VARINT (0x03 ∷ []) ∷ [])
    ∷ []
    ∷ []

back : map raw_of encoded ≡ map Some raws
unfolding raw_from front_of payload_at read_varint read_within tag_good
back = refl

same : map raws_of typed ≡ raws
unfolding encode payload wire_of varint varint_within little_of zigzag_of low32_of
same = refl

-- the largest number, and an overlong tag, length and number
taken :
    map raw_of ((0xF8 ∷ 0xFF ∷ 0xFF ∷ 0xFF ∷ 0x0F ∷ 0x00 ∷ []) ∷ (0x88 ∷ 0x00 ∷ 0x81 ∷ 0x00 ∷ 0x92 ∷ 0x00 ∷ 0x81 ∷ 0x00 ∷ 0x07 ∷ []) ∷ [])
    ≡ Some (raw 536870911 VARINT (0x00 ∷ []) ∷ [])
    ∷ Some (raw 1 VARINT (0x81 ∷ 0x00 ∷ []) ∷ raw 2 LEN (0x07 ∷ []) ∷ []) ∷ []
unfolding raw_from front_of payload_at read_varint read_within tag_good
taken = refl

-- wire types 3, 4, 6 and 7; the numbers 0 and one past the largest; a cut tag, varint, I64, I32, length and payload; a cut record behind a
-- whole one
refused :
    map raw_of
    ((0x0B ∷ []) ∷ (0x0C ∷ []) ∷ (0x0E ∷ []) ∷ (0x0F ∷ []) ∷ (0x00 ∷ 0x00 ∷ []) ∷ (0x80 ∷ 0x80 ∷ 0x80 ∷ 0x80 ∷ 0x10 ∷ 0x00 ∷ [])
    ∷ (0x88 ∷ []) ∷ (0x08 ∷ 0x96 ∷ []) ∷ (0x09 ∷ 1 ∷ 2 ∷ 3 ∷ 4 ∷ 5 ∷ 6 ∷ 7 ∷ []) ∷ (0x0D ∷ 1 ∷ 2 ∷ 3 ∷ []) ∷ (0x12 ∷ [])
    ∷ (0x12 ∷ 0x02 ∷ 0x61 ∷ []) ∷ (0x08 ∷ 0x01 ∷ 0x08 ∷ []) ∷ [])
    ≡ None ∷ None ∷ None ∷ None ∷ None ∷ None ∷ None ∷ None ∷ None ∷ None ∷ None ∷ None ∷ None ∷ []
unfolding raw_from front_of payload_at read_varint read_within tag_good
refused = refl
