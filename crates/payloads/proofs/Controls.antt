-- Closed cases of the definitions, which the checker computes: the values of each group of types at its limits, and the payload of each
-- wire type whole and one byte short.
-- Assumes nothing.
use Rattle.std.specs.Prelude.{◌≡◌, refl, List, [], ◌∷◌, map, ℕ, Option, None, Some}
use Rattle.types.specs.Types.{TYPE_DOUBLE, TYPE_FLOAT, TYPE_INT64, TYPE_UINT64, TYPE_INT32, TYPE_FIXED64, TYPE_FIXED32, TYPE_BOOL}
use Rattle.types.specs.Types.{TYPE_UINT32, TYPE_ENUM, TYPE_SFIXED32, TYPE_SFIXED64, TYPE_SINT32, TYPE_SINT64}
use Rattle.types.specs.Types.{VARINT, I64, LEN, I32}
use Rattle.varint.specs.Varint.{read_within, read_varint}
use Rattle.wire.specs.Fixed.{little}
use Rattle.wire.specs.Numbers.{unzigzag_of, low32_of, widen32_of}
use Rattle.payloads.specs.Extent.{Extent, payload_at}
use Rattle.payloads.specs.Value.{said, value_of}
use Rattle.payloads.specs.inner.Placed.{payload_in, held}

-- ---- the value of what is said, by the groups of types
bools : map (value_of TYPE_BOOL) (0 ∷ 1 ∷ 0x8000000000000000 ∷ []) ≡ 0 ∷ 1 ∷ 1 ∷ []
unfolding value_of
bools = refl

-- 32 bits without a sign: the largest, and one of more bits
abbrev largest : List ℕ
largest = 0xFFFFFFFF ∷ 0x100000005 ∷ []

lows : map (λ (t : ℕ). map (value_of t) largest) (TYPE_UINT32 ∷ TYPE_FIXED32 ∷ TYPE_FLOAT ∷ [])
    ≡ (0xFFFFFFFF ∷ 5 ∷ []) ∷ (0xFFFFFFFF ∷ 5 ∷ []) ∷ (0xFFFFFFFF ∷ 5 ∷ []) ∷ []
unfolding value_of low32_of
lows = refl

-- 32 bits with a sign: -1 as ten bytes of varint say it, the largest, the least as 32 bits, and one of more bits
abbrev signs : List ℕ
signs = 0xFFFFFFFFFFFFFFFF ∷ 0x7FFFFFFF ∷ 0x80000000 ∷ 0x100000007 ∷ []

abbrev widened : List ℕ
widened = 0xFFFFFFFFFFFFFFFF ∷ 0x7FFFFFFF ∷ 0xFFFFFFFF80000000 ∷ 7 ∷ []

wides : map (λ (t : ℕ). map (value_of t) signs) (TYPE_INT32 ∷ TYPE_ENUM ∷ TYPE_SFIXED32 ∷ []) ≡ widened ∷ widened ∷ widened ∷ []
unfolding value_of low32_of widen32_of
wides = refl

-- -1, 1, the least, and -2 of more bits than 32
sints-32 :
    map (value_of TYPE_SINT32) (1 ∷ 2 ∷ 0xFFFFFFFF ∷ 0x100000003 ∷ [])
    ≡ 0xFFFFFFFFFFFFFFFF ∷ 1 ∷ 0xFFFFFFFF80000000 ∷ 0xFFFFFFFFFFFFFFFE ∷ []
unfolding value_of low32_of unzigzag_of
sints-32 = refl

-- -1, 1, the largest, the least, and what keeps its bits above 32
sints-64 :
    map (value_of TYPE_SINT64) (1 ∷ 2 ∷ 0xFFFFFFFFFFFFFFFE ∷ 0xFFFFFFFFFFFFFFFF ∷ 0x100000003 ∷ [])
    ≡ 0xFFFFFFFFFFFFFFFF ∷ 1 ∷ 0x7FFFFFFFFFFFFFFF ∷ 0x8000000000000000 ∷ 0xFFFFFFFF7FFFFFFE ∷ []
unfolding value_of unzigzag_of
sints-64 = refl

-- all 64 bits
plain :
    map (λ (t : ℕ). value_of t 0xFFFFFFFFFFFFFFFF) (TYPE_INT64 ∷ TYPE_UINT64 ∷ TYPE_FIXED64 ∷ TYPE_SFIXED64 ∷ TYPE_DOUBLE ∷ [])
    ≡ 0xFFFFFFFFFFFFFFFF ∷ 0xFFFFFFFFFFFFFFFF ∷ 0xFFFFFFFFFFFFFFFF ∷ 0xFFFFFFFFFFFFFFFF ∷ 0xFFFFFFFFFFFFFFFF ∷ []
unfolding value_of
plain = refl

-- ---- the payload: as long as the bytes are, one byte short, and with a byte behind it
abbrev extent : (before size : ℕ) → Option Extent
extent k n = Some (record { before = k; size = n })

-- Encoding, "Base 128 Varints": 150 is 96 01; and 1 in ten bytes, the longest form; an eleventh byte, and a tenth above 1
abbrev long : ℕ → List ℕ
long last = 0x81 ∷ 0x80 ∷ 0x80 ∷ 0x80 ∷ 0x80 ∷ 0x80 ∷ 0x80 ∷ 0x80 ∷ 0x80 ∷ last ∷ []

varints :
    map (payload_at VARINT) ((0x96 ∷ 0x01 ∷ []) ∷ (0x96 ∷ []) ∷ (0x96 ∷ 0x01 ∷ 0x07 ∷ []) ∷ [] ∷ [])
    ≡ extent 0 2 ∷ None ∷ extent 0 2 ∷ None ∷ []
unfolding payload_at read_varint read_within
varints = refl

overlong : map (payload_at VARINT) (long 0 ∷ long 2 ∷ long 0x80 ∷ []) ≡ extent 0 10 ∷ None ∷ None ∷ []
unfolding payload_at read_varint read_within
overlong = refl

fours :
    map (payload_at I32) ((1 ∷ 2 ∷ 3 ∷ 4 ∷ []) ∷ (1 ∷ 2 ∷ 3 ∷ []) ∷ (1 ∷ 2 ∷ 3 ∷ 4 ∷ 5 ∷ []) ∷ []) ≡ extent 0 4 ∷ None ∷ extent 0 4 ∷ []
unfolding payload_at
fours = refl

eights :
    map (payload_at I64) ((1 ∷ 2 ∷ 3 ∷ 4 ∷ 5 ∷ 6 ∷ 7 ∷ 8 ∷ []) ∷ (1 ∷ 2 ∷ 3 ∷ 4 ∷ 5 ∷ 6 ∷ 7 ∷ []) ∷ []) ≡ extent 0 8 ∷ None ∷ []
unfolding payload_at
eights = refl

-- Encoding, "Length-Delimited Records": 07 and seven bytes; no bytes at all; and a length in two bytes
delimited :
    map (payload_at LEN)
    ((7 ∷ 0x74 ∷ 0x65 ∷ 0x73 ∷ 0x74 ∷ 0x69 ∷ 0x6E ∷ 0x67 ∷ [])
    ∷ (7 ∷ 0x74 ∷ 0x65 ∷ 0x73 ∷ 0x74 ∷ 0x69 ∷ 0x6E ∷ [])
    ∷ (0 ∷ []) ∷ (0x81 ∷ 0 ∷ 9 ∷ []) ∷ [] ∷ [])
    ≡ extent 1 7 ∷ None ∷ extent 1 0 ∷ extent 2 1 ∷ None ∷ []
unfolding payload_at read_varint read_within
delimited = refl

-- ---- the number that it says: a varint's, the lowest byte first, and 0 of a length-delimited one
numbers :
    said VARINT (0x96 ∷ 0x01 ∷ []) ∷ said VARINT (long 0) ∷ said I32 (1 ∷ 2 ∷ 0 ∷ 0x80 ∷ [])
    ∷ said I64 (1 ∷ 0 ∷ 0 ∷ 0 ∷ 0 ∷ 0 ∷ 0 ∷ 0x80 ∷ []) ∷ said LEN (1 ∷ 2 ∷ []) ∷ []
    ≡ 150 ∷ 1 ∷ 0x80000201 ∷ 0x8000000000000001 ∷ 0 ∷ []
unfolding said read_varint read_within little
numbers = refl

-- ---- between two places: what stands before the first and behind the second is not read
abbrev bytes : List ℕ
bytes = 0xFF ∷ 0x96 ∷ 0x01 ∷ 0x02 ∷ 0x03 ∷ 0x04 ∷ []

placed :
    payload_in VARINT bytes 1 3 ∷ payload_in VARINT bytes 1 2 ∷ payload_in I32 bytes 2 6 ∷ payload_in I32 bytes 2 5
    ∷ payload_in LEN bytes 2 4 ∷ payload_in LEN bytes 2 3 ∷ []
    ≡ Some (held 1 2 150) ∷ None ∷ Some (held 2 4 0x04030201) ∷ None ∷ Some (held 3 1 0) ∷ None ∷ []
unfolding payload_in payload_at said read_varint read_within little
placed = refl
