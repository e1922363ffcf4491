-- The 18 types of descriptor.proto's FieldDescriptorProto.Type, by their numbers, and the wire type of each.
--
--   TYPE_DOUBLE .. TYPE_SINT64 ==  the type's number
--                VARINT .. I32 ==  the wire type's number
--                   is_any t ts <=> t is one of ts
--                     wire_of t ==  the wire type of the type t, VARINT where t is no type's number
--
-- Assumes nothing.
use Rattle.std.specs.Prelude.{Bool, true, false, ◌||◌, List, [], ◌∷◌, ℕ, eqb}

abbrev pub TYPE_DOUBLE : ℕ
TYPE_DOUBLE = 1

abbrev pub TYPE_FLOAT : ℕ
TYPE_FLOAT = 2

abbrev pub TYPE_INT64 : ℕ
TYPE_INT64 = 3

abbrev pub TYPE_UINT64 : ℕ
TYPE_UINT64 = 4

abbrev pub TYPE_INT32 : ℕ
TYPE_INT32 = 5

abbrev pub TYPE_FIXED64 : ℕ
TYPE_FIXED64 = 6

abbrev pub TYPE_FIXED32 : ℕ
TYPE_FIXED32 = 7

abbrev pub TYPE_BOOL : ℕ
TYPE_BOOL = 8

abbrev pub TYPE_STRING : ℕ
TYPE_STRING = 9

abbrev pub TYPE_GROUP : ℕ
TYPE_GROUP = 10

abbrev pub TYPE_MESSAGE : ℕ
TYPE_MESSAGE = 11

abbrev pub TYPE_BYTES : ℕ
TYPE_BYTES = 12

abbrev pub TYPE_UINT32 : ℕ
TYPE_UINT32 = 13

abbrev pub TYPE_ENUM : ℕ
TYPE_ENUM = 14

abbrev pub TYPE_SFIXED32 : ℕ
TYPE_SFIXED32 = 15

abbrev pub TYPE_SFIXED64 : ℕ
TYPE_SFIXED64 = 16

abbrev pub TYPE_SINT32 : ℕ
TYPE_SINT32 = 17

abbrev pub TYPE_SINT64 : ℕ
TYPE_SINT64 = 18

abbrev pub VARINT : ℕ
VARINT = 0

abbrev pub I64 : ℕ
I64 = 1

abbrev pub LEN : ℕ
LEN = 2

abbrev pub SGROUP : ℕ
SGROUP = 3

abbrev pub I32 : ℕ
I32 = 5

abbrev pub is_any : ℕ → List ℕ → Bool
is_any t [] = false
is_any t (x ∷ xs) = eqb t x || is_any t xs

-- Encoding, "Message Structure": I64 for fixed64, sfixed64, double; LEN for string, bytes, embedded messages; SGROUP for a group's start;
-- I32 for fixed32, sfixed32, float; VARINT for int32, int64, uint32, uint64, sint32, sint64, bool, enum [WIRE-6]
unfoldable pub wire_of : ℕ → ℕ
wire_of t =
    elim (is_any t (TYPE_FIXED64 ∷ TYPE_SFIXED64 ∷ TYPE_DOUBLE ∷ [])) [
      | true ↦ I64
      | false ↦ elim (is_any t (TYPE_STRING ∷ TYPE_BYTES ∷ TYPE_MESSAGE ∷ [])) [
        | true ↦ LEN
        | false ↦ elim (is_any t (TYPE_GROUP ∷ [])) [
          | true ↦ SGROUP
          | false ↦ elim (is_any t (TYPE_FIXED32 ∷ TYPE_SFIXED32 ∷ TYPE_FLOAT ∷ [])) [ true ↦ I32 | false ↦ VARINT ]
        ]
      ]
    ]
