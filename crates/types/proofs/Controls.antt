-- Types: the wire type of each of the 18, and what numbers beside them come to.
-- Assumes nothing.
use Rattle.std.specs.Prelude.{◌≡◌, refl, List, [], ◌∷◌, map, ℕ}
use Rattle.types.specs.Types.{TYPE_DOUBLE, TYPE_FLOAT, TYPE_INT64, TYPE_UINT64, TYPE_INT32, TYPE_FIXED64, TYPE_FIXED32, TYPE_BOOL}
use Rattle.types.specs.Types.{TYPE_STRING, TYPE_GROUP, TYPE_MESSAGE, TYPE_BYTES, TYPE_UINT32, TYPE_ENUM}
use Rattle.types.specs.Types.{TYPE_SFIXED32, TYPE_SFIXED64, TYPE_SINT32, TYPE_SINT64}
use Rattle.types.specs.Types.{VARINT, I64, LEN, SGROUP, I32, wire_of}

abbrev types : List ℕ
types =
    TYPE_DOUBLE ∷ TYPE_FLOAT ∷ TYPE_INT64 ∷ TYPE_UINT64 ∷ TYPE_INT32 ∷ TYPE_FIXED64 ∷ TYPE_FIXED32 ∷ TYPE_BOOL ∷ TYPE_STRING
    ∷ TYPE_GROUP ∷ TYPE_MESSAGE ∷ TYPE_BYTES ∷ TYPE_UINT32 ∷ TYPE_ENUM ∷ TYPE_SFIXED32 ∷ TYPE_SFIXED64 ∷ TYPE_SINT32 ∷ TYPE_SINT64 ∷ []

-- descriptor.proto numbers them from 1 on
numbered : types ≡ 1 ∷ 2 ∷ 3 ∷ 4 ∷ 5 ∷ 6 ∷ 7 ∷ 8 ∷ 9 ∷ 10 ∷ 11 ∷ 12 ∷ 13 ∷ 14 ∷ 15 ∷ 16 ∷ 17 ∷ 18 ∷ []
numbered = refl

wired : map wire_of types
    ≡ I64 ∷ I32 ∷ VARINT ∷ VARINT ∷ VARINT ∷ I64 ∷ I32 ∷ VARINT ∷ LEN
    ∷ SGROUP ∷ LEN ∷ LEN ∷ VARINT ∷ VARINT ∷ I32 ∷ I64 ∷ VARINT ∷ VARINT ∷ []
unfolding wire_of
wired = refl

beside : map wire_of (0 ∷ 19 ∷ 255 ∷ []) ≡ VARINT ∷ VARINT ∷ VARINT ∷ []
unfolding wire_of
beside = refl
