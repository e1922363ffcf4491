-- What the bytes of a payload say: a number by their wire type, and the value of a record by its type.
--
--   number_read r ==  the number that was read, 0 where nothing was
--      said w bs ==  the number that the bytes of a payload of the wire type w say; 0 of a length-delimited one
--           lows ==  the types whose value is 32 bits
--          wides ==  the types whose value is 32 bits widened by sign, zigzag apart
--    value_of t v ==  the value of a record of the type t whose payload says v
--      Widened v <-> v is 32 bits widened by sign to 64
--       Fits t v <-> v is a value of the type t, as 64 bits
--
-- Assumes nothing.
use Rattle.std.specs.Prelude.{Bool, true, false, List, [], ◌∷◌, ℕ, ◌-◌, ◌^◌, ◌≤◌, ◌<◌, eqb, ◌⊎◌, None, Some, Option}
use Rattle.types.specs.Types.{is_any, VARINT, LEN, TYPE_FLOAT, TYPE_INT32, TYPE_FIXED32, TYPE_BOOL, TYPE_UINT32, TYPE_ENUM, TYPE_SFIXED32}
use Rattle.types.specs.Types.{TYPE_SINT32, TYPE_SINT64}
use Rattle.varint.specs.Varint.{read_varint}
use Rattle.wire.specs.Fixed.{little}
use Rattle.wire.specs.Numbers.{unzigzag_of, low32_of, widen32_of}
use Rattle.varint.specs.declared.Read.{Read}

abbrev pub number_read : Option Read → ℕ
number_read (Some r) = r.value
number_read None = 0

-- Encoding, "Base 128 Varints" and "Non-varint Numbers"; 01, Listing: "Length-delimited .. records have value 0" [LIST-6]
unfoldable pub said : (wire : ℕ) (payload : List ℕ) → ℕ
said w bs = elim (eqb w VARINT) [
  | true ↦ number_read (read_varint bs)
  | false ↦ elim (eqb w LEN) [ true ↦ 0 | false ↦ little bs ]
]

abbrev pub lows : List ℕ
lows = TYPE_UINT32 ∷ TYPE_FIXED32 ∷ TYPE_FLOAT ∷ []

abbrev pub wides : List ℕ
wides = TYPE_INT32 ∷ TYPE_ENUM ∷ TYPE_SFIXED32 ∷ []

-- 01, Listing: "32-bit types, enum as int32, keep the low 32 bits, then zigzag is undone; signed ones widen by sign; bool is 0 or 1"
-- [LIST-6]
unfoldable pub value_of : (typ said : ℕ) → ℕ
value_of t v = elim (eqb t TYPE_BOOL) [
  | true ↦ elim (eqb v 0) [ true ↦ 0 | false ↦ 1 ]
  | false ↦ elim (is_any t lows) [
    | true ↦ low32_of v
    | false ↦ elim (is_any t wides) [
      | true ↦ widen32_of (low32_of v)
      | false ↦ elim (eqb t TYPE_SINT32) [
        | true ↦ unzigzag_of (low32_of v)
        | false ↦ elim (eqb t TYPE_SINT64) [ true ↦ unzigzag_of v | false ↦ v ]
      ]
    ]
  ]
]

-- ---- values of a type: 0 or 1 of bool; 32 bits; 32 bits widened by sign; or all 64
abbrev pub Widened : ℕ → Type 0
Widened v = (v < 2 ^ 31) ⊎ ((2 ^ 64 - 2 ^ 31 ≤ v) × (v < 2 ^ 64))

abbrev pub FitsBy : (bool low wide : Bool) → ℕ → Type 0
FitsBy true l w v = v ≤ 1
FitsBy false true w v = v < 2 ^ 32
FitsBy false false true v = Widened v
FitsBy false false false v = v < 2 ^ 64

unfoldable pub Fits : (typ bits : ℕ) → Type 0
Fits t v = FitsBy (eqb t TYPE_BOOL) (is_any t lows) (is_any t (TYPE_SINT32 ∷ wides)) v
