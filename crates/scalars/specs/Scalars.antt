-- A scalar constant on a type, from 01's "Option steps": "Integers fit any integer type that holds them .. Other pairs are 12."
--
--             is_integer t <=> the type t is one of the ten integer types
--         is_signed, is_small <=> such a type has negative numbers; such a type has 32 bits
--               most_of m t ==  the largest size of an integer on the integer type t, of a negative one where m holds
--           pattern_of m n ==  the 64 bits of the integer of the sign m and the size n
--         integer_on t m n ==  that integer on the type t
--             float_on t b ==  a float constant, by its bits, on the type t
--             string_on .. ==  a string on the type t, from the places of the request
--     ident_on unlisted .. ==  an identifier, `unlisted` being the reply where the enum has no such value
--   scalar_on unlisted h c ==  the constant c on a field of the shape h
--
-- Assumes nothing.
use Rattle.std.specs.Prelude.{Bool, true, false, ◌||◌, List, ℕ, ◌-◌, ◌%◌, ◌^◌, eqb, leb, Option, None, Some, Err, Ok, Result}
use Rattle.std.specs.Float.{binary32, binary64}
use Rattle.std.specs.Float.Ieee.{to_bits}
use Rattle.reply.specs.declared.Refusal.{Refusal}
use Rattle.reply.specs.declared.Refusal.TheVariants.{UnsupportedExtensionType, ValueRange, StrLitDecodeError}
use Rattle.field.specs.declared.Span.{Span}
use Rattle.field.specs.Leaf.{text}
use Rattle.utf8.specs.Utf8.{is_utf8}
use Rattle.wire.specs.Numbers.{widen32_of}
use Rattle.types.specs.Types.{TYPE_DOUBLE, TYPE_FLOAT, TYPE_INT64, TYPE_UINT64, TYPE_INT32, TYPE_FIXED64}
use Rattle.types.specs.Types.{TYPE_FIXED32, TYPE_BOOL, TYPE_STRING, TYPE_BYTES, TYPE_UINT32, TYPE_ENUM, TYPE_SFIXED32}
use Rattle.types.specs.Types.{TYPE_SFIXED64, TYPE_SINT32, TYPE_SINT64}
use Rattle.round.specs.Rounding.{signed_of, int_bits, narrow_bits}
use Rattle.sheet.specs.declared.declaration.Shape.{Shape}
use Rattle.sheet.specs.declared.declaration.Value.{Value}
use Rattle.request.specs.declared.constant.Constant.{Constant}
use Rattle.request.specs.declared.constant.Constant.TheVariants.{Bool as BoolOf, Integer, Float as FloatOf, NotANumber}
use Rattle.request.specs.declared.constant.Constant.TheVariants.{Text, Ident, Message as MessageOf, List as ListOf}
use Rattle.records.specs.declared.Body.TheVariants.{Bits, Bytes}
use Rattle.lookups.specs.Lookups.{Lookups, value_in}
use Rattle.records.specs.declared.Body.{Body}

abbrev pub unsupported : Result Body Refusal
unsupported = Err UnsupportedExtensionType

abbrev pub fits : ℕ → Result Body Refusal
fits b = Ok (Bits b)

-- ---- integers
unfoldable pub is_small : ℕ → Bool
is_small t = eqb t TYPE_INT32 || eqb t TYPE_SINT32 || eqb t TYPE_SFIXED32 || eqb t TYPE_UINT32 || eqb t TYPE_FIXED32

unfoldable pub is_signed : ℕ → Bool
is_signed t =
    eqb t TYPE_INT32 || eqb t TYPE_SINT32 || eqb t TYPE_SFIXED32 || eqb t TYPE_INT64 || eqb t TYPE_SINT64 || eqb t TYPE_SFIXED64

unfoldable pub is_integer : ℕ → Bool
is_integer t = is_small t || is_signed t || eqb t TYPE_UINT64 || eqb t TYPE_FIXED64

abbrev pub width : ℕ → ℕ
width t = elim (is_small t) [ true ↦ 32 | false ↦ 64 ]

-- of w bits: 2 ^ (w - 1) and 2 ^ (w - 1) - 1 where there is a sign, 0 and 2 ^ w - 1 where there is none
unfoldable pub most_of : Bool → ℕ → ℕ
most_of true t = elim (is_signed t) [ true ↦ 2 ^ (width t - 1) | false ↦ 0 ]
most_of false t = elim (is_signed t) [ true ↦ 2 ^ (width t - 1) - 1 | false ↦ 2 ^ width t - 1 ]

unfoldable pub pattern_of : Bool → ℕ → ℕ
pattern_of true n = (2 ^ 64 - n) % 2 ^ 64
pattern_of false n = n

-- "Integers fit any integer type that holds them, else 14; on float and double they round to nearest, ties to even." [VALUE-2, VALUE-3]
unfoldable pub integer_on : ℕ → Bool → ℕ → Result Body Refusal
integer_on t minus n = elim (is_integer t) [
  | true ↦ elim (leb n (most_of minus t)) [ true ↦ fits (pattern_of minus n) | false ↦ Err ValueRange ]
  | false ↦ elim (eqb t TYPE_FLOAT) [
    | true ↦ fits (int_bits binary32 (signed_of minus n))
    | false ↦ elim (eqb t TYPE_DOUBLE) [ true ↦ fits (int_bits binary64 (signed_of minus n)) | false ↦ unsupported ]
  ]
]

-- ---- "A float constant fits double exactly and float by the same rounding, overflow to infinity, NaN to 7FC00000.": by its 64 bits [VALUE-4]
unfoldable pub float_on : ℕ → ℕ → Result Body Refusal
float_on t b = elim (eqb t TYPE_DOUBLE) [
  | true ↦ fits b
  | false ↦ elim (eqb t TYPE_FLOAT) [ true ↦ fits (narrow_bits b) | false ↦ unsupported ]
]

-- ---- "Strings fit string (UTF-8, else 15) and bytes. Bools fit bool, identifiers enum." [VALUE-5, VALUE-6]
unfoldable pub string_on : List ℕ → ℕ → Span → Result Body Refusal
string_on r t p = elim (eqb t TYPE_STRING) [
  | true ↦ elim (is_utf8 (text r p)) [ true ↦ Ok (Bytes p) | false ↦ Err StrLitDecodeError ]
  | false ↦ elim (eqb t TYPE_BYTES) [ true ↦ Ok (Bytes p) | false ↦ unsupported ]
]

unfoldable pub bool_on : ℕ → Bool → Result Body Refusal
bool_on t b = elim (eqb t TYPE_BOOL) [ true ↦ elim b [ true ↦ fits 1 | false ↦ fits 0 ] | false ↦ unsupported ]

-- an enum's number is an int32: it widens by sign
abbrev pub listed : Refusal → Option Value → Result Body Refusal
listed unlisted None = Err unlisted
listed unlisted (Some v) = fits (widen32_of v.number)

abbrev pub among : Refusal → List ℕ → List ℕ → Result Span Refusal → Result Body Refusal
among unlisted s n (Err w) = Err w
among unlisted s n (Ok vs) = listed unlisted (value_in s n vs)

module _ (L : Lookups) (s r : List ℕ) (unlisted : Refusal) (h : Shape) where
  -- "A type path is looked up only for .. an identifier on an enum." [STEP-11, VALUE-7]
  unfoldable pub ident_on : Span → Result Body Refusal
  ident_on p = elim (eqb h.typ TYPE_ENUM) [
    | true ↦ among unlisted s (text r p) (L.enumeration (text s h.path))
    | false ↦ unsupported
  ]

  -- message constants and lists are no scalars
  unfoldable pub scalar_on : Constant → Result Body Refusal
  scalar_on (BoolOf b) = bool_on h.typ b
  scalar_on (Integer m n) = integer_on h.typ m n
  scalar_on (FloatOf x) = float_on h.typ (to_bits binary64 x)
  scalar_on (NotANumber b) = float_on h.typ b
  scalar_on (Text p) = string_on r h.typ p
  scalar_on (Ident p) = ident_on p
  scalar_on (MessageOf p) = unsupported
  scalar_on (ListOf p) = unsupported
