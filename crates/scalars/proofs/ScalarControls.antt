-- Closed cases of scalar constants on types, which the checker computes: of each rule one that fits, one at its border, one just past it.
-- Assumes nothing.
use Rattle.std.specs.Prelude.{◌≡◌, refl, true, false, List, [], ◌∷◌, map, ℕ, Err, Ok, Result}
use lib.Ieee.{of_int, of_bits, to_bits, round, binary64}
use Rattle.octets.specs.Octets.{same_bytes}
use Rattle.reply.specs.declared.Refusal.TheVariants.{UnknownEnumValue}
use Rattle.reply.specs.Reply.{number}
use Rattle.field.specs.Leaf.{span}
use Rattle.utf8.specs.Utf8.{is_scalar, utf8, point_of, stands, lead_of, utf8_from, is_utf8}
use Rattle.round.specs.Rounding.{int_bits, narrow, narrow_bits}
use Rattle.types.specs.Types.{TYPE_DOUBLE, TYPE_FLOAT, TYPE_INT64, TYPE_UINT64, TYPE_INT32, TYPE_FIXED64}
use Rattle.types.specs.Types.{TYPE_FIXED32, TYPE_BOOL, TYPE_STRING, TYPE_BYTES, TYPE_UINT32, TYPE_ENUM, TYPE_SFIXED32}
use Rattle.types.specs.Types.{TYPE_SFIXED64, TYPE_SINT32, TYPE_SINT64}
use Rattle.sheet.specs.declared.declaration.Shape.{Shape}
use Rattle.request.specs.declared.constant.Constant.{Constant}
use Rattle.request.specs.declared.constant.Constant.TheVariants.{Bool as BoolOf, Integer, Float as FloatOf, NotANumber}
use Rattle.request.specs.declared.constant.Constant.TheVariants.{Text, Message as MessageOf, List as ListOf}
use Rattle.records.specs.declared.Body.TheVariants.{Bits, Bytes}
use Rattle.lookups.specs.Lookups.{walking}
use Rattle.scalars.specs.Scalars.{is_small, is_signed, is_integer, most_of, pattern_of, integer_on, float_on, string_on, bool_on, scalar_on}
use Rattle.records.specs.declared.Body.{Body}
use Rattle.reply.specs.declared.Refusal.{Refusal}

-- the bits of a number, the places of bytes, or the reply's number
data Says : Type 0 where
  bits : ℕ → Says
  bytes : (from to : ℕ) → Says
  refused : ℕ → Says

abbrev says_of : Result Body Refusal → Says
says_of (Ok (Bits b)) = bits b
says_of (Ok (Bytes p)) = bytes p.from p.to
says_of (Err w) = refused (number w)

-- a type, a constant and what it comes to
record Case : Type 0 where
  typ : ℕ
  constant : Constant
  says : Says

abbrev on : ℕ → Constant → Says → Case
on t c a = record { typ = t; constant = c; says = a }

-- from a request of the two bytes C3 and A9, and a sheet with nothing in it
unfoldable told : Case → Says
unfolding scalar_on bool_on string_on float_on integer_on is_integer is_small is_signed most_of pattern_of is_scalar utf8 point_of stands lead_of
    utf8_from is_utf8 same_bytes int_bits narrow_bits narrow of_int round of_bits to_bits
told c =
    let shape : Shape = record { number = 1; typ = c.typ; label = 1; path = span 0 0 } in
    says_of (scalar_on (walking []) [] (195 ∷ 169 ∷ []) UnknownEnumValue shape c.constant)

abbrev Hold : List Case → Type 0
Hold cs = map told cs ≡ map (λ (c : Case). c.says) cs

abbrev plus : ℕ → Constant
plus = Integer false

abbrev minus : ℕ → Constant
minus = Integer true

-- ---- integers of 32 bits; the first two are 01's P9
small : Hold (
    on TYPE_UINT32 (plus 4294967295) (bits 4294967295)
    ∷ on TYPE_UINT32 (plus 4294967296) (refused 14)
    ∷ on TYPE_UINT32 (minus 1) (refused 14)
    ∷ on TYPE_FIXED32 (plus 4294967295) (bits 4294967295)
    ∷ on TYPE_FIXED32 (plus 4294967296) (refused 14)
    ∷ on TYPE_INT32 (plus 2147483647) (bits 2147483647)
    ∷ on TYPE_INT32 (plus 2147483648) (refused 14)
    ∷ on TYPE_INT32 (minus 2147483648) (bits 18446744071562067968)
    ∷ on TYPE_INT32 (minus 2147483649) (refused 14)
    ∷ on TYPE_SINT32 (minus 1) (bits 18446744073709551615)
    ∷ on TYPE_SFIXED32 (minus 2147483649) (refused 14)
    ∷ [])
unfolding told
small = refl

-- ---- integers of 64 bits
large : Hold (
    on TYPE_UINT64 (plus 18446744073709551615) (bits 18446744073709551615)
    ∷ on TYPE_UINT64 (minus 1) (refused 14)
    ∷ on TYPE_UINT64 (minus 0) (bits 0)
    ∷ on TYPE_FIXED64 (plus 18446744073709551615) (bits 18446744073709551615)
    ∷ on TYPE_INT64 (plus 9223372036854775807) (bits 9223372036854775807)
    ∷ on TYPE_INT64 (plus 9223372036854775808) (refused 14)
    ∷ on TYPE_SINT64 (plus 9223372036854775808) (refused 14)
    ∷ on TYPE_SINT64 (minus 9223372036854775808) (bits 9223372036854775808)
    ∷ on TYPE_SFIXED64 (minus 1) (bits 18446744073709551615)
    ∷ [])
unfolding told
large = refl

-- ---- numbers on float and double: 2 ^ 24 + 1 is a tie; 1.5, a NaN by its bits
floats : Hold (
    on TYPE_FLOAT (plus 16777217) (bits 0x4b80_0000)
    ∷ on TYPE_DOUBLE (plus 16777217) (bits 0x4170_0000_1000_0000)
    ∷ on TYPE_DOUBLE (FloatOf (of_bits binary64 0x3ff8_0000_0000_0000)) (bits 0x3ff8_0000_0000_0000)
    ∷ on TYPE_FLOAT (FloatOf (of_bits binary64 0x3ff8_0000_0000_0000)) (bits 0x3fc0_0000)
    ∷ on TYPE_FLOAT (NotANumber 0xfff8_0000_0000_0001) (bits 0x7fc0_0000)
    ∷ on TYPE_DOUBLE (NotANumber 0xfff8_0000_0000_0001) (bits 0xfff8_0000_0000_0001)
    ∷ on TYPE_INT32 (FloatOf (of_bits binary64 0x3ff0_0000_0000_0000)) (refused 12)
    ∷ on TYPE_INT32 (NotANumber 0xfff8_0000_0000_0001) (refused 12)
    ∷ [])
unfolding told
floats = refl

-- ---- bools, strings, and what is no scalar: one byte of the two is no UTF-8
others : Hold (
    on TYPE_BOOL (BoolOf true) (bits 1)
    ∷ on TYPE_BOOL (BoolOf false) (bits 0)
    ∷ on TYPE_INT32 (BoolOf true) (refused 12)
    ∷ on TYPE_BOOL (plus 1) (refused 12)
    ∷ on TYPE_STRING (Text (span 0 2)) (bytes 0 2)
    ∷ on TYPE_STRING (Text (span 0 1)) (refused 15)
    ∷ on TYPE_BYTES (Text (span 0 1)) (bytes 0 1)
    ∷ on TYPE_ENUM (Text (span 0 2)) (refused 12)
    ∷ on TYPE_STRING (plus 0) (refused 12)
    ∷ on TYPE_BYTES (MessageOf (span 0 2)) (refused 12)
    ∷ on TYPE_BYTES (ListOf (span 0 2)) (refused 12)
    ∷ [])
unfolding told
others = refl
