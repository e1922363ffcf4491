-- Constants as they are written, and the tags of a pair's name, from 01's "Sheet and request".
--
--          integer_of b ==  the integer that 64 bits are in two's complement
--            float_of b ==  the double that 64 bits are, a NaN by its bits
--         bool_of s a e ==  the bool whose payload is from a to e
--       number_with t b ==  the number of the tag t that 64 bits are
--    numeric_of s t a e ==  the number of the tag t whose payload is from a to e
--   constant_of s t a e ==  the constant of the tag t whose payload is from a to e
--         is_pair_name t <=> t is the tag of a pair's name
--
-- Assumes nothing.
use Rattle.std.specs.Prelude.{Bool, true, false, ◌&&◌, List, ℕ, ◌-◌, ◌^◌, eqb, ltb, leb, get_or, Some, None, Option}
use Rattle.std.specs.Float.{binary64}
use Rattle.std.specs.Float.Ieee.{of_bits, nan_bits}
use Rattle.octets.specs.Octets.{big_at}
use Rattle.field.specs.Leaf.{span}
use Rattle.request.specs.declared.constant.Constant.{Constant}
use Rattle.request.specs.declared.constant.Constant.TheVariants.{Bool as BoolOf, Integer, Float, NotANumber}
use Rattle.request.specs.declared.constant.Constant.TheVariants.{Text, Ident, Message, List as ListOf}
use Rattle.request.specs.Table.{bool_tag, unsigned_tag, signed_tag, float_tag, string_tag, ident_tag}
use Rattle.request.specs.Table.{message_constant_tag, pair_field_tag, pair_url_tag, list_tag}

-- an integer is its sign and its size
unfoldable pub integer_of : (bits : ℕ) → Constant
integer_of b = elim (ltb b (2 ^ 63)) [ true ↦ Integer false b | false ↦ Integer true (2 ^ 64 - b) ]

-- "23 a float constant, eight bytes, its f64 bits"; the one NaN of f64 has no payload, so a NaN is kept by its bits [FORM-4, FORM-11]
unfoldable pub float_of : (bits : ℕ) → Constant
float_of b = elim (nan_bits binary64 b) [ true ↦ NotANumber b | false ↦ Float (of_bits binary64 b) ]

-- "20 bool (one byte, 0 or 1)" [FORM-4]
unfoldable pub bool_of : (s : List ℕ) (from to : ℕ) → Option Constant
bool_of s a e = elim (eqb (e - a) 1) [
  | true ↦ elim (ltb 1 (get_or s a 0)) [ true ↦ None | false ↦ Some (BoolOf (eqb (get_or s a 0) 1)) ]
  | false ↦ None
]

-- "21 unsigned, 22 signed (8 bytes each)" [FORM-4, FORM-10]
abbrev pub number_with : (tag bits : ℕ) → Option Constant
number_with t b = elim (eqb t unsigned_tag) [
  | true ↦ Some (Integer false b)
  | false ↦ elim (eqb t signed_tag) [
    | true ↦ Some (integer_of b)
    | false ↦ elim (eqb t float_tag) [ true ↦ Some (float_of b) | false ↦ None ]
  ]
]

unfoldable pub numeric_of : (s : List ℕ) (tag from to : ℕ) → Option Constant
numeric_of s t a e = elim (eqb (e - a) 8) [ true ↦ number_with t (big_at 8 s a) | false ↦ None ]

-- "24 string, already unescaped; 25 identifier; 26 message ..; 2A list of constants" [FORM-4]
unfoldable pub constant_of : (s : List ℕ) (tag from to : ℕ) → Option Constant
constant_of s t a e = elim (eqb t bool_tag) [
  | true ↦ bool_of s a e
  | false ↦ elim (eqb t string_tag) [
    | true ↦ Some (Text (span a e))
    | false ↦ elim (eqb t ident_tag) [
      | true ↦ Some (Ident (span a e))
      | false ↦ elim (eqb t message_constant_tag) [
        | true ↦ Some (Message (span a e))
        | false ↦ elim (eqb t list_tag) [ true ↦ Some (ListOf (span a e)) | false ↦ numeric_of s t a e ]
      ]
    ]
  ]
]

-- "pairs of a name (27 field, 28 extension path, 29 type URL ..) and a constant" [FORM-4]
unfoldable pub is_pair_name : (tag : ℕ) → Bool
is_pair_name t = leb pair_field_tag t && leb t pair_url_tag
