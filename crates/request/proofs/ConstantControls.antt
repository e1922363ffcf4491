-- Closed cases of constants, which the checker computes: the eight kinds, at their limits and past them, and the tree of a message.
-- Assumes nothing.
use Rattle.std.specs.Prelude.{◌≡◌, refl, true, false, List, [], ◌∷◌, map, ℕ, length, Some, None, Option}
use lib.IntN.{negsuc}
use lib.Ieee.{inf, fin, nan_bits, of_bits, of_fields, odd}
use Rattle.octets.specs.Octets.{big_at}
use Rattle.field.specs.Field.{field_at}
use Rattle.field.specs.Leaf.{span}
use Rattle.field.specs.Walk.{walk_by}
use Rattle.request.specs.declared.constant.Constant.TheVariants.{Bool as BoolOf, Integer, Float, NotANumber}
use Rattle.request.specs.declared.constant.Constant.TheVariants.{Text, Ident, Message, List as ListOf}
use Rattle.request.specs.Table.{bool_tag, unsigned_tag, signed_tag, float_tag, string_tag, ident_tag, message_constant_tag, list_tag}
use Rattle.request.specs.Table.{pair_field_tag}
use Rattle.request.specs.Constant.{integer_of, float_of, bool_of, numeric_of, constant_of, is_pair_name}
use Rattle.request.specs.Tree.{none, scalar, message, list, unnamed, by_field, by_extension, constant_in}
use Rattle.request.specs.declared.constant.Constant.{Constant}

-- the constant whose payload is a whole list
abbrev held : ℕ → List ℕ → Option Constant
held t s = constant_of s t 0 (length s)

-- eight bytes: the first, the second, five alike, the last
abbrev word : ℕ → ℕ → ℕ → ℕ → List ℕ
word x y z l = x ∷ y ∷ z ∷ z ∷ z ∷ z ∷ z ∷ l ∷ []

-- 0, 1, past them; no byte, two bytes
bools :
    map (held bool_tag) ((0 ∷ []) ∷ (1 ∷ []) ∷ (2 ∷ []) ∷ [] ∷ (0 ∷ 1 ∷ []) ∷ [])
    ≡ Some (BoolOf false) ∷ Some (BoolOf true) ∷ None ∷ None ∷ None ∷ []
unfolding constant_of bool_of
bools = refl

-- 0, the largest; seven bytes, nine bytes
unsigned :
    map (held unsigned_tag) (word 0 0 0 0 ∷ word 0xFF 0xFF 0xFF 0xFF ∷ (1 ∷ 2 ∷ 3 ∷ 4 ∷ 5 ∷ 6 ∷ 7 ∷ []) ∷ (0 ∷ word 0 0 0 7) ∷ [])
    ≡ Some (Integer false 0) ∷ Some (Integer false 0xFFFFFFFFFFFFFFFF) ∷ None ∷ None ∷ []
unfolding constant_of numeric_of big_at
unsigned = refl

-- -1, the least, the largest; seven bytes
signed :
    map (held signed_tag) (word 0xFF 0xFF 0xFF 0xFF ∷ word 0x80 0 0 0 ∷ word 0x7F 0xFF 0xFF 0xFF ∷ (1 ∷ 2 ∷ 3 ∷ 4 ∷ 5 ∷ 6 ∷ 7 ∷ []) ∷ [])
    ≡ Some (Integer true 1) ∷ Some (Integer true 0x8000000000000000) ∷ Some (Integer false 0x7FFFFFFFFFFFFFFF) ∷ None ∷ []
unfolding constant_of numeric_of integer_of big_at
signed = refl

-- 1.5; the infinities, and the NaNs whose bits come right after theirs
floats :
    map (held float_tag) (word 0x3F 0xF8 0 0 ∷ word 0x7F 0xF0 0 0 ∷ word 0xFF 0xF0 0 0 ∷ word 0x7F 0xF0 0 1 ∷ word 0xFF 0xF0 0 1 ∷ [])
    ≡ Some (Float (fin false 3 (negsuc 0)))
    ∷ Some (Float (inf false))
    ∷ Some (Float (inf true))
    ∷ Some (NotANumber 0x7FF0000000000001)
    ∷ Some (NotANumber 0xFFF0000000000001)
    ∷ []
unfolding constant_of numeric_of float_of big_at nan_bits of_bits of_fields odd
floats = refl

-- these are the places of their payload, whatever it is; a pair's name and a tag past the last are none, though they hold eight bytes
places :
    map (λ (t : ℕ). constant_of [] t 5 13) (string_tag ∷ ident_tag ∷ message_constant_tag ∷ list_tag ∷ pair_field_tag ∷ 0x2B ∷ [])
    ≡ Some (Text (span 5 13)) ∷ Some (Ident (span 5 13)) ∷ Some (Message (span 5 13)) ∷ Some (ListOf (span 5 13))
    ∷ None ∷ None ∷ []
unfolding constant_of numeric_of
places = refl

-- ---- the tree of { a: [true, {}]  [b]: x }: the pair of the field `a` is a list, which holds a bool and an empty message
abbrev nested : List ℕ
nested =
    0x27 ∷ 0 ∷ 1 ∷ 97 ∷ 0x2A ∷ 0 ∷ 7 ∷ 0x20 ∷ 0 ∷ 1 ∷ 1 ∷ 0x26 ∷ 0 ∷ 0
    ∷ 0x28 ∷ 0 ∷ 1 ∷ 98 ∷ 0x25 ∷ 0 ∷ 1 ∷ 120 ∷ []

tree :
    constant_in 3 nested unnamed message_constant_tag 0 22 none
    ≡ message unnamed
    (list (by_field (span 3 4)) (scalar unnamed (BoolOf true) (message unnamed none none))
    (scalar (by_extension (span 17 18)) (Ident (span 21 22)) none))
    none
unfolding constant_of bool_of is_pair_name walk_by field_at big_at
tree = refl

-- two levels leave out what the list holds
shallow :
    constant_in 2 nested unnamed message_constant_tag 0 22 none
    ≡ message unnamed (list (by_field (span 3 4)) none (scalar (by_extension (span 17 18)) (Ident (span 21 22)) none)) none
unfolding constant_of bool_of is_pair_name walk_by field_at big_at
shallow = refl

-- a list's elements are no pairs of a message
no_pairs : constant_in 3 nested unnamed message_constant_tag 7 14 none ≡ message unnamed none none
unfolding constant_of bool_of is_pair_name walk_by field_at big_at
no_pairs = refl
