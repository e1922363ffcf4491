-- The tag in front of a record, from Encoding, "Message Structure": the field number, then three bits of wire type.
--
--      tag_of n w ==  the tag of a field number and a wire type
--     number_of t ==  the field number of a tag
--   wire_type_of t ==  the wire type of a tag
--     wire_read w <=> a wire type that is read: VARINT, I64, LEN or I32
--      tag_good t <=> a tag that 01 takes: a field number in its range, and a wire type that is read
--
-- Assumes nothing.
use Rattle.std.specs.Prelude.{Bool, ◌&&◌, ◌||◌, ℕ, ◌+◌, ◌*◌, ◌/◌, ◌%◌, eqb, leb}
use Rattle.limits.specs.Figures.{most_number}
use Rattle.types.specs.Types.{VARINT, I64, LEN, I32}

abbrev pub tag_of : (number wire : ℕ) → ℕ
tag_of n w = n * 8 + w

abbrev pub number_of : ℕ → ℕ
number_of t = t / 8

abbrev pub wire_type_of : ℕ → ℕ
wire_type_of t = t % 8

-- 01, Listing: "Wire types 3, 4, 6, 7, a number outside the range above, .. are 18" [WIRE-5]
abbrev pub wire_read : ℕ → Bool
wire_read w = eqb w VARINT || eqb w I64 || eqb w LEN || eqb w I32

unfoldable pub tag_good : ℕ → Bool
tag_good t = leb 1 (number_of t) && leb (number_of t) most_number && wire_read (wire_type_of t)
