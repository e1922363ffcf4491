-- Varints, from Encoding, "Base 128 Varints": seven bits a byte, the lowest group first, the top bit set on every byte but the last;
-- ten bytes at the most, which hold 64 bits.
--
--    varint_within k v == the shortest varint of v, where k bytes at the most follow its first
--            varint v == the shortest varint of v
--            continued b r == a byte b with its top bit set, in front of what r is
--     read_within k bs == the varint at the front of bs, where k bytes at the most follow its first: its value and how many bytes it has
--       read_varint bs == the varint at the front of bs, or that there is none
--         at_place at r == what was read at the place `at`, with the place after it
--   varint_at s at end == the varint of s between two places that starts at the first, with the place after it
--
-- Assumes nothing.
use Rattle.std.specs.Prelude.{true, false, List, [], ◌∷◌, ℕ, zero, suc, ◌+◌, ◌-◌, ◌*◌, ◌/◌, ◌%◌, ltb, None, Some, Option}
use Rattle.limits.specs.Figures.{most_varint}
use Rattle.octets.specs.Octets.{part}
use Rattle.varint.specs.declared.Read.{Read}

unfoldable pub varint_within : (most v : ℕ) → List ℕ
varint_within zero v = v ∷ []
varint_within (suc k) v = elim (ltb v 128) [ true ↦ v ∷ [] | false ↦ (128 + v % 128) ∷ varint_within k (v / 128) ]

unfoldable pub varint : ℕ → List ℕ
varint v = varint_within (most_varint - 1) v

abbrev pub read : (value next : ℕ) → Read
read v n = record { value = v; next = n }

abbrev pub continued : ℕ → Option Read → Option Read
continued b (Some r) = Some (read (b % 128 + 128 * r.value) (suc r.next))
continued b None = None

-- the tenth byte holds one bit: above 1 it would pass 64 bits, or an eleventh byte would follow
unfoldable pub read_within : ℕ → List ℕ → Option Read
read_within k [] = None
read_within zero (b ∷ bs) = elim (ltb b 2) [ true ↦ Some (read b 1) | false ↦ None ]
read_within (suc k) (b ∷ bs) = elim (ltb b 128) [ true ↦ Some (read b 1) | false ↦ continued b (read_within k bs) ]

-- 01, Listing: "Varints may be overlong, up to ten bytes and 64 bits" [WIRE-3]
unfoldable pub read_varint : List ℕ → Option Read
read_varint bs = read_within (most_varint - 1) bs

abbrev pub at_place : ℕ → Option Read → Option Read
at_place at (Some x) = Some (read x.value (at + x.next))
at_place at None = None

unfoldable pub varint_at : (s : List ℕ) (at end : ℕ) → Option Read
varint_at s at end = at_place at (read_varint (part s at end))
