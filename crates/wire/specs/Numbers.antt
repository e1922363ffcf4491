-- Signed numbers as 64-bit patterns: zigzag, the low 32 bits and widening by sign. A pattern is a number below 2 ^ 64.
--
--          zig z == the zigzag form of a signed number
--     zigzag_of u == zigzag on a pattern
--   unzigzag_of z == the pattern whose zigzag form is z
--      low32_of u == the low 32 bits
--    widen32_of u == 32 bits widened by sign to 64
--
-- Assumes nothing.
use Rattle.std.specs.Prelude.{true, false, ℕ, ◌+◌, ◌-◌, ◌*◌, ◌/◌, ◌%◌, ◌^◌, eqb, ltb, ℤ, pos, negsuc}

-- Encoding, "Signed Integers": 0, -1, 1, -2 .. become 0, 1, 2, 3 ..: p becomes 2 * p, and -n becomes 2 * n - 1 [WIRE-8]
abbrev pub zig : ℤ → ℕ
zig (pos n) = 2 * n
zig (negsuc n) = 2 * n + 1

-- the pattern of -1 - n is 2 ^ 64 - 1 - n
unfoldable pub zigzag_of : ℕ → ℕ
zigzag_of u = elim (ltb u (2 ^ 63)) [ true ↦ 2 * u | false ↦ 2 * (2 ^ 64 - 1 - u) + 1 ]

unfoldable pub unzigzag_of : ℕ → ℕ
unzigzag_of z = elim (eqb (z % 2) 0) [ true ↦ z / 2 | false ↦ 2 ^ 64 - 1 - z / 2 ]

-- 01, Listing: "32-bit types, enum as int32, keep the low 32 bits, then zigzag is undone; signed ones widen by sign" [WIRE-9, LIST-6]
unfoldable pub low32_of : ℕ → ℕ
low32_of u = u % 2 ^ 32

unfoldable pub widen32_of : ℕ → ℕ
widen32_of u = elim (ltb u (2 ^ 31)) [ true ↦ u | false ↦ u + (2 ^ 64 - 2 ^ 32) ]
