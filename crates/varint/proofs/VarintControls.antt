-- Closed cases of specs/: of each rule one that holds, one at the limit and one refused just past it.
-- Assumes nothing.
use Rattle.std.specs.Prelude.{◌≡◌, refl, List, [], ◌∷◌, ℕ, ◌-◌, ◌^◌, length, Some, None}
use Rattle.varint.specs.Varint.{varint_within, varint, read_within, read_varint, at_place, varint_at, read}

-- a byte nine times over
abbrev nine : ℕ → List ℕ → List ℕ
nine b bs = b ∷ b ∷ b ∷ b ∷ b ∷ b ∷ b ∷ b ∷ b ∷ bs

-- Encoding, "Base 128 Varints": 1 and 150; and 300
varint-small : (varint 1 ≡ 0x01 ∷ []) × (varint 150 ≡ 0x96 ∷ 0x01 ∷ []) × (varint 300 ≡ 0xac ∷ 0x02 ∷ [])
unfolding varint varint_within
varint-small = (refl, refl, refl)

varint-one-byte : (varint 0 ≡ 0x00 ∷ []) × (varint 127 ≡ 0x7f ∷ []) × (varint 128 ≡ 0x80 ∷ 0x01 ∷ [])
unfolding varint varint_within
varint-one-byte = (refl, refl, refl)

varint-most : varint (2 ^ 64 - 1) ≡ nine 0xff (0x01 ∷ [])
unfolding varint varint_within
varint-most = refl

-- 128^n is the first number of n + 1 bytes, and 64 bits take ten
varint-lengths-low : (length (varint 127) ≡ 1) × (length (varint 128) ≡ 2) × (length (varint 16_383) ≡ 2) × (length (varint 16_384) ≡ 3)
unfolding varint varint_within
varint-lengths-low = (refl, refl, refl, refl)

varint-lengths-high : (length (varint (2 ^ 63 - 1)) ≡ 9) × (length (varint (2 ^ 63)) ≡ 10) × (length (varint (2 ^ 64 - 1)) ≡ 10)
unfolding varint varint_within
varint-lengths-high = (refl, refl, refl)

read-front : read_varint (0x96 ∷ 0x01 ∷ 0xff ∷ []) ≡ Some (read 150 2)
unfolding read_varint read_within
read-front = refl

-- overlong, also where ten bytes are zero
read-overlong : (read_varint (0x80 ∷ 0x00 ∷ []) ≡ Some (read 0 2)) × (read_varint (nine 0x80 (0x00 ∷ [])) ≡ Some (read 0 10))
unfolding read_varint read_within
read-overlong = (refl, refl)

-- ten bytes, of which the last holds one bit
read-tenth : (read_varint (nine 0xff (0x01 ∷ [])) ≡ Some (read (2 ^ 64 - 1) 10)) × (read_varint (nine 0xff (0x02 ∷ [])) ≡ None)
unfolding read_varint read_within
read-tenth = (refl, refl)

-- eleven bytes
read-eleventh : (read_varint (nine 0x80 (0x80 ∷ 0x00 ∷ [])) ≡ None) × (read_varint (nine 0x80 (0x81 ∷ 0x00 ∷ [])) ≡ None)
unfolding read_varint read_within
read-eleventh = (refl, refl)

read-cut : (read_varint (0x80 ∷ []) ≡ None) × (read_varint (nine 0x80 []) ≡ None) × (read_varint [] ≡ None)
unfolding read_varint read_within
read-cut = (refl, refl, refl)

placed-next : (at_place 7 (Some (read 150 2)) ≡ Some (read 150 9)) × (at_place 7 None ≡ None)
placed-next = (refl, refl)

-- between two places: up to the second, and cut by it
at-between : (varint_at (0x01 ∷ 0x96 ∷ 0x01 ∷ 0x02 ∷ []) 1 3 ≡ Some (read 150 3)) × (varint_at (0x01 ∷ 0x96 ∷ 0x01 ∷ 0x02 ∷ []) 1 2 ≡ None)
unfolding varint_at read_varint read_within
at-between = (refl, refl)
