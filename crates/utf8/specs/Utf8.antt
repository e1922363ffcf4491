-- UTF-8 by code points, strictly (RFC 3629): no surrogate, no overlong form, nothing above U+10FFFF.
--
--      is_scalar c <=> c is a Unicode scalar value
--          utf8 c ==  the bytes of a scalar value
--         Utf8 bs <-> bs are the bytes of scalar values, one after the other
--      point_of bs ==  the code point that the payload bits at the front of bs make
--     stands c bs <=> c is a scalar value whose bytes stand at the front of bs
--       lead_of bs ==  how many bytes the scalar value at the front of bs takes, 0 where none stands there
--   utf8_from n bs <=> the first n of bs belong to the value before, and what follows is UTF-8
--       is_utf8 bs <=> the same as Utf8, as a test that computes
--
-- Assumes nothing.
use Rattle.std.specs.Prelude.{◌≡◌, Bool, true, false, ◌&&◌, ◌||◌, List, [], ◌∷◌, ◌++◌, ℕ, zero, suc, ◌+◌, ◌-◌, ◌*◌, ◌/◌, ◌%◌, eqb, ltb, leb, length, get_or, take}
use Rattle.octets.specs.Octets.{same_bytes}

unfoldable pub is_scalar : ℕ → Bool
is_scalar c = ltb c 0xD800 || leb 0xE000 c && leb c 0x10FFFF

-- RFC 3629, section 3: 0xxxxxxx; 110xxxxx 10xxxxxx; 1110xxxx and two such; 11110xxx and three
unfoldable pub utf8 : ℕ → List ℕ
utf8 c =
    elim (ltb c 0x80) [
      | true ↦ c ∷ []
      | false ↦ elim (ltb c 0x800) [
        | true ↦ (0xC0 + c / 64) ∷ (0x80 + c % 64) ∷ []
        | false ↦ elim (ltb c 0x10000) [
          | true ↦ (0xE0 + c / 4096) ∷ (0x80 + c / 64 % 64) ∷ (0x80 + c % 64) ∷ []
          | false ↦ (0xF0 + c / 262144) ∷ (0x80 + c / 4096 % 64) ∷ (0x80 + c / 64 % 64) ∷ (0x80 + c % 64) ∷ []
        ]
      ]
    ]

-- the definition by code points
pub data Utf8 : List ℕ → Type 0 where
  none : Utf8 []
  more : (c : ℕ) (bs : List ℕ) → is_scalar c ≡ true → Utf8 bs → Utf8 (utf8 c ++ bs)

-- the payload bits of the lead byte, then six of each byte that goes on with it
unfoldable pub point_of : List ℕ → ℕ
point_of bs =
    elim (ltb (get_or bs 0 0) 0x80) [
      | true ↦ get_or bs 0 0
      | false ↦ elim (ltb (get_or bs 0 0) 0xE0) [
        | true ↦ (get_or bs 0 0 - 0xC0) * 64 + (get_or bs 1 0 - 0x80)
        | false ↦ elim (ltb (get_or bs 0 0) 0xF0) [
          | true ↦ (get_or bs 0 0 - 0xE0) * 4096 + (get_or bs 1 0 - 0x80) * 64 + (get_or bs 2 0 - 0x80)
          | false ↦ (get_or bs 0 0 - 0xF0) * 262144 + (get_or bs 1 0 - 0x80) * 4096 + (get_or bs 2 0 - 0x80) * 64 + (get_or bs 3 0 - 0x80)
        ]
      ]
    ]

unfoldable pub stands : ℕ → List ℕ → Bool
stands c bs = is_scalar c && same_bytes (take (length (utf8 c)) bs) (utf8 c)

unfoldable pub lead_of : List ℕ → ℕ
lead_of bs = elim (stands (point_of bs) bs) [ true ↦ length (utf8 (point_of bs)) | false ↦ 0 ]

unfoldable pub utf8_from : ℕ → List ℕ → Bool
utf8_from skip [] = eqb skip 0
utf8_from (suc skip) (b ∷ bs) = utf8_from skip bs
utf8_from zero (b ∷ bs) = elim (lead_of (b ∷ bs)) [ zero ↦ false | suc n ↦ utf8_from n bs ]

unfoldable pub is_utf8 : List ℕ → Bool
is_utf8 bs = utf8_from 0 bs
