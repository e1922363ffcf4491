-- Hexadecimal text: two digits a byte, the higher first, either case; blanks and line ends are passed over.
--
--       blank, other ==  what digit_of gives for a blank or a line end, and for a byte that is no such thing and no digit
--          digit_of c ==  the value of a digit, or one of these
--          glyph_of d ==  the digit of a number below 16
--            Spelled ==  what a text spells: bytes, or why it spells none
--          front b d ==  a byte in front of what d spells
--   unhex at half cs ==  what the text cs, which begins at the place `at`, spells after the first digit `half` of a byte, or after none
--        decoded_of d ==  the code's answer for what a text spells
--   Decodes t l l' r <-> r is what the text t comes to, and where it spells bytes they are laid over l, which is l' then
--
-- Assumes nothing.
use Rattle.std.specs.Prelude.{◌≡◌, true, false, ◌&&◌, ◌||◌, List, [], ◌∷◌, ℕ, suc, ◌+◌, ◌-◌, ◌*◌, eqb, ltb, leb, length}
use Rattle.basis.specs.Kit.{sets}
use Rattle.hexadecimal.specs.declared.digits.Decoded.{Decoded}
use Rattle.hexadecimal.specs.declared.digits.Decoded.TheVariants.{Bytes, NoDigit, HalfByte}

abbrev pub blank : ℕ
blank = 16

abbrev pub other : ℕ
other = 17

-- `0` to `9`, `A` to `F`, `a` to `f`; the blank, the tab, the line feed and the carriage return
unfoldable pub digit_of : ℕ → ℕ
digit_of c =
    elim (leb 48 c && leb c 57) [
      | true ↦ c - 48
      | false ↦ elim (leb 65 c && leb c 70) [
        | true ↦ c - 65 + 10
        | false ↦ elim (leb 97 c && leb c 102) [
          | true ↦ c - 97 + 10
          | false ↦ elim (eqb c 32 || eqb c 9 || eqb c 10 || eqb c 13) [ true ↦ blank | false ↦ other ]
        ]
      ]
    ]

-- in upper case
unfoldable pub glyph_of : ℕ → ℕ
glyph_of d = elim (ltb d 10) [ true ↦ 48 + d | false ↦ 55 + d ]

-- what a text spells
pub data Spelled : Type 0 where
  bytes : List ℕ → Spelled
  no_digit : ℕ → Spelled
  half_byte : Spelled

abbrev pub front : ℕ → Spelled → Spelled
front b (bytes bs) = bytes (b ∷ bs)
front b (no_digit at) = no_digit at
front b half_byte = half_byte

unfoldable pub unhex : (at half : ℕ) (cs : List ℕ) → Spelled
unhex at half [] = elim (eqb half blank) [ true ↦ bytes [] | false ↦ half_byte ]
unhex at half (c ∷ cs) =
    elim (eqb (digit_of c) other) [
      | true ↦ no_digit at
      | false ↦ elim (eqb (digit_of c) blank) [
        | true ↦ unhex (suc at) half cs
        | false ↦ elim (eqb half blank) [
          | true ↦ unhex (suc at) (digit_of c) cs
          | false ↦ front (half * 16 + digit_of c) (unhex (suc at) blank cs)
        ]
      ]
    ]

abbrev pub decoded_of : Spelled → Decoded
decoded_of (bytes bs) = Bytes (length bs)
decoded_of (no_digit at) = NoDigit at
decoded_of half_byte = HalfByte

pub record Decodes (t l l' : List ℕ) (r : Decoded) : Type 0 where
  pub answer : r ≡ decoded_of (unhex 0 blank t)
  pub left : (bs : List ℕ) → unhex 0 blank t ≡ bytes bs → l' ≡ sets l 0 bs
