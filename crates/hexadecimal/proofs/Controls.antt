-- Closed cases of the definitions, which the checker computes: of each range its two ends and what stands beside them; texts in either
-- case, with blanks and line ends anywhere, empty, ended within a byte, and with a character that is no digit.
-- Assumes nothing.
use Rattle.std.specs.Prelude.{◌≡◌, refl, List, [], ◌∷◌, map, ℕ}
use Rattle.octets.specs.Ascii.{ascii}
use Rattle.hexadecimal.specs.Digits.{blank, other, digit_of, Spelled, bytes, no_digit, half_byte, unhex}

-- ---- a byte: before the range, its first, its last, after it
figures : map digit_of (ascii "/09:") ≡ other ∷ 0 ∷ 9 ∷ other ∷ []
unfolding digit_of
figures = refl

upper : map digit_of (ascii "@AFG") ≡ other ∷ 10 ∷ 15 ∷ other ∷ []
unfolding digit_of
upper = refl

lower : map digit_of (ascii "`afg") ≡ other ∷ 10 ∷ 15 ∷ other ∷ []
unfolding digit_of
lower = refl

-- blank, tab, line feed, carriage return; beside them 8, 11, 12, 14, 31 and 33; the ends of a byte
blanks : map digit_of (32 ∷ 9 ∷ 10 ∷ 13 ∷ []) ≡ blank ∷ blank ∷ blank ∷ blank ∷ []
unfolding digit_of
blanks = refl

others : map digit_of (8 ∷ 11 ∷ 12 ∷ 14 ∷ 31 ∷ 33 ∷ 0 ∷ 255 ∷ []) ≡ other ∷ other ∷ other ∷ other ∷ other ∷ other ∷ other ∷ other ∷ []
unfolding digit_of
others = refl

-- ---- a text
spells : List ℕ → Spelled
spells t = unhex 0 blank t

-- the higher digit comes first, and either case will do, within one byte too
cases : map spells (ascii "1f" ∷ ascii "f1" ∷ ascii "aBCd" ∷ []) ≡ bytes (31 ∷ []) ∷ bytes (241 ∷ []) ∷ bytes (171 ∷ 205 ∷ []) ∷ []
unfolding spells unhex digit_of
cases = refl

ends-of-a-byte : spells (ascii "00fF") ≡ bytes (0 ∷ 255 ∷ [])
unfolding spells unhex digit_of
ends-of-a-byte = refl

-- blanks and line ends before, after and between bytes, and between the two digits of one
spaced : spells (ascii "\r\n 4\ta  4 b\n") ≡ bytes (74 ∷ 75 ∷ [])
unfolding spells unhex digit_of
spaced = refl

-- nothing, or nothing but blanks, spells no bytes
empty : map spells ([] ∷ ascii " \n" ∷ []) ≡ bytes [] ∷ bytes [] ∷ []
unfolding spells unhex digit_of
empty = refl

-- a digit alone, and one that only blanks follow
half : map spells (ascii "4a4" ∷ ascii "4 \n" ∷ []) ≡ half_byte ∷ half_byte ∷ []
unfolding spells unhex digit_of
half = refl

-- the place of the first bad character, which counts every byte of the text: at the start, within a byte, after blanks
bad : map spells (ascii "x0" ∷ ascii "4a4x" ∷ ascii " \n 4a,x" ∷ []) ≡ no_digit 0 ∷ no_digit 3 ∷ no_digit 5 ∷ []
unfolding spells unhex digit_of
bad = refl

-- it is told before half a byte is missed
bad-first : spells (ascii "4g4") ≡ no_digit 1
unfolding spells unhex digit_of
bad-first = refl
