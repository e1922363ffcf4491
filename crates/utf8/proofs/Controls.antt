-- UTF-8: closed cases, of each rule one at the limit and one just past it.
-- Assumes nothing.
use Rattle.std.specs.Prelude.{◌≡◌, refl, true, false, List, [], ◌∷◌, map, ℕ}
use lib.ListN.{replicate}
use Rattle.octets.specs.Octets.{same_bytes}
use Rattle.utf8.specs.Utf8.{is_scalar, utf8, point_of, stands, lead_of, utf8_from, is_utf8}

-- RFC 3629, section 7: "A", NOT IDENTICAL TO, ALPHA; one of the three values of its second example; the byte order mark and STUMP OF TREE
written : map utf8 (0x41 ∷ 0x2262 ∷ 0x391 ∷ 0xD55C ∷ 0xFEFF ∷ 0x233B4 ∷ [])
    ≡ (0x41 ∷ []) ∷ (0xE2 ∷ 0x89 ∷ 0xA2 ∷ []) ∷ (0xCE ∷ 0x91 ∷ []) ∷ (0xED ∷ 0x95 ∷ 0x9C ∷ [])
    ∷ (0xEF ∷ 0xBB ∷ 0xBF ∷ []) ∷ (0xF0 ∷ 0xA3 ∷ 0x8E ∷ 0xB4 ∷ []) ∷ []
unfolding utf8
written = refl

scalars : map is_scalar (0xD7FF ∷ 0xD800 ∷ 0xDFFF ∷ 0xE000 ∷ 0x10FFFF ∷ 0x110000 ∷ []) ≡ true ∷ false ∷ false ∷ true ∷ true ∷ false ∷ []
unfolding is_scalar
scalars = refl

-- nothing, "a", and the first and the last value of each length and on either side of the surrogates
abbrev right : List (List ℕ)
right =
    []
    ∷ (0x61 ∷ [])
    ∷ (0xC2 ∷ 0x80 ∷ [])
    ∷ (0xDF ∷ 0xBF ∷ [])
    ∷ (0xE0 ∷ 0xA0 ∷ 0x80 ∷ [])
    ∷ (0xED ∷ 0x9F ∷ 0xBF ∷ [])
    ∷ (0xEE ∷ 0x80 ∷ 0x80 ∷ [])
    ∷ (0xEF ∷ 0xBF ∷ 0xBF ∷ [])
    ∷ (0xF0 ∷ 0x90 ∷ 0x80 ∷ 0x80 ∷ [])
    ∷ (0xF4 ∷ 0x8F ∷ 0xBF ∷ 0xBF ∷ [])
    ∷ []

-- overlong, a surrogate, above U+10FFFF, a byte that goes on with nothing, cut, and no byte of UTF-8
abbrev wrong : List (List ℕ)
wrong =
    (0xC0 ∷ 0x80 ∷ [])
    ∷ (0xC1 ∷ 0xBF ∷ [])
    ∷ (0xE0 ∷ 0x9F ∷ 0xBF ∷ [])
    ∷ (0xED ∷ 0xA0 ∷ 0x80 ∷ [])
    ∷ (0xF0 ∷ 0x8F ∷ 0xBF ∷ 0xBF ∷ [])
    ∷ (0xF4 ∷ 0x90 ∷ 0x80 ∷ 0x80 ∷ [])
    ∷ (0xF5 ∷ 0x80 ∷ 0x80 ∷ 0x80 ∷ [])
    ∷ (0x80 ∷ [])
    ∷ (0xC2 ∷ [])
    ∷ (0xE2 ∷ 0x82 ∷ [])
    ∷ (0xFF ∷ [])
    ∷ []

holds : map is_utf8 right ≡ replicate 10 true
unfolding is_utf8 utf8_from lead_of stands point_of utf8 is_scalar same_bytes
holds = refl

refused : map is_utf8 wrong ≡ replicate 11 false
unfolding is_utf8 utf8_from lead_of stands point_of utf8 is_scalar same_bytes
refused = refl
