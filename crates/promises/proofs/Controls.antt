-- Closed cases of the option steps, which the checker computes: of each reply from 4 to 15 one or more, and of each rule one that holds.
-- Assumes nothing.
use Rattle.std.specs.Prelude.{◌≡◌, refl, List, [], ◌∷◌, ◌++◌, map, ℕ}
use Rattle.octets.specs.Ascii.{ascii}
use Rattle.reply.specs.declared.Where.TheVariants.{Nowhere, Option}
use Rattle.promises.proofs.Asking.{Example, asks, bytes, refused, stepped}
use Rattle.sheet.proofs.Sheets.{file, message, value, enum, extension_to, field_with}
use Rattle.promises.proofs.Sheets.{extension, field, field_to}
use Rattle.promises.proofs.Sheets.{request, option, direct, ext, boolean, unsigned, signed, float, string, ident, message_of}
use Rattle.promises.proofs.Sheets.{pair, pair_ext, pair_url, list}

-- ---- the sheets, small ones, since every look-up walks over all of its sheet: in the package o each has a message F of options
-- what F has of its own, the builtins
abbrev kinds : List ℕ
kinds = enum "K" (value "ONE" 1 ++ value "LOW" 4294967295)

abbrev builtins : List ℕ
builtins = file "o" (message "F" (field "flag" 3 8 ++ field "note" 1 9 ++ field_to "kind" 2 14 "o.K" ++ field_with 3 "many" 4 8 "" ++ field
    "size" 5 13) ++ kinds ++ extension "i" "o.F" 14 5)

-- extensions of numbers, and of the enum
abbrev scalars : List ℕ
scalars = file "o" (message "F" [] ++ kinds ++ extension_to "k" "o.F" 12 14 "o.K" ++ extension "i" "o.F" 14 5 ++ extension "z" "o.F" 15 17)

abbrev sizes : List ℕ
sizes = file "o" (message "F" [] ++ extension "x4" "o.F" 16 15 ++ extension "x8" "o.F" 17 6 ++ extension "f" "o.F" 18 2 ++ extension "d"
    "o.F" 19 1)

-- a message M of values
abbrev messages : List ℕ
messages = file "o" (message "F" [] ++ message "M" (field "v" 1 5 ++ field_to "in" 2 11 "o.M" ++ field_to "k" 4 14 "o.K" ++ field_to "g" 5
    10 "o.M") ++ kinds ++ extension_to "m" "o.F" 10 11 "o.M" ++ extension_to "in" "o.M" 20 11 "o.M")

abbrev texts : List ℕ
texts = file "o" (message "F" [] ++ message "M" (field "t" 6 9 ++ field "y" 7 12) ++ extension_to "m" "o.F" 10 11 "o.M" ++ extension_to "g"
    "o.F" 21 10 "o.M")

-- type paths that name nothing, and two messages
abbrev lost : List ℕ
lost = file "o" (message "F" (field "flag" 3 8) ++ extension_to "lost" "o.F" 11 11 "o.Nil" ++ extension_to "gone" "o.F" 13 14 "o.Nil" ++
    extension_to "twice" "o.F" 22 11 "o.T") ++ file "o" (message "T" []) ++ file "o" (message "T" [])

-- ---- the table
abbrev cases : List Example
cases =
    -- 4
    asks scalars (request "o" "o.F" (option (ext "nowhere") (boolean 1))) (refused 4 0 (Option 0 0))
    -- 5
    ∷ asks messages (request "o" "o.F" (option (ext "in") (boolean 1))) (refused 5 0 (Option 0 0))
    -- 6, of the first part
    ∷ asks scalars (request "o" "o.F" (option (ext "i" ++ direct "v") (unsigned 1))) (refused 6 0 (Option 0 0))
    -- 6, of the second part
    ∷ asks messages (request "o" "o.F" (option (ext "m" ++ direct "v" ++ direct "v") (unsigned 1))) (refused 6 0 (Option 0 1))
    -- 7, of the options type
    ∷ asks lost (request "o" "o.Nil" (option (direct "default") (boolean 1))) (refused 7 0 Nowhere)
    -- 7, of parts left
    ∷ asks lost (request "o" "o.F" (option (ext "lost" ++ direct "v") (unsigned 1))) (refused 7 0 (Option 0 0))
    -- 7, of an enum
    ∷ asks lost (request "o" "o.F" (option (ext "gone") (ident "ONE"))) (refused 7 0 (Option 0 0))
    -- 8
    ∷ asks lost (request "o" "o.F" (option (direct "flag") (boolean 1) ++ option (ext "twice") (message_of []))) (refused 8 0 (Option 1 0))
    -- 9, of a direct part
    ∷ asks messages (request "o" "o.F" (option (ext "m" ++ direct "w") (unsigned 1))) (refused 9 0 (Option 0 1))
    -- 9, of a pair
    ∷ asks messages (request "o" "o.F" (option (ext "m") (message_of (pair "v" (unsigned 1) ++ pair "w" (unsigned 1))))) (refused 9 0
    (Option 0 0))
    -- 10
    ∷ asks builtins (request "o" "o.F" (option (direct "none") (boolean 1))) (refused 10 0 (Option 0 0))
    -- 10, repeated
    ∷ asks builtins (request "o" "o.F" (option (direct "many") (boolean 1))) (refused 10 1 (Option 0 0))
    -- 11
    ∷ asks scalars (request "o" "o.F" (option (ext "i") (message_of []))) (refused 11 0 (Option 0 0))
    -- 11, on a group
    ∷ asks texts (request "o" "o.F" (option (ext "g") (message_of []))) (refused 11 0 (Option 0 0))
    -- 12, a bool on a message
    ∷ asks messages (request "o" "o.F" (option (ext "m") (boolean 1))) (refused 12 0 (Option 0 0))
    -- 12, a float on an integer
    ∷ asks scalars (request "o" "o.F" (option (ext "i") (float 0x3ff0000000000000))) (refused 12 0 (Option 0 0))
    -- 12, an unlisted name of a builtin
    ∷ asks builtins (request "o" "o.F" (option (direct "kind") (ident "TWO"))) (refused 12 0 (Option 0 0))
    -- 12, a builtin of another type
    ∷ asks builtins (request "o" "o.F" (option (direct "size") (unsigned 1))) (refused 12 0 (Option 0 0))
    -- 13
    ∷ asks scalars (request "o" "o.F" (option (ext "k") (ident "TWO"))) (refused 13 0 (Option 0 0))
    -- 14, at the least int32
    ∷ asks scalars (request "o" "o.F" (option (ext "i") (signed 0xffffffff80000000))) (bytes (0x70 ∷ 0x80 ∷ 0x80 ∷ 0x80 ∷ 0x80 ∷ 0xF8 ∷
    0xFF ∷ 0xFF ∷ 0xFF ∷ 0xFF ∷ 0x01 ∷ []))
    -- 14, below it
    ∷ asks scalars (request "o" "o.F" (option (ext "i") (signed 0xffffffff7fffffff))) (refused 14 0 (Option 0 0))
    -- 15
    ∷ asks texts (request "o" "o.F" (option (ext "m" ++ direct "t") (string (0xc0 ∷ 0x80 ∷ [])))) (refused 15 0 (Option 0 1))
    -- bytes take what a string does not
    ∷ asks texts (request "o" "o.F" (option (ext "m" ++ direct "y") (string (0xc0 ∷ 0x80 ∷ [])))) (bytes (0x52 ∷ 0x04 ∷ 0x3A ∷ 0x02 ∷
    0xC0 ∷ 0x80 ∷ []))
    -- nested parts
    ∷ asks messages (request "o" "o.F" (option (ext "m" ++ ext "in" ++ direct "in" ++ direct "v") (signed 0xffffffffffffffff))) (bytes
    (0x52 ∷ 0x10 ∷ 0xA2 ∷ 0x01 ∷ 0x0D ∷ 0x12 ∷ 0x0B ∷ 0x08 ∷ 0xFF ∷ 0xFF ∷ 0xFF ∷ 0xFF ∷ 0xFF ∷ 0xFF ∷ 0xFF ∷ 0xFF ∷ 0xFF ∷ 0x01 ∷
    []))
    -- parts left on a group
    ∷ asks messages (request "o" "o.F" (option (ext "m" ++ direct "g" ++ direct "none") (string (ascii "x")))) (bytes (0x52 ∷ 0x00 ∷ []))
    -- a list in a list
    ∷ asks scalars (request "o" "o.F" (option (ext "i") (list (unsigned 1 ++ list (unsigned 2 ++ list []) ++ unsigned 3)))) (bytes (0x70
    ∷ 0x01 ∷ 0x70 ∷ 0x02 ∷ 0x70 ∷ 0x03 ∷ []))
    -- an empty list on any type
    ∷ asks lost (request "o" "o.F" (option (ext "lost") (list []))) (bytes [])
    -- pairs by 27, 28 and 29
    ∷ asks messages (request "o" "o.F" (option (ext "m") (message_of (pair "v" (list (unsigned 1 ++ unsigned 2)) ++ pair_ext "o.none"
    (boolean 1) ++ pair_url "a/b" (unsigned 1) ++ pair "in" (message_of (pair "k" (ident "LOW"))))))) (bytes (0x52 ∷ 0x11 ∷ 0x08 ∷ 0x01
    ∷ 0x08 ∷ 0x02 ∷ 0x12 ∷ 0x0B ∷ 0x20 ∷ 0xFF ∷ 0xFF ∷ 0xFF ∷ 0xFF ∷ 0xFF ∷ 0xFF ∷ 0xFF ∷ 0xFF ∷ 0xFF ∷ 0x01 ∷ []))
    -- sint32
    ∷ asks scalars (request "o" "o.F" (option (ext "z") (signed 0xfffffffffffffffe))) (bytes (0x78 ∷ 0x03 ∷ []))
    -- sfixed32 and fixed64
    ∷ asks sizes (request "o" "o.F" (option (ext "x4") (signed 0xfffffffffffffffe) ++ option (ext "x8") (unsigned
    18446744073709551615))) (bytes (0x85 ∷ 0x01 ∷ 0xFE ∷ 0xFF ∷ 0xFF ∷ 0xFF ∷ 0x89 ∷ 0x01 ∷ 0xFF ∷ 0xFF ∷ 0xFF ∷ 0xFF ∷ 0xFF ∷ 0xFF ∷
    0xFF ∷ 0xFF ∷ []))
    -- an integer to float in one rounding
    ∷ asks sizes (request "o" "o.F" (option (ext "f") (unsigned 16777217))) (bytes (0x95 ∷ 0x01 ∷ 0x00 ∷ 0x00 ∷ 0x80 ∷ 0x4B ∷ []))
    -- a double to float, to infinity, NaN
    ∷ asks sizes (request "o" "o.F" (option (ext "f") (list (float 0x3fb999999999999a ++ float 0x47f0000000000000 ++ float
    0xfff0000000000001)))) (bytes (0x95 ∷ 0x01 ∷ 0xCD ∷ 0xCC ∷ 0xCC ∷ 0x3D ∷ 0x95 ∷ 0x01 ∷ 0x00 ∷ 0x00 ∷ 0x80 ∷ 0x7F ∷ 0x95 ∷ 0x01 ∷
    0x00 ∷ 0x00 ∷ 0xC0 ∷ 0x7F ∷ []))
    -- a NaN on double
    ∷ asks sizes (request "o" "o.F" (option (ext "d") (list (float 0xfff0000000000001 ++ signed 0xffffffffffffffff)))) (bytes (0x99 ∷
    0x01 ∷ 0x01 ∷ 0x00 ∷ 0x00 ∷ 0x00 ∷ 0x00 ∷ 0x00 ∷ 0xF0 ∷ 0xFF ∷ 0x99 ∷ 0x01 ∷ 0x00 ∷ 0x00 ∷ 0x00 ∷ 0x00 ∷ 0x00 ∷ 0x00 ∷ 0xF0 ∷ 0xBF
    ∷ []))
    -- a builtin set twice; known ones first, by number
    ∷ asks builtins (request "o" "o.F" (option (ext "i") (unsigned 1) ++ option (direct "flag") (boolean 1) ++ option (direct "note")
    (string (ascii "a")) ++ option (direct "flag") (boolean 0) ++ option (direct "kind") (ident "LOW") ++ option (ext "i") (unsigned
    2))) (bytes (0x0A ∷ 0x01 ∷ 0x61 ∷ 0x10 ∷ 0xFF ∷ 0xFF ∷ 0xFF ∷ 0xFF ∷ 0xFF ∷ 0xFF ∷ 0xFF ∷ 0xFF ∷ 0xFF ∷ 0x01 ∷ 0x18 ∷ 0x00 ∷ 0x70
    ∷ 0x01 ∷ 0x70 ∷ 0x02 ∷ []))
    -- two options never share a record
    ∷ asks messages (request "o" "o.F" (option (ext "m" ++ direct "v") (unsigned 1) ++ option (ext "m" ++ direct "k") (ident "ONE")))
    (bytes (0x52 ∷ 0x02 ∷ 0x08 ∷ 0x01 ∷ 0x52 ∷ 0x02 ∷ 0x20 ∷ 0x01 ∷ []))
    -- the first refused option ends the work
    ∷ asks scalars (request "o" "o.F" (option (ext "i") (unsigned 1) ++ option (ext "z") (ident "ONE") ++ option (ext "nowhere")
    (unsigned 1))) (refused 12 0 (Option 1 0))
    ∷ []

table : map stepped cases ≡ map (λ x. x.says) cases
unfolding stepped
table = refl
