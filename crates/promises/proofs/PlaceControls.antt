-- Closed cases of where a request is refused, which the checker computes: each row of 02's request [9] and its readings, of the whole call,
-- the tests of form too, with a case just beside it.
-- Assumes nothing.
use Rattle.std.specs.Prelude.{◌≡◌, refl, List, [], ◌∷◌, ◌++◌, map, ℕ, zero, suc}
use Rattle.reply.specs.declared.Where.TheVariants.{Nowhere, Option}
use Rattle.promises.proofs.Asking.{Example, asks, bytes, absent, refused, answer}
use Rattle.sheet.proofs.Sheets.{file, message, value, enum, extension_to}
use Rattle.promises.proofs.Sheets.{extension, field, field_to}
use Rattle.promises.proofs.Sheets.{request, option, direct, ext, boolean, unsigned, string, ident, message_of, pair, list}

-- F are the options; x is a uint32, m a message M, which has itself inside as `in`, and declarations whose type path names nothing, or two
abbrev sheet : List ℕ
sheet = file "o" (message "F" (field "flag" 3 8 ++ field "note" 1 9 ++ field_to "kind" 2 14 "o.Nil" ++ field_to "kinds" 6 14 "o.T") ++ extension
    "x" "o.F" 5 13 ++ extension_to "m" "o.F" 10 11 "o.M" ++ message "M" (field "v" 1 13 ++ field "t" 2 9 ++ field_to "in" 4 11 "o.M" ++
    field_to "lost" 7 11 "o.Nil" ++ field_to "twice" 8 11 "o.D" ++ field_to "gone" 9 14 "o.Nil")) ++ file "o" (message "D" [] ++ enum "T"
    (value "A" 1)) ++ file "o" (message "D" [] ++ enum "T" (value "A" 1))

abbrev ask : List ℕ → List ℕ
ask os = request "o" "o.F" os

abbrev good : List ℕ
good = option (ext "x") (unsigned 7)

abbrev bad : List ℕ
bad = option (ext "x" ++ direct "y") (unsigned 7)

-- so many parts `in`
abbrev ins : ℕ → List ℕ
ins zero = []
ins (suc n) = direct "in" ++ ins n

-- ---- the part at fault
abbrev parts : List Example
parts =
    -- 4 and 5 at the extension part, 9 at the direct one
    asks sheet (ask (option (ext "none") (unsigned 1))) (refused 4 0 (Option 0 0))
    ∷ asks sheet (ask (option (ext "m" ++ ext "none") (unsigned 1))) (refused 4 0 (Option 0 1))
    ∷ asks sheet (ask (option (ext "m" ++ ext "x") (unsigned 1))) (refused 5 0 (Option 0 1))
    ∷ asks sheet (ask (option (ext "m" ++ direct "in" ++ direct "w" ++ direct "v") (unsigned 1))) (refused 9 0 (Option 0 2))
    -- 6 at the part whose declaration has that type, not the one after it; beside it the part alone
    ∷ asks sheet (ask bad) (refused 6 0 (Option 0 0))
    ∷ asks sheet (ask good) (bytes (0x28 ∷ 0x07 ∷ []))
    ∷ asks sheet (ask (option (ext "m" ++ direct "v" ++ direct "y" ++ direct "y") (unsigned 1))) (refused 6 0 (Option 0 1))
    -- 7 and 8 where parts are left
    ∷ asks sheet (ask (option (ext "m" ++ direct "lost" ++ direct "v") (unsigned 1))) (refused 7 0 (Option 0 1))
    ∷ asks sheet (ask (option (ext "m" ++ direct "twice" ++ direct "v") (unsigned 1))) (refused 8 0 (Option 0 1))
    -- the constant at the last part, at any depth: in a list
    ∷ asks sheet (ask (option (ext "m" ++ direct "v") (list (unsigned 1 ++ string (0x71 ∷ []))))) (refused 12 0 (Option 0 1))
    ∷ asks sheet (ask (option (ext "m" ++ direct "v") (list (unsigned 1 ++ unsigned 2)))) (bytes (0x52 ∷ 0x04 ∷ 0x08 ∷ 0x01 ∷ 0x08 ∷ 0x02
    ∷ []))
    -- in a message constant: 9, 12, 14, 15, and 7 of an enum and of a message
    ∷ asks sheet (ask (option (ext "m" ++ direct "in") (message_of (pair "in" (message_of (pair "w" (unsigned 1))))))) (refused 9 0 (Option 0
    1))
    ∷ asks sheet (ask (option (ext "m") (message_of (pair "in" (list (message_of (pair "v" (boolean 1)))))))) (refused 12 0 (Option 0 0))
    ∷ asks sheet (ask (option (ext "m" ++ direct "in") (message_of (pair "v" (unsigned 4294967296))))) (refused 14 0 (Option 0 1))
    ∷ asks sheet (ask (option (ext "m" ++ direct "in" ++ direct "t") (string (0xFF ∷ [])))) (refused 15 0 (Option 0 2))
    ∷ asks sheet (ask (option (ext "m") (message_of (pair "gone" (ident "A"))))) (refused 7 0 (Option 0 0))
    ∷ asks sheet (ask (option (ext "m" ++ direct "in") (message_of (pair "twice" (message_of []))))) (refused 8 0 (Option 0 1))
    ∷ asks sheet (ask (option (ext "m" ++ direct "v") (message_of []))) (refused 11 0 (Option 0 1))
    -- a builtin's is 0: 10, 12, 15, and its enum's 7 and 8; of one set twice, the option that is refused itself
    ∷ asks sheet (ask (good ++ option (direct "none") (boolean 1))) (refused 10 0 (Option 1 0))
    ∷ asks sheet (ask (option (direct "flag") (boolean 1) ++ option (direct "flag") (unsigned 1))) (refused 12 0 (Option 1 0))
    ∷ asks sheet (ask (option (direct "note") (string (0xFF ∷ [])))) (refused 15 0 (Option 0 0))
    ∷ asks sheet (ask (good ++ option (direct "kind") (ident "A"))) (refused 7 0 (Option 1 0))
    ∷ asks sheet (ask (good ++ option (direct "kinds") (ident "A"))) (refused 8 0 (Option 1 0))
    ∷ []

pub at-parts : map answer parts ≡ map (λ x. x.says) parts
unfolding answer
at-parts = refl

-- ---- the option, and what has none
abbrev options : List Example
options =
    -- a bad option behind two good ones; the first of two bad ones; all good
    asks sheet (ask (good ++ good ++ bad)) (refused 6 0 (Option 2 0))
    ∷ asks sheet (ask (good ++ bad ++ option (ext "none") (unsigned 1))) (refused 6 0 (Option 1 0))
    ∷ asks sheet (ask (good ++ good)) (bytes (0x28 ∷ 0x07 ∷ 0x28 ∷ 0x07 ∷ []))
    -- the same request with a 17th part in option 0 is 3 and nowhere; with a 16th it is as it was
    ∷ asks sheet (ask (option (ext "m" ++ ins 15 ++ direct "v") (unsigned 1) ++ good ++ bad)) (refused 3 0 Nowhere)
    ∷ asks sheet (ask (option (ext "m" ++ ins 14 ++ direct "w") (unsigned 1) ++ good ++ bad)) (refused 9 0 (Option 0 15))
    -- a fault of form inside the last option, a bool of 2, comes before the steps of the first
    ∷ asks sheet (ask (bad ++ option (ext "x") (boolean 2))) (refused 2 0 Nowhere)
    ∷ asks sheet (ask (bad ++ option (ext "x") (boolean 1))) (refused 6 0 (Option 0 0))
    -- the options type's 7 and 8, the sheet's 1, Absent
    ∷ asks sheet (request "o" "o.Nil" bad) (refused 7 0 Nowhere)
    ∷ asks sheet (request "o" "o.D" bad) (refused 8 0 Nowhere)
    ∷ asks (0x01 ∷ []) (ask bad) (refused 1 0 Nowhere)
    ∷ asks sheet (ask []) absent
    ∷ []

pub at-options : map answer options ≡ map (λ x. x.says) options
unfolding answer
at-options = refl
