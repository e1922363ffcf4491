-- 01's examples P1 to P9, as one table under one statement, which the checker computes: each is of the whole call, the tests of form too.
-- Assumes nothing.
use Rattle.std.specs.Prelude.{◌≡◌, refl, List, [], ◌∷◌, ◌++◌, map, ℕ}
use Rattle.reply.specs.declared.Where.TheVariants.{Option}
use Rattle.promises.proofs.Asking.{Example, asks, bytes, absent, refused, answer}
use Rattle.sheet.proofs.Sheets.{file, message}
use Rattle.promises.proofs.Sheets.{field_options, message_options, extension}
use Rattle.promises.proofs.Sheets.{request, option, direct, ext, unsigned}
use Rattle.promises.proofs.Sheets.{list}

-- ---- the sheets
abbrev google : List ℕ
google = file "google.protobuf" (message "FieldOptions" [] ++ message "MessageOptions" [])

-- P1's input, field by field
abbrev first : List ℕ
first = file "p" (extension "x" "o.F" 5 13) ++ file "o" (message "F" [])

-- "Package plant has `rank` 50001 (uint32) and message Dispatch with its own `rank` 50002, both on FieldOptions."
abbrev ranks : List ℕ
ranks = file "plant" (extension "rank" field_options 50001 13 ++ message "Dispatch" (extension "rank" field_options 50002 13)) ++ google

-- "Inner `rank` on MessageOptions"
abbrev otherwise : List ℕ
otherwise = file "plant" (extension "rank" field_options 50001 13 ++ message "Dispatch" (extension "rank" message_options 50002 13)) ++
    google

-- "No `rank`"
abbrev rankless : List ℕ
rankless = file "plant" (message "Dispatch" []) ++ google

-- "File 1, package a.b, `x` 101; file 2, package a, message b with `x` 102"
abbrev crossed : List ℕ
crossed = file "a.b" (extension "x" field_options 101 13) ++ file "a" (message "b" (extension "x" field_options 102 13)) ++ google

-- ---- the table
abbrev pub p1-to-p9 : List Example
p1-to-p9 =
    -- P1
    asks first (request "p" "o.F" (option (ext "x") (unsigned 7))) (bytes (0x28 ∷ 0x07 ∷ []))
    -- P2
    ∷ asks ranks (request "plant.Dispatch" field_options (option (ext "rank") (unsigned 7))) (bytes (0x90 ∷ 0xB5 ∷ 0x18 ∷ 0x07 ∷ []))
    -- P3
    ∷ asks ranks (request "plant.Dispatch" field_options (option (ext ".plant.rank") (unsigned 7))) (bytes (0x88 ∷ 0xB5 ∷ 0x18 ∷ 0x07 ∷
    []))
    -- P4
    ∷ asks ranks (request "plant.Other" field_options (option (ext "rank") (unsigned 7))) (bytes (0x88 ∷ 0xB5 ∷ 0x18 ∷ 0x07 ∷ []))
    -- P5
    ∷ asks otherwise (request "plant.Dispatch" field_options (option (ext "rank") (unsigned 7))) (refused 5 0 (Option 0 0))
    -- P6
    ∷ asks rankless (request "plant.Dispatch" field_options (option (ext "rank") (unsigned 7))) (refused 4 0 (Option 0 0))
    -- P7
    ∷ asks crossed (request "" field_options (option (ext ".a.b.x") (unsigned 7))) (bytes (0xB0 ∷ 0x06 ∷ 0x07 ∷ []))
    -- P8, no options
    ∷ asks google (request "" field_options []) absent
    -- P8, `default` alone
    ∷ asks google (request "" field_options (option (direct "default") (list []))) (bytes [])
    -- P9, at the limit
    ∷ asks ranks (request "" field_options (option (ext ".plant.rank") (unsigned 4294967295))) (bytes (0x88 ∷ 0xB5 ∷ 0x18 ∷ 0xFF ∷ 0xFF ∷
    0xFF ∷ 0xFF ∷ 0x0F ∷ []))
    -- P9, past it
    ∷ asks ranks (request "" field_options (option (ext ".plant.rank") (unsigned 4294967296))) (refused 14 0 (Option 0 0))
    ∷ []

pub table : map answer p1-to-p9 ≡ map (λ x. x.says) p1-to-p9
unfolding answer
table = refl
