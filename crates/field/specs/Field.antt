-- A field at a place, from 01's "Sheet and request": "fields of tag (1 byte), length (2), payload, numbers big-endian".
--
--             header == the bytes of a field before its payload
--        field t a e == the field of the tag t whose payload is a..e
--   field_at s at end == the field whose header starts at `at`, whole before `end`
--
-- Assumes nothing.
use Rattle.std.specs.Prelude.{true, false, List, ℕ, ◌+◌, ltb, get_or, None, Some, Option}
use Rattle.octets.specs.Octets.{big_at}
use Rattle.field.specs.declared.Field.{Field}

abbrev pub header : ℕ
header = 3

abbrev pub field : (tag from to : ℕ) → Field
field t a e = record { tag = t; from = a; to = e }

unfoldable pub field_at : (s : List ℕ) (at end : ℕ) → Option Field
field_at s at end =
    elim (ltb end (at + header)) [
      | true ↦ None
      | false ↦ elim (ltb end (at + header + big_at 2 s (at + 1))) [
        | true ↦ None
        | false ↦ Some (field (get_or s at 0) (at + header) (at + header + big_at 2 s (at + 1)))
      ]
    ]
