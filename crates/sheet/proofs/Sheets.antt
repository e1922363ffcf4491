-- Builders of sheets, for the examples and the closed cases: written as 01's table of tags has them.
--
--              tagged t p == the field of the tag t and the payload p
--                  four n == the four bytes of a number
--             file p body == a file of the package p
--          message n body == a message of the name n
--              type_path p == the type path p, left out where it is empty
--          shaped k t l p == number, type, label and type path
--   extension_to n m k t p == an optional extension of the name n and of the message m
--     field_with l n k t p == a field of a message, of the label l and the name n
--         extension n m k == an extension that is an optional uint32
--               field n k == a field, likewise
--               value n k == a value of an enum, its number not negative
--           enum n values == an enum of the name n
--
-- Assumes nothing.
use Rattle.std.specs.Prelude.{List, [], ◌∷◌, ◌++◌, ℕ, ◌/◌, ◌%◌, length}
use Prim.Native.String.{String}
use Rattle.octets.specs.Ascii.{ascii}
use Rattle.sheet.specs.Table.{file_tag, message_tag, extension_tag, enum_tag, field_tag, value_tag, package_tag, name_tag}
use Rattle.sheet.specs.Table.{extendee_tag, number_tag, type_tag, label_tag, type_path_tag, signed_number_tag}

abbrev pub tagged : ℕ → List ℕ → List ℕ
tagged t p = t ∷ length p / 256 ∷ length p % 256 ∷ p

abbrev pub four : ℕ → List ℕ
four n = n / 16777216 ∷ n / 65536 % 256 ∷ n / 256 % 256 ∷ n % 256 ∷ []

abbrev pub file : String → List ℕ → List ℕ
file name body = tagged file_tag (tagged package_tag (ascii name) ++ body)

abbrev pub message : String → List ℕ → List ℕ
message name body = tagged message_tag (tagged name_tag (ascii name) ++ body)

abbrev type_path : List ℕ → List ℕ
type_path [] = []
type_path (c ∷ cs) = tagged type_path_tag (c ∷ cs)

abbrev shaped : ℕ → ℕ → ℕ → String → List ℕ
shaped n t l p = tagged number_tag (four n) ++ tagged type_tag (t ∷ []) ++ tagged label_tag (l ∷ []) ++ type_path (ascii p)

abbrev pub extension_to : String → String → ℕ → ℕ → String → List ℕ
extension_to name m n t p = tagged extension_tag (tagged name_tag (ascii name) ++ tagged extendee_tag (ascii m) ++ shaped n t 1 p)

abbrev pub field_with : ℕ → String → ℕ → ℕ → String → List ℕ
field_with l name n t p = tagged field_tag (tagged name_tag (ascii name) ++ shaped n t l p)

abbrev pub extension : String → String → ℕ → List ℕ
extension name m n = extension_to name m n 13 ""

abbrev pub field : String → ℕ → List ℕ
field name n = field_with 1 name n 13 ""

abbrev pub value : String → ℕ → List ℕ
value name n = tagged value_tag (tagged name_tag (ascii name) ++ tagged signed_number_tag (four n))

abbrev pub enum : String → List ℕ → List ℕ
enum name values = tagged enum_tag (tagged name_tag (ascii name) ++ values)
