-- Builders of sheets with types and labels, and of requests, for the examples and the closed cases: written as 01's table of tags has them.
-- What a sheet has besides comes from the crate `sheet`.
--
--               eight n == the eight bytes of a number
--     extension n m k t == an optional extension of the name n, the number k and the type t, of the message m
--        field, field_to == a field of a message, likewise
--   request c t options == a request of the scope c and the options type t
--    option parts const == an option; direct and ext are parts, pair, pair_ext and pair_url the pairs of a message constant
--
-- Assumes nothing.
use Rattle.std.specs.Prelude.{List, [], ◌∷◌, ◌++◌, ℕ, ◌/◌, ◌%◌}
use Prim.Native.String.{String}
use Rattle.octets.specs.Ascii.{ascii}
use Rattle.request.specs.Table as tags
use Rattle.sheet.proofs.Sheets.{tagged, four, extension_to, field_with}

-- ---- sheets
abbrev pub field_options : String
field_options = "google.protobuf.FieldOptions"

abbrev pub message_options : String
message_options = "google.protobuf.MessageOptions"

abbrev pub eight : ℕ → List ℕ
eight n = four (n / 4294967296) ++ four (n % 4294967296)

abbrev pub extension : String → String → ℕ → ℕ → List ℕ
extension name m n t = extension_to name m n t ""

abbrev pub field_to : String → ℕ → ℕ → String → List ℕ
field_to name n t p = field_with 1 name n t p

abbrev pub field : String → ℕ → ℕ → List ℕ
field name n t = field_with 1 name n t ""

-- ---- requests
abbrev pub request : String → String → List ℕ → List ℕ
request scope type options = tagged tags.scope_tag (ascii scope) ++ tagged tags.options_type_tag (ascii type) ++ options

abbrev pub option : List ℕ → List ℕ → List ℕ
option parts constant = tagged tags.option_tag (parts ++ constant)

abbrev pub direct : String → List ℕ
direct n = tagged tags.direct_part_tag (ascii n)

abbrev pub ext : String → List ℕ
ext n = tagged tags.extension_part_tag (ascii n)

abbrev pub boolean : ℕ → List ℕ
boolean b = tagged tags.bool_tag (b ∷ [])

abbrev pub unsigned : ℕ → List ℕ
unsigned n = tagged tags.unsigned_tag (eight n)

-- by its 64 bits
abbrev pub signed : ℕ → List ℕ
signed n = tagged tags.signed_tag (eight n)

abbrev pub float : ℕ → List ℕ
float n = tagged tags.float_tag (eight n)

abbrev pub string : List ℕ → List ℕ
string bs = tagged tags.string_tag bs

abbrev pub ident : String → List ℕ
ident n = tagged tags.ident_tag (ascii n)

abbrev pub message_of : List ℕ → List ℕ
message_of pairs = tagged tags.message_constant_tag pairs

abbrev pub pair : String → List ℕ → List ℕ
pair n c = tagged tags.pair_field_tag (ascii n) ++ c

abbrev pub pair_ext : String → List ℕ → List ℕ
pair_ext n c = tagged tags.pair_extension_tag (ascii n) ++ c

abbrev pub pair_url : String → List ℕ → List ℕ
pair_url n c = tagged tags.pair_url_tag (ascii n) ++ c

abbrev pub list : List ℕ → List ℕ
list cs = tagged tags.list_tag cs
