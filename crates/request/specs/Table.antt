-- The tags of a request, from 01's table in "Sheet and request" and the constants below it.
--
--   option_tag .. list_tag == the tag's number
--
-- Assumes nothing.
use Rattle.std.specs.Prelude.{ℕ}

abbrev pub option_tag : ℕ
option_tag = 0x08

abbrev pub scope_tag : ℕ
scope_tag = 0x18

abbrev pub options_type_tag : ℕ
options_type_tag = 0x19

abbrev pub direct_part_tag : ℕ
direct_part_tag = 0x1A

abbrev pub extension_part_tag : ℕ
extension_part_tag = 0x1B

abbrev pub bool_tag : ℕ
bool_tag = 0x20

abbrev pub unsigned_tag : ℕ
unsigned_tag = 0x21

abbrev pub signed_tag : ℕ
signed_tag = 0x22

abbrev pub float_tag : ℕ
float_tag = 0x23

abbrev pub string_tag : ℕ
string_tag = 0x24

abbrev pub ident_tag : ℕ
ident_tag = 0x25

abbrev pub message_constant_tag : ℕ
message_constant_tag = 0x26

abbrev pub pair_field_tag : ℕ
pair_field_tag = 0x27

abbrev pub pair_extension_tag : ℕ
pair_extension_tag = 0x28

abbrev pub pair_url_tag : ℕ
pair_url_tag = 0x29

abbrev pub list_tag : ℕ
list_tag = 0x2A
