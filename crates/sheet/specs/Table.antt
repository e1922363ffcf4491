-- The tags of a sheet, from 01's table in "Sheet and request".
--
--   file_tag .. signed_number_tag == the tag's number
--
-- Assumes nothing.
use Rattle.std.specs.Prelude.{ℕ}

abbrev pub file_tag : ℕ
file_tag = 0x01

abbrev pub message_tag : ℕ
message_tag = 0x02

abbrev pub extension_tag : ℕ
extension_tag = 0x03

abbrev pub enum_tag : ℕ
enum_tag = 0x04

abbrev pub field_tag : ℕ
field_tag = 0x05

abbrev pub value_tag : ℕ
value_tag = 0x06

abbrev pub package_tag : ℕ
package_tag = 0x10

abbrev pub name_tag : ℕ
name_tag = 0x11

abbrev pub extendee_tag : ℕ
extendee_tag = 0x12

abbrev pub number_tag : ℕ
number_tag = 0x13

abbrev pub type_tag : ℕ
type_tag = 0x14

abbrev pub label_tag : ℕ
label_tag = 0x15

abbrev pub type_path_tag : ℕ
type_path_tag = 0x16

abbrev pub signed_number_tag : ℕ
signed_number_tag = 0x17
