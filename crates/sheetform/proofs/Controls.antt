-- Closed cases of the definitions, which the checker computes: of each rule one that holds, one at the limit and one refused just past it.
-- Assumes nothing.
use Rattle.std.specs.Prelude.{◌≡◌, refl, List, [], ◌∷◌, ◌++◌, map, ℕ, zero, suc, length}
use Rattle.octets.specs.Octets.{big_at}
use Rattle.ident.specs.Ident.{is_letter, is_digit, all_word, is_ident}
use Rattle.path.specs.Path.{on_first, split, components, all_ident, is_rel_path, is_rel_or_empty}
use Rattle.field.specs.Field.{field_at}
use Rattle.field.specs.Walk.{walk_by}
use Rattle.field.specs.Leaf.{leaf_at}
use Rattle.types.specs.Types.{TYPE_MESSAGE, TYPE_UINT32}
use Rattle.sheet.specs.Table.{file_tag, message_tag, extension_tag, enum_tag, field_tag, value_tag, package_tag, name_tag}
use Rattle.sheet.specs.Table.{extendee_tag, number_tag, type_tag, label_tag, type_path_tag, signed_number_tag}
use Rattle.sheet.specs.Declaration.{has_type_path, type_path_at, shape_at, extension_at, message_field_at, value_at}
use Rattle.declform.specs.Declarations.{good_type_path, good_shape, good_field, is_field, is_extension, is_value}
use Rattle.reply.specs.Verdicts.{beyond, Verdict, fine}
use Rattle.messageform.specs.Form.{bad_sheet, judge_value, judge_enum, judge_item, judge_items}
use Rattle.sheetform.specs.Form.{judge_file, judge_files, judge_length, judge_sheet}

-- a sheet's verdict, with all that it is computed by
verdict : List ℕ → Verdict
unfolding judge_sheet judge_length judge_files judge_file judge_items judge_item judge_enum judge_value is_extension is_field is_value good_field
    good_shape good_type_path extension_at message_field_at value_at shape_at type_path_at has_type_path leaf_at walk_by field_at big_at is_rel_or_empty is_rel_path
    all_ident components split on_first is_ident is_letter is_digit all_word
verdict = judge_sheet

-- a field of less than 256 bytes
abbrev a_field : ℕ → List ℕ → List ℕ
a_field tag payload = tag ∷ 0 ∷ length payload ∷ payload

-- ---- files: none, one that is cut, one with an empty package, one with no package, one with the package `.`
no-files : verdict [] ≡ fine
unfolding verdict
no-files = refl

cut : verdict (0x01 ∷ []) ≡ bad_sheet
unfolding verdict
cut = refl

empty-package : verdict (0x01 ∷ 0x00 ∷ 0x03 ∷ 0x10 ∷ 0x00 ∷ 0x00 ∷ []) ≡ fine
unfolding verdict
empty-package = refl

no-package : verdict (0x01 ∷ 0x00 ∷ 0x00 ∷ []) ≡ bad_sheet
unfolding verdict
no-package = refl

dot-package : verdict (0x01 ∷ 0x00 ∷ 0x04 ∷ 0x10 ∷ 0x00 ∷ 0x01 ∷ 0x2E ∷ []) ≡ bad_sheet
unfolding verdict
dot-package = refl

-- ---- 01, P1's sheet
P1 : verdict
    (0x01 ∷ 0x00 ∷ 0x20 ∷ 0x10 ∷ 0x00 ∷ 0x01 ∷ 0x70 ∷ 0x03 ∷ 0x00 ∷ 0x19 ∷ 0x11 ∷ 0x00 ∷ 0x01 ∷ 0x78 ∷ 0x12 ∷ 0x00 ∷ 0x03 ∷ 0x6F ∷ 0x2E
    ∷ 0x46 ∷ 0x13 ∷ 0x00 ∷ 0x04 ∷ 0x00 ∷ 0x00 ∷ 0x00 ∷ 0x05 ∷ 0x14 ∷ 0x00 ∷ 0x01 ∷ 0x0D ∷ 0x15 ∷ 0x00 ∷ 0x01 ∷ 0x01 ∷ 0x01 ∷ 0x00 ∷ 0x0B
    ∷ 0x10 ∷ 0x00 ∷ 0x01 ∷ 0x6F ∷ 0x02 ∷ 0x00 ∷ 0x04 ∷ 0x11 ∷ 0x00 ∷ 0x01 ∷ 0x46 ∷ [])
    ≡ fine
unfolding verdict
P1 = refl

-- ---- extensions and fields
abbrev file : List ℕ → List ℕ
file items = a_field file_tag (a_field package_tag [] ++ items)

abbrev message : List ℕ → List ℕ
message items = a_field message_tag (a_field name_tag (77 ∷ []) ++ items)

abbrev shape_of : List ℕ → ℕ → ℕ → List ℕ → List ℕ
shape_of number typ label path = a_field number_tag number ++ a_field type_tag (typ ∷ []) ++ a_field label_tag (label ∷ []) ++ path

abbrev an_extension : List ℕ → List ℕ
an_extension shape = a_field extension_tag (a_field name_tag (120 ∷ []) ++ a_field extendee_tag (77 ∷ []) ++ shape)

abbrev one : List ℕ
one = 0 ∷ 0 ∷ 0 ∷ 1 ∷ []

abbrev a_path : List ℕ
a_path = a_field type_path_tag (77 ∷ 46 ∷ 78 ∷ [])

-- a type path exactly for the types that have one
paths : map (λ (s : List ℕ). verdict (file (an_extension s)))
    (shape_of one TYPE_MESSAGE 1 a_path ∷ shape_of one TYPE_MESSAGE 1 [] ∷ shape_of one TYPE_UINT32 1 [] ∷ shape_of one TYPE_UINT32 1 a_path ∷ [])
    ≡ fine ∷ bad_sheet ∷ fine ∷ bad_sheet ∷ []
unfolding verdict
paths = refl

-- numbers are 1 to 536,870,911
numbers : map (λ (n : List ℕ). verdict (file (an_extension (shape_of n TYPE_UINT32 1 []))))
    ((0 ∷ 0 ∷ 0 ∷ 0 ∷ []) ∷ one ∷ (0x1F ∷ 0xFF ∷ 0xFF ∷ 0xFF ∷ []) ∷ (0x20 ∷ 0 ∷ 0 ∷ 0 ∷ []) ∷ [])
    ≡ bad_sheet ∷ fine ∷ fine ∷ bad_sheet ∷ []
unfolding verdict
numbers = refl

-- types are 1 to 18
types : map (λ (t : ℕ). verdict (file (an_extension (shape_of one t 1 [])))) (0 ∷ 1 ∷ 18 ∷ 19 ∷ [])
    ≡ bad_sheet ∷ fine ∷ fine ∷ bad_sheet ∷ []
unfolding verdict
types = refl

-- labels are 1 to 3
labels : map (λ (l : ℕ). verdict (file (an_extension (shape_of one TYPE_UINT32 l [])))) (0 ∷ 1 ∷ 3 ∷ 4 ∷ [])
    ≡ bad_sheet ∷ fine ∷ fine ∷ bad_sheet ∷ []
unfolding verdict
labels = refl

-- fields stand in messages alone
abbrev field : List ℕ
field = a_field field_tag (a_field name_tag (102 ∷ []) ++ shape_of one TYPE_UINT32 1 [])

fields : map verdict (file field ∷ file (message field) ∷ []) ≡ bad_sheet ∷ fine ∷ []
unfolding verdict
fields = refl

-- ---- enums: values, and nothing else
abbrev value : ℕ → List ℕ
value tag = a_field tag (a_field name_tag (118 ∷ []) ++ a_field signed_number_tag (0xFF ∷ 0xFF ∷ 0xFF ∷ 0xFF ∷ []))

abbrev an_enum : List ℕ → List ℕ
an_enum values = a_field enum_tag (a_field name_tag (69 ∷ []) ++ values)

enums : map (λ (v : List ℕ). verdict (file (an_enum v))) ([] ∷ (value value_tag ++ value value_tag) ∷ (value value_tag ++ value field_tag) ∷ [])
    ≡ fine ∷ fine ∷ bad_sheet ∷ []
unfolding verdict
enums = refl

-- ---- limits: 8 files, and a field that is no file is malformed where it stands; messages 16 deep
abbrev files : ℕ → List ℕ
files zero = []
files (suc n) = file [] ++ files n

many-files : map verdict (files 8 ∷ files 9 ∷ (files 8 ++ a_field message_tag []) ∷ []) ≡ fine ∷ beyond ∷ bad_sheet ∷ []
unfolding verdict
many-files = refl

abbrev deep : ℕ → List ℕ
deep zero = []
deep (suc n) = message (deep n)

deep-messages : map (λ (n : ℕ). verdict (file (deep n))) (16 ∷ 17 ∷ []) ≡ fine ∷ beyond ∷ []
unfolding verdict
deep-messages = refl

-- ---- the first fault from the front: a message too deep before a cut, a tag that is no item's before a message too deep
first-faults : map verdict ((file (deep 17) ++ file_tag ∷ []) ∷ file (a_field package_tag [] ++ deep 17) ∷ []) ≡ beyond ∷ bad_sheet ∷ []
unfolding verdict
first-faults = refl
