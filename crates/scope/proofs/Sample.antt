-- The sheet of the controls of scopes and of numbers, and how it is looked into.
-- Assumes nothing.
use Rattle.std.specs.Prelude.{false, List, [], ◌∷◌, ◌++◌, ℕ, length, Option, None, Some}
use Rattle.octets.specs.Octets.{same_bytes, big_at}
use Rattle.basis.specs.First.{given}
use Rattle.field.specs.Field.{field_at}
use Rattle.field.specs.Leaf.{span, leaf_at}
use Rattle.field.specs.Walk.{walk_by}
use Rattle.sheet.specs.declared.declaration.Declaration.{Declaration}
use Rattle.sheet.specs.Table.{file_tag, message_tag, extension_tag, enum_tag, field_tag, value_tag, package_tag, name_tag}
use Rattle.sheet.specs.Table.{extendee_tag, number_tag, type_tag, label_tag, signed_number_tag}
use Rattle.sheet.specs.Declaration.{has_type_path, type_path_at, shape_at, extension_at, message_field_at, value_at}
use Rattle.sheet.specs.Tree.{value_in, item_in, items_in, file_in, tree_of}
use Rattle.scope.specs.Scope.{Scope, holding, down}

-- ---- a sheet: fields of less than 256 bytes, names of one letter
abbrev pub a_field : ℕ → List ℕ → List ℕ
a_field tag payload = tag ∷ 0 ∷ length payload ∷ payload

abbrev pub of_name : ℕ → ℕ → List ℕ → List ℕ
of_name tag letter payload = a_field tag (a_field name_tag (letter ∷ []) ++ payload)

abbrev pub of_number : ℕ → List ℕ
of_number k = a_field number_tag (0 ∷ 0 ∷ 0 ∷ k ∷ []) ++ a_field type_tag (13 ∷ []) ++ a_field label_tag (1 ∷ [])

abbrev pub extension : ℕ → List ℕ → ℕ → List ℕ
extension letter of k = of_name extension_tag letter (a_field extendee_tag of ++ of_number k)

abbrev pub value : ℕ → ℕ → List ℕ
value letter k = of_name value_tag letter (a_field signed_number_tag (0 ∷ 0 ∷ 0 ∷ k ∷ []))

-- `p.M` and `p.M.N`
abbrev pub name_m : List ℕ
name_m = 112 ∷ 46 ∷ 77 ∷ []

abbrev pub name_n : List ℕ
name_n = name_m ++ 46 ∷ 78 ∷ []

-- in the package p a message M with the extension x = 7 of M, the fields f = 5 and f = 6, the enum E of a = 1, a = 2 and b = 3, and the
-- message N; a second M; the enums D and D; the extensions x = 7 and y = 5 of M, and y = 9 of N
abbrev pub sheet : List ℕ
sheet =
    a_field file_tag (a_field package_tag (112 ∷ [])
    ++ of_name message_tag 77 (extension 120 name_m 7 ++ of_name field_tag 102 (of_number 5) ++ of_name field_tag 102 (of_number 6)
    ++ of_name enum_tag 69 (value 97 1 ++ value 97 2 ++ value 98 3) ++ of_name message_tag 78 [])
    ++ of_name message_tag 77 [] ++ of_name enum_tag 68 [] ++ of_name enum_tag 68 []
    ++ extension 120 name_m 7 ++ extension 121 name_m 5 ++ extension 121 name_n 9)

-- the file with so many levels of messages left, and all that it is computed by
unfoldable pub file : ℕ → Scope
unfolding tree_of file_in items_in item_in value_in extension_at message_field_at value_at shape_at type_path_at has_type_path walk_by leaf_at field_at
    same_bytes big_at
file left = holding sheet (record { file = 0; message = false; body = span 7 (length sheet); left = left })

abbrev pub in_m : {A : Type 0} → (Scope → Option A) → Option A
in_m k = given (down sheet (77 ∷ []) (file 16)) k

abbrev pub in_n : {A : Type 0} → (Scope → Option A) → Option A
in_n k = in_m λ c. given (down sheet (78 ∷ []) c) k

-- of a declaration where its name stands, and its number
abbrev pub declares : Option Declaration → List ℕ
declares None = []
declares (Some d) = d.name.from ∷ d.shape.number ∷ []
