-- The tree that a sheet's bytes stand for, whatever they are: what is no declaration as 01's table writes it, and a message deeper than
-- 01 allows, is left out (a field that stands in a file by itself is kept: no fine sheet has one). Of a sheet that is fine nothing is
-- left out.
--
--                        Items == what a file or a message holds, in order: the first one, and what follows it
--                         File == a package, and what the file holds
--         value_in s t a e rest == the enum value that a field is, and what follows it
--                value_onto v rest == an enum value, where there is one, and what follows it
--                 values_in s w == the values among the fields w
--            enum_in s a e rest == the enum whose payload is from a to e, and what follows it
--           extension_in d rest == an extension, where there is one, and what follows it
--               field_in d rest == a field, where there is one, and what follows it
--    item_in inner s t a e rest == the item that a field is, `inner` reading a message, and what follows it
--          items_with inner s w == the items among the fields w, `inner` reading a message
--       message_in d s a e rest == the message whose payload is from a to e, with d levels of messages left, and what follows it
--                items_in d s w == the items among the fields w, with d levels of messages left
--               file_with p b i == the file of the package p, the body b and the items i
--          file_in s t a e rest == the file that a field is, and what follows it
--                  files_in s w == the files among the fields w
--                     tree_of s == the files of a sheet, in order
--
-- Assumes nothing.
use Rattle.std.specs.Prelude.{true, false, List, [], ◌∷◌, ℕ, zero, suc, eqb, length, None, Option, Some}
use Rattle.limits.specs.Figures.{most_messages}
use Rattle.field.specs.declared.Span.{Span}
use Rattle.field.specs.Leaf.{span, any_bytes, on_leaf, leaf_at}
use Rattle.field.specs.Walk.{Walk, done, cut, step, walk}
use Rattle.sheet.specs.declared.declaration.Declaration.{Declaration}
use Rattle.sheet.specs.declared.declaration.Value.{Value}
use Rattle.sheet.specs.Table.{file_tag, message_tag, extension_tag, enum_tag, field_tag, value_tag, package_tag, name_tag}
use Rattle.sheet.specs.Declaration.{extension_at, message_field_at, value_at}

-- names, bodies (what stands after the name) and declarations hold places of the sheet
pub data Items : Type 0 where
  none : Items
  message : (name body : Span) (inside rest : Items) → Items
  extension : Declaration → (rest : Items) → Items
  enumeration : (name body : Span) → List Value → (rest : Items) → Items
  field : Declaration → (rest : Items) → Items

-- 01: "A sheet is files or none, the current one first, then its dependencies"; a file's index is its place in the list [FORM-8, READ-2]
pub record File : Type 0 where
  pub package_name : Span
  pub body : Span
  pub items : Items

abbrev pub value_onto : Option Value → List Value → List Value
value_onto None rest = rest
value_onto (Some v) rest = v ∷ rest

unfoldable pub value_in : (s : List ℕ) (tag from to : ℕ) (rest : List Value) → List Value
value_in s t a e rest = elim (eqb t value_tag) [ true ↦ value_onto (value_at s a e) rest | false ↦ rest ]

abbrev pub values_in : List ℕ → Walk → List Value
values_in s done = []
values_in s cut = []
values_in s (step t a e w) = value_in s t a e (values_in s w)

-- tag 04: "11, then 06 values" [FORM-2, READ-3]
abbrev pub enum_in : (s : List ℕ) (from to : ℕ) (rest : Items) → Items
enum_in s a e rest = on_leaf rest (leaf_at name_tag any_bytes s a e) λ name. enumeration name (span name.to e) (values_in s (walk s name.to e)) rest

abbrev pub extension_in : Option Declaration → Items → Items
extension_in None rest = rest
extension_in (Some d) rest = extension d rest

abbrev pub field_in : Option Declaration → Items → Items
field_in None rest = rest
field_in (Some d) rest = field d rest

-- one field of a file or a message, where `inner` reads a message
unfoldable pub item_in : (inner : (from to : ℕ) → Items → Items) (s : List ℕ) (tag from to : ℕ) (rest : Items) → Items
item_in inner s t a e rest = elim (eqb t message_tag) [
  | true ↦ inner a e rest
  | false ↦ elim (eqb t extension_tag) [
    | true ↦ extension_in (extension_at s a e) rest
    | false ↦ elim (eqb t enum_tag) [
      | true ↦ enum_in s a e rest
      | false ↦ elim (eqb t field_tag) [ true ↦ field_in (message_field_at s a e) rest | false ↦ rest ]
    ]
  ]
]

abbrev pub items_with : (inner : (from to : ℕ) → Items → Items) (s : List ℕ) → Walk → Items
items_with inner s done = none
items_with inner s cut = none
items_with inner s (step t a e w) = item_in inner s t a e (items_with inner s w)

-- tag 02: "11 name, then any of 02, 03, 04, 05"; "The outermost message .. is depth 1" [FORM-2, LIMIT-2, READ-3]
abbrev pub message_in : (left : ℕ) (s : List ℕ) (from to : ℕ) (rest : Items) → Items
message_in zero s a e rest = rest
message_in (suc d) s a e rest =
    on_leaf rest (leaf_at name_tag any_bytes s a e) λ name. message name (span name.to e) (items_with (message_in d s) s (walk s name.to e)) rest

unfoldable pub items_in : (left : ℕ) (s : List ℕ) → Walk → Items
items_in d s w = items_with (message_in d s) s w

abbrev pub file_with : (package_name body : Span) → Items → File
file_with p b i = record { package_name = p; body = b; items = i }

-- tag 01: "10 package, then any of 02, 03, 04" [FORM-2, READ-3]
unfoldable pub file_in : (s : List ℕ) (tag from to : ℕ) (rest : List File) → List File
file_in s t a e rest = elim (eqb t file_tag) [
  | true ↦ on_leaf rest (leaf_at package_tag any_bytes s a e) λ pack. file_with pack (span pack.to e) (items_in most_messages s (walk s pack.to e)) ∷ rest
  | false ↦ rest
]

abbrev pub files_in : List ℕ → Walk → List File
files_in s done = []
files_in s cut = []
files_in s (step t a e w) = file_in s t a e (files_in s w)

unfoldable pub tree_of : List ℕ → List File
tree_of s = files_in s (walk s 0 (length s))
