-- Extensions, fields and enum values as they are written, from 01's table: "content, in this order". What the leaves hold is judged with
-- the form of the sheet, and no reader needs that it was.
--
--          has_type_path t <=> the type t is a group, a message or an enum
--             last_at e l ==  the leaf l where it ends at e
--    type_path_at t s at e ==  the type path where the type t has one, and nothing after it
--      shape number .. p ==  a shape of the type path p
--         shape_at s at e ==  number, type, label and type path, from the place `at` up to the end e
--         declared_with n x h ==  the declaration of the name n, the extendee x and the shape h, where there is one
--      extension_at s a e ==  the extension whose payload is from a to e
--   message_field_at s a e ==  the field of a message whose payload is from a to e
--          value_at s a e ==  the enum value whose payload is from a to e
--
-- Assumes nothing.
use Rattle.std.specs.Prelude.{Bool, true, false, ◌||◌, List, ℕ, eqb, get_or, None, Some, Option}
use Rattle.basis.specs.First.{only_if}
use Rattle.octets.specs.Octets.{big_at}
use Rattle.field.specs.declared.Span.{Span}
use Rattle.field.specs.Leaf.{span, any_bytes, of_size, on_leaf, leaf_at}
use Rattle.types.specs.Types.{TYPE_GROUP, TYPE_MESSAGE, TYPE_ENUM}
use Rattle.sheet.specs.declared.declaration.Shape.{Shape}
use Rattle.sheet.specs.Table.{name_tag, extendee_tag, number_tag, type_tag, label_tag, type_path_tag, signed_number_tag}
use Rattle.sheet.specs.declared.declaration.Declaration.{Declaration}
use Rattle.sheet.specs.declared.declaration.Value.{Value}

-- "16 type path exactly for types 10, 11, 14" [FORM-7]
unfoldable pub has_type_path : ℕ → Bool
has_type_path t = eqb t TYPE_GROUP || eqb t TYPE_MESSAGE || eqb t TYPE_ENUM

abbrev pub last_at : ℕ → Option Span → Option Span
last_at end None = None
last_at end (Some p) = only_if (eqb p.to end) (Some p) None

unfoldable pub type_path_at : (typ : ℕ) (s : List ℕ) (at end : ℕ) → Option Span
type_path_at t s at end = elim (has_type_path t) [
  | true ↦ last_at end (leaf_at type_path_tag any_bytes s at end)
  | false ↦ only_if (eqb at end) (Some (span 0 0)) None
]

abbrev pub shape : (number typ label : ℕ) (path : Span) → Shape
shape number typ label p = record { number = number; typ = typ; label = label; path = p }

-- "13 number (4 bytes), 14 type, 15 label, 16 type path"; types and labels are one byte [FORM-2, FORM-3]
unfoldable pub shape_at : (s : List ℕ) (at end : ℕ) → Option Shape
shape_at s at end =
    on_leaf None (leaf_at number_tag (of_size 4) s at end) λ number.
    on_leaf None (leaf_at type_tag (of_size 1) s number.to end) λ typ.
    on_leaf None (leaf_at label_tag (of_size 1) s typ.to end) λ label.
    on_leaf None (type_path_at (get_or s typ.from 0) s label.to end) λ path.
    Some (shape (big_at 4 s number.from) (get_or s typ.from 0) (get_or s label.from 0) path)

abbrev pub declared_with : (name extendee : Span) → Option Shape → Option Declaration
declared_with name extendee None = None
declared_with name extendee (Some h) = Some (record { name = name; extendee = extendee; shape = h })

-- tag 03: "11, 12 extendee path, 13 number ..": name and extendee, then the shape [FORM-2]
unfoldable pub extension_at : (s : List ℕ) (from to : ℕ) → Option Declaration
extension_at s a e =
    on_leaf None (leaf_at name_tag any_bytes s a e) λ name.
    on_leaf None (leaf_at extendee_tag any_bytes s name.to e) λ extendee.
    declared_with name extendee (shape_at s extendee.to e)

-- tag 05: "as 03 without 12" [FORM-2]
unfoldable pub message_field_at : (s : List ℕ) (from to : ℕ) → Option Declaration
message_field_at s a e =
    on_leaf None (leaf_at name_tag any_bytes s a e) λ name.
    declared_with name (span 0 0) (shape_at s name.to e)

-- tag 06: "11, 17 signed number (4 bytes)" [FORM-2]
unfoldable pub value_at : (s : List ℕ) (from to : ℕ) → Option Value
value_at s a e =
    on_leaf None (leaf_at name_tag any_bytes s a e) λ name.
    on_leaf None (last_at e (leaf_at signed_number_tag (of_size 4) s name.to e)) λ number.
    Some (record { name = name; number = big_at 4 s number.from })
