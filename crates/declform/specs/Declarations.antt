-- What the leaves of an extension, a field and an enum value may hold, from 01's "Sheet and request". All of it is form (01, Replies: "all
-- other figures are form (1 or 2)"), so the order of the tests within one declaration shows in no answer.
--
--      in_range n most <=> n is 1 to `most`
--    good_type_path s h <=> the type path, where the type has one, is a path
--       good_shape s h <=> number, type, label and type path are what they may be
--       good_field s d <=> so is the name
--       is_field s a e <=> a field's payload is from a to e
--   is_extension s a e <=> an extension's payload is from a to e
--       is_value s a e <=> an enum value's payload is from a to e
--
-- Assumes nothing.
use Rattle.std.specs.Prelude.{Bool, true, false, ◌&&◌, List, ℕ, leb, Some, None}
use Rattle.limits.specs.Figures.{most_number, most_type, most_label}
use Rattle.ident.specs.Ident.{is_ident}
use Rattle.path.specs.Path.{is_rel_path}
use Rattle.field.specs.Leaf.{text}
use Rattle.sheet.specs.declared.declaration.Shape.{Shape}
use Rattle.sheet.specs.declared.declaration.Declaration.{Declaration}
use Rattle.sheet.specs.Declaration.{has_type_path, extension_at, message_field_at, value_at}

abbrev pub in_range : (n most : ℕ) → Bool
in_range n most = leb 1 n && leb n most

unfoldable pub good_type_path : (s : List ℕ) (shape : Shape) → Bool
good_type_path s h = elim (has_type_path h.typ) [ true ↦ is_rel_path (text s h.path) | false ↦ true ]

-- "Types 1 to 18 and labels 1 to 3 are descriptor.proto's. Field numbers are 1 to 536,870,911." [FORM-3, LIMIT-3]
unfoldable pub good_shape : (s : List ℕ) (shape : Shape) → Bool
good_shape s h =
    in_range h.number most_number && in_range h.typ most_type && in_range h.label most_label && good_type_path s h

unfoldable pub good_field : (s : List ℕ) (declaration : Declaration) → Bool
good_field s d = is_ident (text s d.name) && good_shape s d.shape

unfoldable pub is_field : (s : List ℕ) (from to : ℕ) → Bool
is_field s a e = elim (message_field_at s a e) [ Some d ↦ good_field s d | None ↦ false ]

unfoldable pub is_extension : (s : List ℕ) (from to : ℕ) → Bool
is_extension s a e =
    elim (extension_at s a e) [ Some d ↦ is_rel_path (text s d.extendee) && good_field s d | None ↦ false ]

unfoldable pub is_value : (s : List ℕ) (from to : ℕ) → Bool
is_value s a e = elim (value_at s a e) [ Some v ↦ is_ident (text s v.name) | None ↦ false ]
