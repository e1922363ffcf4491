-- What the tree of fine items is like.
--
--   good_values s vs <=> every value's name is an identifier
--     good_items s i <=> every name, path, number, type and label among the items, at every depth, is what 01 allows
--        item_tags i ==  the tags of the items, in order
--
-- Assumes nothing.
use Rattle.std.specs.Prelude.{Bool, true, ◌&&◌, List, [], ◌∷◌, ℕ}
use Rattle.ident.specs.Ident.{is_ident}
use Rattle.path.specs.Path.{is_rel_path}
use Rattle.field.specs.Leaf.{text}
use Rattle.sheet.specs.declared.declaration.Value.{Value}
use Rattle.sheet.specs.Table.{message_tag, extension_tag, enum_tag, field_tag}
use Rattle.sheet.specs.Tree.{Items, none, message, extension, enumeration, field}
use Rattle.declform.specs.Declarations.{good_field}

abbrev pub good_values : (s : List ℕ) (values : List Value) → Bool
good_values s [] = true
good_values s (v ∷ vs) = is_ident (text s v.name) && good_values s vs

abbrev pub good_items : (s : List ℕ) (items : Items) → Bool
good_items s none = true
good_items s (message n b i r) = is_ident (text s n) && good_items s i && good_items s r
good_items s (extension d r) = is_rel_path (text s d.extendee) && good_field s d && good_items s r
good_items s (enumeration n b vs r) = is_ident (text s n) && good_values s vs && good_items s r
good_items s (field d r) = good_field s d && good_items s r

abbrev pub item_tags : Items → List ℕ
item_tags none = []
item_tags (message n b i r) = message_tag ∷ item_tags r
item_tags (extension d r) = extension_tag ∷ item_tags r
item_tags (enumeration n b vs r) = enum_tag ∷ item_tags r
item_tags (field d r) = field_tag ∷ item_tags r
