-- What the tree of a fine sheet is like.
--
--   good_files s fs <=> every name, path, number, type and label in the files is what 01 allows
--
-- Assumes nothing.
use Rattle.std.specs.Prelude.{Bool, true, ◌&&◌, List, [], ◌∷◌, ℕ}
use Rattle.path.specs.Path.{is_rel_or_empty}
use Rattle.field.specs.Leaf.{text}
use Rattle.sheet.specs.Tree.{File}
use Rattle.messageform.specs.Fine.{good_items}

abbrev pub good_files : (s : List ℕ) (files : List File) → Bool
good_files s [] = true
good_files s (f ∷ fs) = is_rel_or_empty (text s f.package_name) && good_items s f.items && good_files s fs
