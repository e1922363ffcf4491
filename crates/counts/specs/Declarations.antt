-- How many declarations of a tag the tree of a sheet has.
--
--          one k t == 1 where the tags are the same
--    items_hold k i == how many of the tag k are among the items, at every depth
--   files_hold k fs == how many of the tag k the files have, the files themselves counted
--
-- Assumes nothing.
use Rattle.std.specs.Prelude.{true, false, List, [], ◌∷◌, ℕ, ◌+◌, ◌*◌, eqb, length}
use Rattle.sheet.specs.Table.{file_tag, message_tag, extension_tag, enum_tag, field_tag, value_tag}
use Rattle.sheet.specs.Tree.{Items, none, message, extension, enumeration, field, File}

abbrev pub one : (want tag : ℕ) → ℕ
one k t = elim (eqb k t) [ true ↦ 1 | false ↦ 0 ]

abbrev pub items_hold : ℕ → Items → ℕ
items_hold k none = 0
items_hold k (message n b i r) = one k message_tag + items_hold k i + items_hold k r
items_hold k (extension d r) = one k extension_tag + items_hold k r
items_hold k (enumeration n b vs r) = one k enum_tag + one k value_tag * length vs + items_hold k r
items_hold k (field d r) = one k field_tag + items_hold k r

abbrev pub files_hold : ℕ → List File → ℕ
files_hold k [] = 0
files_hold k (f ∷ fs) = one k file_tag + items_hold k f.items + files_hold k fs
