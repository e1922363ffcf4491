-- What one field adds to a count of declarations of a tag.
--
--     declared_count d k t == 1 where there is a declaration, of the tag t, and k is that tag
--      value_count s t a e == 1 where a field of an enum is a value
--   item_count k d s t a e == how many of the tag k a field of a file or a message holds, itself counted, with d levels of messages left
--     file_count k s t a e == how many of the tag k a field of a sheet holds, itself counted
--
-- Assumes nothing.
use Rattle.std.specs.Prelude.{List, [], ℕ, length, Some, None, Option}
use Rattle.sheet.specs.Tree.{none, value_in, item_in, message_in, file_in}
use Rattle.counts.specs.Declarations.{one, items_hold, files_hold}
use Rattle.sheet.specs.declared.declaration.Declaration.{Declaration}

abbrev pub declared_count : Option Declaration → (want tag : ℕ) → ℕ
declared_count None k t = 0
declared_count (Some d) k t = one k t

abbrev pub value_count : (s : List ℕ) (tag from to : ℕ) → ℕ
value_count s t a e = length (value_in s t a e [])

abbrev pub item_count : (want left : ℕ) (s : List ℕ) (tag from to : ℕ) → ℕ
item_count k d s t a e = items_hold k (item_in (message_in d s) s t a e none)

abbrev pub file_count : (want : ℕ) (s : List ℕ) (tag from to : ℕ) → ℕ
file_count k s t a e = files_hold k (file_in s t a e [])
