-- Closed cases of the scopes at a path, which the checker computes: of each rule cases that hold, cases at its border, and paths that have
-- no scope.
-- Assumes nothing.
use Rattle.std.specs.Prelude.{◌≡◌, refl, List, [], ◌∷◌, ◌++◌, map, ℕ}
use Prim.Native.String.{String}
use Rattle.octets.specs.Octets.{big_at, same_bytes}
use Rattle.octets.specs.Ascii.{ascii}
use Rattle.field.specs.Field.{field_at}
use Rattle.field.specs.Leaf.{leaf_at}
use Rattle.field.specs.Walk.{walk_by}
use Rattle.path.specs.Path.{on_first, split, components, spell}
use Rattle.sheet.specs.Declaration.{has_type_path, type_path_at, shape_at, extension_at, message_field_at, value_at}
use Rattle.sheet.specs.Tree.{value_in, item_in, items_in, file_in, tree_of}
use Rattle.scopes.specs.Scopes.{scopes}
use Rattle.sheet.proofs.Sheets.{file, message}

-- a sheet, a path in it, and the indices of the files of the scopes there
record Case : Type 0 where
  sheet : List ℕ
  path : String
  says : List ℕ

abbrev at : List ℕ → String → List ℕ → Case
at s p a = record { sheet = s; path = p; says = a }

places_at : Case → List ℕ
unfolding scopes components split on_first spell same_bytes tree_of file_in items_in item_in value_in extension_at message_field_at value_at
    shape_at type_path_at has_type_path walk_by leaf_at field_at big_at
places_at x = map (λ c. c.place.file) (scopes x.sheet (components (ascii x.path)))

abbrev three : List ℕ
three = file "a.b" [] ++ file "a" (message "b" []) ++ file "" (message "a" (message "b" []))

places : List Case
places =
    -- fewest package components first
    at three "a.b" (2 ∷ 1 ∷ 0 ∷ [])
    -- then the order of the files
    ∷ at (three ++ three) "a.b" (2 ∷ 5 ∷ 1 ∷ 4 ∷ 0 ∷ 3 ∷ [])
    -- of a shorter path: the package a.b does not lead it
    ∷ at three "a" (2 ∷ 1 ∷ [])
    -- of the empty path: the files without a package
    ∷ at three "" (2 ∷ [])
    -- a message of the path twice in one file gives one scope
    ∷ at (file "a" (message "b" [] ++ message "b" [])) "a.b" (0 ∷ [])
    -- no scope
    ∷ at three "b" []
    ∷ at three "a.b.c" []
    ∷ at [] "" []
    ∷ []

places-ordered : map places_at places ≡ map (λ x. x.says) places
unfolding places_at places
places-ordered = refl
