-- The scopes at a path, from 01's "The search".
--
--           follow s ns c == the scope that the message names ns lead to from the scope c
--      scope_in s p ns i f == the scope that the i-th file gives: its package is the text p, and the names ns are followed
--    scopes_in s p ns i fs == the scopes that files give, the i-th file first
--   scopes_from s front ns == the scopes at the path `front ++ ns`, of the files whose package has these components `front`, or more
--              scopes s p == the scopes at the path p, in order
--
-- Assumes nothing.
use Rattle.std.specs.Prelude.{List, [], ◌∷◌, ◌++◌, ℕ, ◌+◌, Option, None, Some}
use Rattle.field.specs.Leaf.{is_text}
use Rattle.path.specs.Path.{Path, spell}
use Rattle.sheet.specs.Tree.{File, tree_of}
use Rattle.basis.specs.First.{only_if, given, onto}
use Rattle.scope.specs.Scope.{Scope, file_scope, down}

-- "follows the rest as message names, the first of that name at each level; if all are found, it gives one scope" [SEARCH-1, SEARCH-2]
abbrev pub follow : (s : List ℕ) (names : Path) → Scope → Option Scope
follow s [] c = Some c
follow s (n ∷ ns) c = given (down s n c) (follow s ns)

-- paths are compared as they are written: two paths of identifiers are the same where their texts are
abbrev pub scope_in : (s front : List ℕ) (names : Path) (index : ℕ) → File → Option Scope
scope_in s p ns i f = only_if (is_text s p f.package_name) (follow s ns (file_scope i f)) None

abbrev pub scopes_in : (s front : List ℕ) (names : Path) (index : ℕ) → List File → List Scope
scopes_in s p ns i [] = []
scopes_in s p ns i (f ∷ fs) = onto (scope_in s p ns i f) (scopes_in s p ns (i + 1) fs)

-- "each file whose package (empty included) leads the path's components"; "Order: fewest package components, then file order"
-- [SEARCH-1, SEARCH-3]
abbrev pub scopes_from : (s : List ℕ) (front names : Path) → List Scope
scopes_from s front [] = scopes_in s (spell front) [] 0 (tree_of s)
scopes_from s front (n ∷ ns) = scopes_in s (spell front) (n ∷ ns) 0 (tree_of s) ++ scopes_from s (front ++ n ∷ []) ns

unfoldable pub scopes : (s : List ℕ) → Path → List Scope
scopes s p = scopes_from s [] p
