-- Paths: a path is the list of its components; its text has them joined by dots.
--
--       Name, Path ==  bytes, and the list of a path's components
--              dot ==  the byte `.`
--      on_first c p ==  p with the byte c in front of its first name
--          split t ==  the pieces of t between its dots, one at least
--     components t ==  the components of a text, none of the empty text
--          spell p ==  the text of a path
--       all_ident p <=> every component is an identifier
--      is_rel_path t <=> t is a path, not empty and with no leading dot
--   is_rel_or_empty t <=> t is such a path, or empty
--          is_abs t <=> t leads with a dot
--       rootless t ==  t without its leading dot
--         is_path t <=> t is a path that may lead with a dot
--         parent p ==  p without its last component
--           last p ==  its last component, the empty name where there is none
--
-- Assumes nothing.
use Rattle.std.specs.Prelude.{Bool, true, false, ◌&&◌, List, [], ◌∷◌, ◌++◌, ℕ, eqb, leb, length}
use Rattle.limits.specs.Figures.{most_path}
use Rattle.ident.specs.Ident.{is_ident}

abbrev pub Name : Type 0
Name = List ℕ

abbrev pub Path : Type 0
Path = List Name

abbrev pub dot : ℕ
dot = 46

unfoldable pub on_first : (byte : ℕ) → Path → Path
on_first c [] = (c ∷ []) ∷ []
on_first c (n ∷ ns) = (c ∷ n) ∷ ns

unfoldable pub split : (text : List ℕ) → Path
split [] = [] ∷ []
split (c ∷ cs) = elim (eqb c dot) [ true ↦ [] ∷ split cs | false ↦ on_first c (split cs) ]

unfoldable pub components : (text : List ℕ) → Path
components [] = []
components (c ∷ cs) = split (c ∷ cs)

-- 01, Sheet and request: "identifiers joined by dots" [PATH-1]
unfoldable pub spell : Path → List ℕ
spell [] = []
spell (n ∷ []) = n
spell (n ∷ m ∷ ns) = n ++ dot ∷ spell (m ∷ ns)

unfoldable pub all_ident : Path → Bool
all_ident [] = true
all_ident (n ∷ ns) = is_ident n && all_ident ns

-- 01, Sheet and request: "Paths, at most 255 bytes, are identifiers joined by dots"; the one piece of the empty text is no identifier
-- [NAME-2, NAME-3]
unfoldable pub is_rel_path : (text : List ℕ) → Bool
is_rel_path t = leb (length t) most_path && all_ident (split t)

-- "only package and scope be empty" [NAME-2, NAME-3]
unfoldable pub is_rel_or_empty : (text : List ℕ) → Bool
is_rel_or_empty t = leb (length t) most_path && all_ident (components t)

unfoldable pub is_abs : (text : List ℕ) → Bool
is_abs [] = false
is_abs (c ∷ cs) = eqb c dot

unfoldable pub rootless : (text : List ℕ) → List ℕ
rootless [] = []
rootless (c ∷ cs) = elim (eqb c dot) [ true ↦ cs | false ↦ c ∷ cs ]

-- "only 1B may lead with a dot"; the dot counts to the 255 bytes [NAME-2, NAME-3]
unfoldable pub is_path : (text : List ℕ) → Bool
is_path t = leb (length t) most_path && all_ident (split (rootless t))

unfoldable pub parent : Path → Path
parent [] = []
parent (n ∷ []) = []
parent (n ∷ m ∷ ns) = n ∷ parent (m ∷ ns)

unfoldable pub last : Path → Name
last [] = []
last (n ∷ []) = n
last (n ∷ m ∷ ns) = last (m ∷ ns)
