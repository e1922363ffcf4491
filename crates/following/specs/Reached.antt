-- The record that a list of declarations leads to in a tree of records, from 01's "Listing and lowering": "A record listed by another
-- declaration than the part's counts as none. At each part the last record of that number is followed."
--
--               is_by d e <=> the record is listed by the declaration d: they stand at the same place of the sheet
--           listed_by d t ==  the records at the level of t that d lists
--           last_inside t ==  what the last of them holds
--               joined t ==  what they all hold, in order
--            last_row l t ==  the last of them, at the level l
--                  never ==  no declaration joins its records
--       inside joins d t ==  where the next part is looked for: in the last record that d lists, or in all of them where `joins d`
--   reached joins l ds t ==  the row that the declarations ds lead to, t standing at the level l
--
-- Assumes nothing.
use Rattle.std.specs.Prelude.{Bool, true, false, List, [], ◌∷◌, ℕ, suc, eqb, Option, None, Some}
use Rattle.sheet.specs.declared.declaration.Declaration.{Declaration}
use Rattle.entries.specs.declared.Row.{Row}
use Rattle.entries.specs.Tree.{Tree, end, one, held, append, row}

-- "A record listed by another declaration than the part's counts as none." [QUERY-5]
abbrev pub is_by : Declaration → Option Declaration → Bool
is_by d None = false
is_by d (Some e) = eqb e.name.from d.name.from

abbrev pub listed_by : Declaration → Tree → Tree
listed_by d end = end
listed_by d (one e t) = elim (is_by d e.by) [ true ↦ one e (listed_by d t) | false ↦ listed_by d t ]
listed_by d (held e i t) = elim (is_by d e.by) [ true ↦ held e i (listed_by d t) | false ↦ listed_by d t ]

-- "At each part the last record of that number is followed." [QUERY-4]
abbrev pub inside_after : (before : Tree) → Tree → Tree
inside_after i end = i
inside_after i (one e t) = inside_after end t
inside_after i (held e j t) = inside_after j t

abbrev pub last_inside : Tree → Tree
last_inside t = inside_after end t

abbrev pub joined : Tree → Tree
joined end = end
joined (one e t) = joined t
joined (held e i t) = append i (joined t)

abbrev pub last_after : (before : Option Row) (level : ℕ) → Tree → Option Row
last_after o l end = o
last_after o l (one e t) = last_after (Some (row l e)) l t
last_after o l (held e i t) = last_after (Some (row l e)) l t

abbrev pub last_row : (level : ℕ) → Tree → Option Row
last_row l t = last_after None l t

abbrev pub never : Declaration → Bool
never d = false

module _ (joins : Declaration → Bool) where
  abbrev pub inside : Declaration → Tree → Tree
  inside d t = elim (joins d) [ true ↦ joined (listed_by d t) | false ↦ last_inside (listed_by d t) ]

  abbrev pub reached : (level : ℕ) → List Declaration → Tree → Option Row
  reached l [] t = None
  reached l (d ∷ []) t = last_row l (listed_by d t)
  reached l (d ∷ e ∷ ds) t = reached (suc l) (e ∷ ds) (inside d t)
