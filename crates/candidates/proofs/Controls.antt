-- Closed cases of ancestors and candidates, which the checker computes.
-- Assumes nothing.
use Rattle.std.specs.Prelude.{◌≡◌, refl, List, [], ◌∷◌, ◌++◌, map, ℕ}
use Rattle.path.specs.Path.{Name, dot, on_first, split, components, spell, is_abs, rootless}
use Rattle.candidates.specs.Candidates.{ancestors, candidates}

abbrev a : Name
a = 97 ∷ []

abbrev b : Name
b = 98 ∷ []

ancestors-none : ancestors [] ≡ [] ∷ []
unfolding ancestors
ancestors-none = refl

ancestors-two : ancestors (a ∷ b ∷ []) ≡ (a ∷ b ∷ []) ∷ (a ∷ []) ∷ [] ∷ []
unfolding ancestors
ancestors-two = refl

-- ---- candidates
abbrev plant : Name
plant = 112 ∷ 108 ∷ 97 ∷ 110 ∷ 116 ∷ []

abbrev Dispatch : Name
Dispatch = 68 ∷ 105 ∷ 115 ∷ 112 ∷ 97 ∷ 116 ∷ 99 ∷ 104 ∷ []

abbrev rank : Name
rank = 114 ∷ 97 ∷ 110 ∷ 107 ∷ []

abbrev inner : List ℕ
inner = plant ++ dot ∷ Dispatch

relative : candidates inner rank ≡ (plant ∷ Dispatch ∷ rank ∷ []) ∷ (plant ∷ rank ∷ []) ∷ (rank ∷ []) ∷ []
unfolding candidates ancestors components split on_first is_abs
relative = refl

absolute : candidates inner (dot ∷ plant ++ dot ∷ rank) ≡ (plant ∷ rank ∷ []) ∷ []
unfolding candidates components split on_first is_abs rootless
absolute = refl

empty-scope : candidates [] rank ≡ (rank ∷ []) ∷ []
unfolding candidates ancestors components split on_first is_abs
empty-scope = refl

-- a scope that is no path: two empty names, one, none
odd-scope : map spell (candidates (dot ∷ []) a) ≡ (dot ∷ dot ∷ a) ∷ (dot ∷ a) ∷ a ∷ []
unfolding candidates ancestors components split on_first is_abs spell
odd-scope = refl
