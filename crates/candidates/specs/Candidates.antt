-- The candidates of a name in a scope, from 01's "The search".
--
--              ancestors p == p and its parents, the longest first, the empty one last
--    candidates scope name == the paths that are tried, in order
--   candidate scope name i == the i-th of them, counted from 0
--
-- Assumes nothing.
use Rattle.std.specs.Prelude.{true, false, List, [], ◌∷◌, ◌++◌, map, ℕ, get_or}
use Rattle.path.specs.Path.{Path, components, is_abs, rootless}

unfoldable pub ancestors : Path → List Path
ancestors [] = [] ∷ []
ancestors (n ∷ ns) = map (λ (p : Path). n ∷ p) (ancestors ns) ++ ([] ∷ [])

-- "An absolute name has one candidate, itself. A relative name has scope plus name, then each parent of the scope plus name, last the name
-- alone." [PATH-4, PATH-5]
unfoldable pub candidates : (scope name : List ℕ) → List Path
candidates scope name = elim (is_abs name) [
  | true ↦ components (rootless name) ∷ []
  | false ↦ map (λ (p : Path). p ++ components name) (ancestors (components scope))
]

unfoldable pub candidate : (scope name : List ℕ) (i : ℕ) → Path
candidate scope name i = get_or (candidates scope name) i []
