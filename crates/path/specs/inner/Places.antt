-- The pieces of a text by their places.
--
--       until_dot t == the bytes of t before its first dot
--   names_from t at == the pieces of t from the place `at` on; none where that is past the end
--
-- Assumes nothing.
use Rattle.std.specs.Prelude.{true, false, List, [], ◌∷◌, ℕ, eqb, leb, length, drop}
use Rattle.path.specs.Path.{Name, Path, dot, split}

unfoldable pub until_dot : (text : List ℕ) → Name
until_dot [] = []
until_dot (c ∷ cs) = elim (eqb c dot) [ true ↦ [] | false ↦ c ∷ until_dot cs ]

unfoldable pub names_from : (text : List ℕ) (at : ℕ) → Path
names_from t at = elim (leb at (length t)) [ true ↦ split (drop at t) | false ↦ [] ]
