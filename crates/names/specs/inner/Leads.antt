-- A name that leads a text.
--
--        leads n t <=> the text t goes on with the name n and a dot
--   leads_at t at n <=> it does so at a place
--
-- Assumes nothing.
use Rattle.std.specs.Prelude.{Bool, true, false, List, [], ◌∷◌, ℕ, eqb, drop}
use Rattle.path.specs.Path.{dot}

unfoldable pub leads : (name text : List ℕ) → Bool
leads n [] = false
leads [] (c ∷ cs) = eqb c dot
leads (b ∷ n) (c ∷ cs) = elim (eqb b c) [ true ↦ leads n cs | false ↦ false ]

abbrev pub leads_at : (text : List ℕ) (at : ℕ) (name : List ℕ) → Bool
leads_at t at n = leads n (drop at t)
