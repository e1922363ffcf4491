-- How deep records are nested, in 01's "levels 0 to 31": the outermost lie at level 0, those that a message holds a level deeper.
--
--   deepest x == how many levels the records x have: where it is 1, they all lie at level 0
--
-- Assumes nothing.
use Rattle.std.specs.Prelude.{ℕ, suc, max}
use Rattle.records.specs.Records.{Recs, nil, number, bytes, message}

abbrev pub deepest : Recs → ℕ
deepest nil = 0
deepest (number n t v r) = max 1 (deepest r)
deepest (bytes n t x r) = max 1 (deepest r)
deepest (message n i r) = max (suc (deepest i)) (deepest r)
