-- Closed cases of how many levels records have.
-- Assumes nothing.
use Rattle.std.specs.Prelude.{◌≡◌, refl, [], ◌∷◌}
use Rattle.records.specs.Records.{nil, number, bytes, message}
use Rattle.promises.specs.Levels.{deepest}

no-level : deepest nil ≡ 0
no-level = refl

one-level : deepest (number 1 5 7 (bytes 2 9 (104 ∷ 105 ∷ []) nil)) ≡ 1
one-level = refl

-- an empty message is a record at level 0 and holds none at level 1
empty-message : deepest (message 1 nil nil) ≡ 1
empty-message = refl

-- the deeper of two counts, wherever it stands
two-levels : deepest (message 1 (number 1 5 7 nil) (number 2 5 7 nil)) ≡ 2
two-levels = refl

three-levels : deepest (number 2 5 7 (message 1 (message 3 (number 1 5 7 nil) nil) (message 1 nil nil))) ≡ 3
three-levels = refl
