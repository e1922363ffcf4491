-- How many parts the names of a request's options have.
--
--   parts_of os == the parts of the names of the options, all together
--
-- Assumes nothing.
use Rattle.std.specs.Prelude.{List, [], ◌∷◌, ℕ, ◌+◌, length}
use Rattle.request.specs.Request.{RequestOption}

abbrev pub parts_of : List RequestOption → ℕ
parts_of [] = 0
parts_of (o ∷ os) = length o.parts + parts_of os
