-- What the tree of a fine option is like.
--
--   good_parts s ps <=> every part is what 01 allows
--   good_option s o <=> an option has 1 to 16 good parts and one good constant
--
-- Assumes nothing.
use Rattle.std.specs.Prelude.{Bool, true, ◌&&◌, List, [], ◌∷◌, ℕ, eqb, leb, length}
use Rattle.limits.specs.Figures.{most_parts}
use Rattle.field.specs.Leaf.{text}
use Rattle.request.specs.declared.name.Part.{Part}
use Rattle.request.specs.Request.{RequestOption}
use Rattle.constantform.specs.Leaves.{good_part}
use Rattle.constantform.specs.Fine.{count_of, good_constants}

abbrev pub good_parts : (s : List ℕ) → List Part → Bool
good_parts s [] = true
good_parts s (p ∷ ps) = good_part p.extension (text s p.name) && good_parts s ps

-- "one or more of 1A direct part, 1B extension part; one constant"; "16 parts a name" [FORM-2, LIMIT-1, READ-6]
abbrev pub good_option : (s : List ℕ) → RequestOption → Bool
good_option s o =
    leb 1 (length o.parts) && leb (length o.parts) most_parts && good_parts s o.parts && eqb (count_of o.constant) 1
    && good_constants s o.constant
