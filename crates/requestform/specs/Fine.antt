-- What the tree of a fine request is like.
--
--   good_options s os <=> every option is good
--    good_request s q <=> scope, options type and options are what 01 allows
--
-- Assumes nothing.
use Rattle.std.specs.Prelude.{Bool, true, ◌&&◌, List, [], ◌∷◌, ℕ}
use Rattle.path.specs.Path.{is_rel_path, is_rel_or_empty}
use Rattle.field.specs.Leaf.{text}
use Rattle.request.specs.Request.{RequestOption, Request}
use Rattle.optionform.specs.Fine.{good_option}

abbrev pub good_options : (s : List ℕ) → List RequestOption → Bool
good_options s [] = true
good_options s (o ∷ os) = good_option s o && good_options s os

abbrev pub good_request : (s : List ℕ) → Request → Bool
good_request s q = is_rel_or_empty (text s q.scope) && is_rel_path (text s q.options_type) && good_options s q.options
