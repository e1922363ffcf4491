-- The pair of a message constant at a place, as its reader answers it. What 01 says of pairs is in the tree of a request.
--
--   pair_with t a e f == the pair of a name of the tag t from a to e and the constant's field f
--   pair_from s end f == the pair that begins with the field f
--      pair_at s at e == the pair at a place
--
-- Assumes nothing.
use Rattle.std.specs.Prelude.{true, false, List, ℕ, None, Some, Option}
use Rattle.field.specs.Field.{field_at}
use Rattle.field.specs.Leaf.{span}
use Rattle.request.specs.Constant.{is_pair_name}
use Rattle.field.specs.declared.Field.{Field}
use Rattle.pair.specs.declared.Pair.{Pair}

abbrev pub pair_with : (tag from to : ℕ) (constant : Option Field) → Option Pair
pair_with t a e None = None
pair_with t a e (Some found) = Some (record { by = t; name = span a e; tag = found.tag; constant = span found.from found.to })

abbrev pub pair_from : (s : List ℕ) (end : ℕ) (name : Option Field) → Option Pair
pair_from s end None = None
pair_from s end (Some f) = elim (is_pair_name f.tag) [ true ↦ pair_with f.tag f.from f.to (field_at s f.to end) | false ↦ None ]

unfoldable pub pair_at : (s : List ℕ) (at end : ℕ) → Option Pair
pair_at s at end = pair_from s end (field_at s at end)
