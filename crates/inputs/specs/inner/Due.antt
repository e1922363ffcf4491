-- The field that is due at a place.
--
--      due_of tag f ==  what the field f is, where one of this tag is due
--   due_at tag s at ==  what stands at a place of s, where a field of this tag is due
--        due_leaf d ==  the leaf that was due, where it is there
--
-- Assumes nothing.
use Rattle.std.specs.Prelude.{true, false, List, ℕ, eqb, length, None, Some, Option}
use Rattle.field.specs.Field.{field_at}
use Rattle.inputs.specs.declared.due.Due.{Due}
use Rattle.inputs.specs.declared.due.Due.TheVariants.{Here, Other, CutShort, Ended}
use Rattle.field.specs.Leaf.{span}
use Rattle.field.specs.declared.Field.{Field}
use Rattle.field.specs.declared.Span.{Span}

abbrev pub due_of : (tag : ℕ) → Option Field → Due
due_of tag None = CutShort
due_of tag (Some f) = elim (eqb f.tag tag) [ true ↦ Here f.from f.to | false ↦ Other f.tag ]

unfoldable pub due_at : (tag : ℕ) (s : List ℕ) (at : ℕ) → Due
due_at tag s at = elim (eqb at (length s)) [ true ↦ Ended | false ↦ due_of tag (field_at s at (length s)) ]

abbrev pub due_leaf : Due → Option Span
due_leaf (Here a e) = Some (span a e)
due_leaf (Other t) = None
due_leaf CutShort = None
due_leaf Ended = None
