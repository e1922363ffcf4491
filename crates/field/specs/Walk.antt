-- The fields between two places, in order: the only fuel of the readers of sheets and requests.
--
--                    Reader == what gives the field that stands at a place of the bytes, whole before an end
--                      Walk == each field with its tag and the places of its payload; `cut` where what is left is no whole field
--            walk_on f after == the field f, and what stands after it
--   walk_for next n s at end == the fields that `next` gives, n at most
--      walk_by next s at end == the fields that `next` gives of s, from the place `at` up to the place `end`
--             walk s at end == the fields of s from the place `at` up to the place `end`
--                  tags_in w == the tags of the fields, in order
--
-- Assumes nothing.
use Rattle.std.specs.Prelude.{true, false, List, [], ◌∷◌, ℕ, zero, suc, ◌-◌, ltb, None, Some, Option}
use Rattle.field.specs.Field.{field_at}
use Rattle.field.specs.declared.Field.{Field}

abbrev pub Reader : Type 0
Reader = (s : List ℕ) (at end : ℕ) → Option Field

pub data Walk : Type 0 where
  done : Walk
  cut : Walk
  step : (tag from to : ℕ) → Walk → Walk

-- a field, and what stands after it
abbrev pub walk_on : (f : Option Field) (after : (at : ℕ) → Walk) → Walk
walk_on None after = cut
walk_on (Some found) after = step found.tag found.from found.to (after found.to)

-- every field goes on by at least a byte, so as many steps as there are bytes are enough
abbrev pub walk_for : (next : Reader) (n : ℕ) (s : List ℕ) (at end : ℕ) → Walk
walk_for next zero s at end = done
walk_for next (suc n) s at end = elim (ltb at end) [
  | true ↦ walk_on (next s at end) (λ e. walk_for next n s e end)
  | false ↦ done
]

unfoldable pub walk_by : (next : Reader) (s : List ℕ) (at end : ℕ) → Walk
walk_by next s at end = walk_for next (end - at) s at end

abbrev pub walk : (s : List ℕ) (at end : ℕ) → Walk
walk s at end = walk_by field_at s at end

abbrev pub tags_in : Walk → List ℕ
tags_in done = []
tags_in cut = []
tags_in (step t a e w) = t ∷ tags_in w
