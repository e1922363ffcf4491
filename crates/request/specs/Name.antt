-- The parts of an option's name, from 01's table: "one or more of 1A direct part, 1B extension part".
--
--      part_with x a e == a part whose name is from a to e, an extension part where x holds
--        part_of t a e == the part that a field of the tag t is
--       part_of_field f == the part that the field f is
--       part_at s at e == the part at a place
--      leading p rest == the parts that begin with p, where that is one
--           parts_in w == the parts that the fields w begin with
--   further p at rest == the place `rest` where p is a part, else `at`
--     after_parts at w == where these parts end, the fields w starting at the place `at`
--
-- Assumes nothing.
use Rattle.std.specs.Prelude.{Bool, true, false, List, [], ◌∷◌, ℕ, eqb, None, Some, Option}
use Rattle.field.specs.Field.{field_at}
use Rattle.field.specs.Walk.{Walk, done, cut, step}
use Rattle.request.specs.declared.name.Part.{Part}
use Rattle.request.specs.Table.{direct_part_tag, extension_part_tag}
use Rattle.field.specs.declared.Field.{Field}

abbrev pub part_with : (extension : Bool) (from to : ℕ) → Part
part_with extension a e = record { extension = extension; name = record { from = a; to = e } }

unfoldable pub part_of : (tag from to : ℕ) → Option Part
part_of t a e = elim (eqb t direct_part_tag) [
  | true ↦ Some (part_with false a e)
  | false ↦ elim (eqb t extension_part_tag) [ true ↦ Some (part_with true a e) | false ↦ None ]
]

abbrev pub part_of_field : Option Field → Option Part
part_of_field None = None
part_of_field (Some f) = part_of f.tag f.from f.to

unfoldable pub part_at : (s : List ℕ) (at end : ℕ) → Option Part
part_at s at end = part_of_field (field_at s at end)

abbrev pub leading : Option Part → (rest : List Part) → List Part
leading None rest = []
leading (Some p) rest = p ∷ rest

abbrev pub parts_in : Walk → List Part
parts_in done = []
parts_in cut = []
parts_in (step t a e w) = leading (part_of t a e) (parts_in w)

abbrev pub further : Option Part → (at rest : ℕ) → ℕ
further None at rest = at
further (Some p) at rest = rest

abbrev pub after_parts : (at : ℕ) → Walk → ℕ
after_parts at done = at
after_parts at cut = at
after_parts at (step t a e w) = further (part_of t a e) at (after_parts e w)
