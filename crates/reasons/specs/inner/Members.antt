-- The names of what a message or an enum declares itself, as the code reads them: fields by their tag, or values by theirs.
--
--    field_name, value_name == the name of what was read, where it is a field or a value
--      member_at k s t a e == the name of the field or value that a field of the tag t is, where its tag is k
--           leaf_onto l ns == the names ns, and before them l, where there is one
--         members_in k s w == the names among the fields w
--   member_flaw s w k ns l == what is amiss with a member of the name l, where there is one, among the names ns
--
-- Assumes nothing.
use Rattle.std.specs.Prelude.{true, false, List, [], ◌∷◌, ℕ, eqb, None, Some, Option}
use Rattle.basis.specs.First.{only_if}
use Rattle.basis.specs.Count.{once}
use Rattle.field.specs.declared.Span.{Span}
use Rattle.field.specs.Leaf.{text, is_text}
use Rattle.field.specs.Walk.{Walk, done, cut, step}
use Rattle.sheet.specs.Table.{field_tag}
use Rattle.sheet.specs.Declaration.{message_field_at, value_at}
use Rattle.reasons.specs.declared.Why.{Why}
use Rattle.reasons.specs.declared.Reason.{Reason}
use Rattle.reasons.specs.Reasons.{or_no}
use Rattle.sheet.specs.declared.declaration.Declaration.{Declaration}
use Rattle.sheet.specs.declared.declaration.Value.{Value}

abbrev pub field_name : Option Declaration → Option Span
field_name None = None
field_name (Some d) = Some d.name

abbrev pub value_name : Option Value → Option Span
value_name None = None
value_name (Some v) = Some v.name

unfoldable pub member_at : (want : ℕ) (s : List ℕ) (tag from to : ℕ) → Option Span
member_at k s t a e = elim (eqb t k) [
  | true ↦ only_if (eqb k field_tag) (field_name (message_field_at s a e)) (value_name (value_at s a e))
  | false ↦ None
]

abbrev pub leaf_onto : Option Span → List Span → List Span
leaf_onto None ns = ns
leaf_onto (Some p) ns = p ∷ ns

abbrev pub members_in : (want : ℕ) (s : List ℕ) → Walk → List Span
members_in k s done = []
members_in k s cut = []
members_in k s (step t a e w) = leaf_onto (member_at k s t a e) (members_in k s w)

unfoldable pub member_flaw : (s : List ℕ) → Why → (index : ℕ) → List Span → Option Span → Option Reason
member_flaw s w k ns None = None
member_flaw s w k ns (Some l) = or_no (once (is_text s (text s l)) ns) w k l
