-- What one field of a scope says, and the first of the fields of a scope that says something, for the contracts of the functions that look
-- at these.
--
--   tells_leaf, tells_declared, tells_valued == that of which an answer tells, where it tells of something
--                       first_of tells r q == the first of two answers, the second where that tells of nothing
--              whose nothing tells good r == the answer r, where that of which it tells passes the test; else `nothing`
--                      body_at k n s t a e == what stands after the name in a field of the tag k and of the name n
--                       body_named k n s w == the same of the first such one among the fields w
--                 declaration_at k s t a e == the declaration that a field is, where its tag is k: an extension or a field of a message
--                  value_named_at n s t a e == the enum value that a field is, where its name is n
--                        item_at d s t a e == what a field of a scope holds, with d levels of messages left
--                          file_at s t a e == the file that a field of a sheet is
--
-- Assumes nothing.
use Rattle.std.specs.Prelude.{Bool, true, false, List, [], ℕ, eqb, Option, Some, None}
use Rattle.basis.specs.First.{only_if, told}
use Rattle.octets.specs.Octets.{same_bytes}
use Rattle.field.specs.declared.Span.{Span}
use Rattle.field.specs.Leaf.{span, is_text, on_leaf, leaf_at}
use Rattle.field.specs.Walk.{Walk, done, cut, step}
use Rattle.sheet.specs.declared.declaration.Declaration.{Declaration}
use Rattle.sheet.specs.declared.declaration.Value.{Value}
use Rattle.sheet.specs.Table.{name_tag, extension_tag, field_tag, value_tag}
use Rattle.sheet.specs.Declaration.{extension_at, message_field_at, value_at}
use Rattle.sheet.specs.Tree.{Items, none, File, item_in, message_in, file_in}

-- ---- answers
abbrev pub tells_leaf : Option Span → Option Span
tells_leaf None = None
tells_leaf (Some p) = Some p

abbrev pub tells_declared : Option Declaration → Option Declaration
tells_declared None = None
tells_declared (Some d) = Some d

abbrev pub tells_valued : Option Value → Option Value
tells_valued None = None
tells_valued (Some v) = Some v

abbrev pub first_of : {A R : Type 0} → (tells : R → Option A) (r q : R) → R
first_of tells r q = told q (λ _. r) (tells r)

unfoldable pub whose : {A R : Type 0} → (nothing : R) (tells : R → Option A) (good : A → Bool) → R → R
whose nothing tells good r = told nothing (λ a. only_if (good a) r nothing) (tells r)

-- ---- one field
unfoldable pub body_at : (want : ℕ) (name s : List ℕ) (tag from to : ℕ) → Option Span
body_at k n s t a e = elim (eqb t k) [ true ↦ on_leaf None (leaf_at name_tag (same_bytes n) s a e) (λ p. Some (span p.to e)) | false ↦ None ]

abbrev pub body_named : (want : ℕ) (name s : List ℕ) → Walk → Option Span
body_named k n s done = None
body_named k n s cut = None
body_named k n s (step t a e w) = first_of tells_leaf (body_at k n s t a e) (body_named k n s w)

unfoldable pub declaration_at : (want : ℕ) (s : List ℕ) (tag from to : ℕ) → Option Declaration
declaration_at k s t a e = elim (eqb t k) [
  | true ↦ only_if (eqb k extension_tag) (extension_at s a e) (only_if (eqb k field_tag) (message_field_at s a e) None)
  | false ↦ None
]

unfoldable pub value_named_at : (name s : List ℕ) (tag from to : ℕ) → Option Value
value_named_at n s t a e = elim (eqb t value_tag) [
  | true ↦ whose None tells_valued (λ v. is_text s n v.name) (value_at s a e)
  | false ↦ None
]

abbrev pub item_at : (left : ℕ) (s : List ℕ) (tag from to : ℕ) → Items
item_at d s t a e = item_in (message_in d s) s t a e none

abbrev pub file_at : (s : List ℕ) (tag from to : ℕ) → List File
file_at s t a e = file_in s t a e []
