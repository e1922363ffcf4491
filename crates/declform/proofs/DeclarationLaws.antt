-- The laws of what a declaration's leaves may hold: the ways through `good_type_path`, `good_shape`,
-- `good_field`, `is_field`, `is_extension` and `is_value`.
-- Assumes nothing.
use Rattle.std.specs.Prelude.{◌≡◌, Bool, true, false, ◌&&◌, List, ℕ, None, Option, Some}
use Rattle.basis.proofs.Kit.{not-true, not-false}
use Rattle.limits.specs.Figures.{most_number, most_type, most_label}
use Rattle.octets.specs.Octets.{part}
use Rattle.ident.specs.Ident.{is_ident}
use Rattle.path.specs.Path.{is_rel_path}
use Rattle.sheet.specs.declared.declaration.Shape.{Shape}
use Rattle.sheet.specs.declared.declaration.Declaration.{Declaration}
use Rattle.sheet.specs.declared.declaration.Value.{Value}
use Rattle.sheet.specs.Declaration.{has_type_path, extension_at, message_field_at, value_at}
use Rattle.sheet.proofs.PlaceLaws.{extension_places_laws, field_places_laws, value_places_laws}
use Rattle.declform.specs.Declarations.{in_range, good_type_path, good_shape, good_field, is_field, is_extension, is_value}

-- ---- good_type_path
module _ (s : List ℕ) (h : Shape) (b : Bool) (y : b ≡ has_type_path h.typ) where
  pub type-pathless : b ≡ false → true ≡ good_type_path s h
  unfolding good_type_path
  type-pathless g = simp (good_type_path, ← y, g)

  pub type-path : b ≡ true → (r : Bool) → r ≡ is_rel_path (part s h.path.from h.path.to) → r ≡ good_type_path s h
  unfolding good_type_path
  type-path g r q = simp (good_type_path, ← y, g) q

pub ruleset type_path_laws = (type-pathless, type-path, not-true, not-false)

-- ---- good_shape
pub shape_is : (s : List ℕ) (h : Shape)
    (n : Bool) → n ≡ in_range h.number most_number → (t : Bool) → t ≡ in_range h.typ most_type
    → (l : Bool) → l ≡ in_range h.label most_label → (p : Bool) → p ≡ good_type_path s h
    → (n && t && l && p) ≡ good_shape s h
unfolding good_shape
shape_is s h n x t y l z p q = rw (x, y, z, q)

-- ---- good_field
pub good_field_is : (s : List ℕ) (d : Declaration) (b : Bool) → b ≡ is_ident (part s d.name.from d.name.to)
    → (h : Bool) → h ≡ good_shape s d.shape → (b && h) ≡ good_field s d
unfolding good_field
good_field_is s d b x h y = rw (x, y)

-- ---- is_field
module _ (s : List ℕ) (a e : ℕ) (r : Option Declaration) (q : r ≡ message_field_at s a e) where
  pub field-none : r ≡ None → false ≡ is_field s a e
  unfolding is_field
  field-none g = simp (is_field, ← q, g)

  pub field-some : (d : Declaration) → r ≡ Some d → (b : Bool) → b ≡ good_field s d → b ≡ is_field s a e
  unfolding is_field
  field-some d g b x = simp (is_field, ← q, g) x

pub ruleset is_field_laws = (field-none, field-some, field_places_laws)

-- ---- is_extension
module _ (s : List ℕ) (a e : ℕ) (r : Option Declaration) (q : r ≡ extension_at s a e) where
  pub extension-none : r ≡ None → false ≡ is_extension s a e
  unfolding is_extension
  extension-none g = simp (is_extension, ← q, g)

  pub extension-some : (d : Declaration) → r ≡ Some d → (b : Bool) → b ≡ is_rel_path (part s d.extendee.from d.extendee.to)
      → (f : Bool) → f ≡ good_field s d → (b && f) ≡ is_extension s a e
  unfolding is_extension
  extension-some d g b x f y = simp (is_extension, ← q, g, x, y)

pub ruleset is_extension_laws = (extension-none, extension-some, extension_places_laws)

-- ---- is_value
module _ (s : List ℕ) (a e : ℕ) (r : Option Value) (q : r ≡ value_at s a e) where
  pub value_none : r ≡ None → false ≡ is_value s a e
  unfolding is_value
  value_none g = simp (is_value, ← q, g)

  pub value-some : (v : Value) → r ≡ Some v → (b : Bool) → b ≡ is_ident (part s v.name.from v.name.to) → b ≡ is_value s a e
  unfolding is_value
  value-some v g b x = simp (is_value, ← q, g) x

pub ruleset is_value_laws = (value_none, value-some, value_places_laws)
