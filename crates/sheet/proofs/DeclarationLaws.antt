-- The laws of declarations: the ways through `extension_at`, `message_field_at` and `value_at`.
-- Assumes nothing.
use Rattle.std.specs.Prelude.{◌≡◌, List, ℕ, None, Some, Option}
use Rattle.basis.proofs.Kit.{eq-eqb, ne_eqb}
use Rattle.octets.specs.Octets.{big_at}
use Rattle.field.specs.Leaf.{span, any_bytes, of_size, leaf_at}
use Rattle.field.proofs.LeafLaws.{leaf_inside, size_laws}
use Rattle.sheet.specs.declared.declaration.Shape.{Shape}
use Rattle.sheet.specs.Table.{name_tag, extendee_tag, signed_number_tag}
use Rattle.sheet.specs.Declaration.{last_at, shape_at, extension_at, message_field_at, value_at}
use Rattle.field.specs.declared.Span.{Span}

-- ---- extension_at
module _ (s : List ℕ) (a e : ℕ) (r : Option Span) (q : r ≡ leaf_at name_tag any_bytes s a e) where
  pub extension-unnamed : r ≡ None → None ≡ extension_at s a e
  unfolding extension_at
  extension-unnamed g = rw (← q, g)

  module _ (u : Span) (g : r ≡ Some u) (r' : Option Span) (q' : r' ≡ leaf_at extendee_tag any_bytes s u.to e) where
    pub extension-of-none : r' ≡ None → None ≡ extension_at s a e
    unfolding extension_at
    extension-of-none g' = rw (← q, g, ← q', g')

    module _ (l : Span) (g' : r' ≡ Some l) (p : Option Shape) (z : p ≡ shape_at s l.to e) where
      pub extension-no-shape : p ≡ None → None ≡ extension_at s a e
      unfolding extension_at
      extension-no-shape y = rw (← q, g, ← q', g', ← z, y)

      pub extension-whole : (h : Shape) → p ≡ Some h
          → Some (record { name = u; extendee = l; shape = h }) ≡ extension_at s a e
      unfolding extension_at
      extension-whole h y = rw (← q, g, ← q', g', ← z, y)

pub ruleset extension_laws = (extension-unnamed, extension-of-none, extension-no-shape, extension-whole, leaf_inside)

-- ---- message_field_at
module _ (s : List ℕ) (a e : ℕ) (r : Option Span) (q : r ≡ leaf_at name_tag any_bytes s a e) where
  pub field-unnamed : r ≡ None → None ≡ message_field_at s a e
  unfolding message_field_at
  field-unnamed g = rw (← q, g)

  module _ (u : Span) (g : r ≡ Some u) (p : Option Shape) (z : p ≡ shape_at s u.to e) where
    pub field-no-shape : p ≡ None → None ≡ message_field_at s a e
    unfolding message_field_at
    field-no-shape y = rw (← q, g, ← z, y)

    pub field-whole : (h : Shape) → p ≡ Some h
        → Some (record { name = u; extendee = span 0 0; shape = h }) ≡ message_field_at s a e
    unfolding message_field_at
    field-whole h y = rw (← q, g, ← z, y)

pub ruleset field_laws = (field-unnamed, field-no-shape, field-whole, leaf_inside)

-- ---- value_at
module _ (s : List ℕ) (a e : ℕ) (r : Option Span) (q : r ≡ leaf_at name_tag any_bytes s a e) where
  pub value-unnamed : r ≡ None → None ≡ value_at s a e
  unfolding value_at
  value-unnamed g = rw (← q, g)

  module _ (p : Span) (g : r ≡ Some p) (r' : Option Span) (q' : r' ≡ leaf_at signed_number_tag (of_size 4) s p.to e) where
    pub value-no-number : r' ≡ None → None ≡ value_at s a e
    unfolding value_at
    value-no-number g' = rw (← q, g, ← q', g')

    module _ (l : Span) (g' : r' ≡ Some l) where
      pub value-early : (l.to ≡ e → ⊥) → None ≡ value_at s a e
      unfolding value_at
      value-early h = rw (← q, g, ← q', g') (simp (last_at, ne_eqb l.to e h))

      pub value-whole : l.to ≡ e → (number : ℕ) → number ≡ big_at 4 s l.from
          → Some (record { name = p; number = number }) ≡ value_at s a e
      unfolding value_at
      value-whole h number u = rw (← q, g, ← q', g') (simp (last_at, eq-eqb l.to e h, u))

pub ruleset value_laws = (value-unnamed, value-no-number, value-early, value-whole, leaf_inside, size_laws)
