-- Where the names and the paths of declarations lie: before the end of the payload that they were read from.
-- Assumes nothing.
use Rattle.std.specs.Prelude.{◌≡◌, refl, List, ℕ, ◌≤◌, length, None, Some, Option}
use Rattle.basis.specs.Kit.{sym, ◌∙◌}
use Rattle.basis.proofs.Kit.{arith}
use Rattle.basis.proofs.Never.{never}
use Rattle.octets.specs.Octets.{big_at}
use Rattle.field.specs.declared.Span.{Span}
use Rattle.field.specs.Leaf.{span, any_bytes, of_size, leaf_at}
use Rattle.field.proofs.LeafLaws.{leaf-ordered, leaf_inside, on-leaf-some}
use Rattle.sheet.specs.declared.declaration.Declaration.{Declaration}
use Rattle.sheet.specs.declared.declaration.Value.{Value}
use Rattle.sheet.specs.Table.{name_tag, extendee_tag, signed_number_tag}
use Rattle.sheet.specs.Declaration.{last_at, shape_at, declared_with, extension_at, message_field_at, value_at}
use Rattle.sheet.proofs.ShapeLaws.{Placed, shape-lies}
use Rattle.sheet.specs.declared.declaration.Shape.{Shape}

name-lies : (k : ℕ) (s : List ℕ) (a e : ℕ) (q : Span) → leaf_at k any_bytes s a e ≡ Some q → Placed e q.from q.to
name-lies k s a e q p =
    record {
      ordered = leaf-ordered k any_bytes s a e (Some q) (sym p) q refl;
      inside = leaf_inside k any_bytes s a e (Some q) (sym p) q refl;
    }

pub record Places (end : ℕ) (d : Declaration) : Type 0 where
  pub name : Placed end d.name.from d.name.to
  pub extendee : Placed end d.extendee.from d.extendee.to
  pub path : Placed end d.shape.path.from d.shape.path.to

declared-places : (s : List ℕ) (at end : ℕ) (n x : Span) (d : Declaration) → Placed end n.from n.to → Placed end x.from x.to
    → (p : Option Shape) → p ≡ shape_at s at end → Some d ≡ declared_with n x p → Places end d
declared-places s at end n x d i j None q p = never cc
declared-places s at end n x d i j (Some h) q p =
    let u : d ≡ record { name = n; extendee = x; shape = h } = cc in
    rw u record { name = i; extendee = j; path = shape-lies s at end h q }

none-declared : (d : Declaration) → Some d ≡ None → ⊥
none-declared d p = never cc

pub extension-places : (s : List ℕ) (a e : ℕ) (d : Declaration) → Some d ≡ extension_at s a e → Places e d
unfolding extension_at
extension-places s a e d =
    on-leaf-some None (Some d) (leaf_at name_tag any_bytes s a e) _ (Places e d) (none-declared d) λ w y.
    on-leaf-some None (Some d) (leaf_at extendee_tag any_bytes s w.to e) _ (Places e d) (none-declared d) λ u z.
    declared-places s u.to e w u d (name-lies name_tag s a e w y)
    (name-lies extendee_tag s w.to e u z) (shape_at s u.to e) refl

pub field-places : (s : List ℕ) (a e : ℕ) (d : Declaration) → Some d ≡ message_field_at s a e → Places e d
unfolding message_field_at
field-places s a e d =
    on-leaf-some None (Some d) (leaf_at name_tag any_bytes s a e) _ (Places e d) (none-declared d) λ p y.
    declared-places s p.to e p (span 0 0) d (name-lies name_tag s a e p y)
    (record { ordered = omega arith; inside = omega arith }) (shape_at s p.to e) refl

value-name-lies : (s : List ℕ) (a e : ℕ) (v : Value) → Some v ≡ value_at s a e → Placed e v.name.from v.name.to
unfolding value_at
value-name-lies s a e v =
    on-leaf-some None (Some v) (leaf_at name_tag any_bytes s a e) _ L none λ q y.
    on-leaf-some None (Some v) (last_at e (leaf_at signed_number_tag (of_size 4) s q.to e)) _ L none λ w z p.
    let u : v ≡ record { name = q; number = big_at 4 s w.from } = cc in
    rw u (name-lies name_tag s a e q y)
  where
    L : Type 0
    L = Placed e v.name.from v.name.to

    none : Some v ≡ None → ⊥
    none p = never cc

module _ (s : List ℕ) (a e : ℕ) (r : Option Declaration) (q : r ≡ extension_at s a e) (d : Declaration) (g : r ≡ Some d) where
  pub extension-name-ordered : d.name.from ≤ d.name.to
  extension-name-ordered = (extension-places s a e d (sym g ∙ q)).name.ordered

  pub extension-name-within : e ≤ length s → d.name.to ≤ length s
  extension-name-within h = omega (arith, (extension-places s a e d (sym g ∙ q)).name.inside)

  pub extension-extendee-ordered : d.extendee.from ≤ d.extendee.to
  extension-extendee-ordered = (extension-places s a e d (sym g ∙ q)).extendee.ordered

  pub extension-extendee-within : e ≤ length s → d.extendee.to ≤ length s
  extension-extendee-within h = omega (arith, (extension-places s a e d (sym g ∙ q)).extendee.inside)

  pub extension-path-ordered : d.shape.path.from ≤ d.shape.path.to
  extension-path-ordered = (extension-places s a e d (sym g ∙ q)).path.ordered

  pub extension-path-within : e ≤ length s → d.shape.path.to ≤ length s
  extension-path-within h = omega (arith, (extension-places s a e d (sym g ∙ q)).path.inside)

pub ruleset extension_places_laws = (
  extension-name-ordered,
  extension-name-within,
  extension-extendee-ordered,
  extension-extendee-within,
  extension-path-ordered,
  extension-path-within,
)

module _ (s : List ℕ) (a e : ℕ) (r : Option Declaration) (q : r ≡ message_field_at s a e) (d : Declaration) (g : r ≡ Some d) where
  pub field-name-ordered : d.name.from ≤ d.name.to
  field-name-ordered = (field-places s a e d (sym g ∙ q)).name.ordered

  pub field-name-within : e ≤ length s → d.name.to ≤ length s
  field-name-within h = omega (arith, (field-places s a e d (sym g ∙ q)).name.inside)

  pub field-path-ordered : d.shape.path.from ≤ d.shape.path.to
  field-path-ordered = (field-places s a e d (sym g ∙ q)).path.ordered

  pub field-path-within : e ≤ length s → d.shape.path.to ≤ length s
  field-path-within h = omega (arith, (field-places s a e d (sym g ∙ q)).path.inside)

pub ruleset field_places_laws = (field-name-ordered, field-name-within, field-path-ordered, field-path-within)

module _ (s : List ℕ) (a e : ℕ) (r : Option Value) (q : r ≡ value_at s a e) (v : Value) (g : r ≡ Some v) where
  pub value-name-ordered : v.name.from ≤ v.name.to
  value-name-ordered = (value-name-lies s a e v (sym g ∙ q)).ordered

  pub value-name-within : e ≤ length s → v.name.to ≤ length s
  value-name-within h = omega (arith, (value-name-lies s a e v (sym g ∙ q)).inside)

pub ruleset value_places_laws = (value-name-ordered, value-name-within)
