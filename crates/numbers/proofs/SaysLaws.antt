-- The laws of the test that a declaration's number takes before the rest of it is read: the ways through `says_number`, `extension_says`
-- and `field_says`, and that what they refuse is no declaration of the number.
-- Assumes nothing.
use Rattle.std.specs.Prelude.{◌≡◌, refl, Bool, true, false, List, ℕ, eqb, get_or, None, Some, Option}
use Rattle.basis.specs.Kit.{sym, ◌∙◌}
use Rattle.basis.proofs.Kit.{ne_eqb}
use Rattle.basis.proofs.Never.{never}
use Rattle.octets.specs.Octets.{big_at}
use Rattle.field.specs.declared.Span.{Span}
use Rattle.field.specs.Leaf.{span, any_bytes, of_size, leaf_at}
use Rattle.field.proofs.LeafLaws.{leaf_inside, size_laws, on-leaf-some}
use Rattle.sheet.specs.declared.declaration.Shape.{Shape}
use Rattle.sheet.specs.declared.declaration.Declaration.{Declaration}
use Rattle.sheet.specs.Table.{extension_tag, field_tag, name_tag, extendee_tag, number_tag, type_tag, label_tag}
use Rattle.sheet.specs.Declaration.{type_path_at, shape, shape_at, declared_with, extension_at, message_field_at}
use Rattle.scope.specs.inner.Steps.{tells_declared, whose, declaration_at}
use Rattle.numbers.specs.Number.{has_number, is_extension_of}
use Rattle.numbers.specs.inner.Says.{says_number, extension_says, field_says}

-- ---- says_number
module _ (k : ℕ) (s : List ℕ) (at end : ℕ) (r : Option Span) (q : r ≡ leaf_at number_tag (of_size 4) s at end) where
  pub says_none : r ≡ None → false ≡ says_number k s at end
  says_none g = rw (← q, g)

  pub says_some : (p : Span) → r ≡ Some p → (x : ℕ) → x ≡ big_at 4 s p.from → eqb x k ≡ says_number k s at end
  says_some p g x u = rw (← q, g, ← u)

pub ruleset says_number_laws = (says_none, says_some, leaf_inside, size_laws)

-- ---- field_says
module _ (k : ℕ) (s : List ℕ) (a e : ℕ) (r : Option Span) (q : r ≡ leaf_at name_tag any_bytes s a e) where
  pub field-says-none : r ≡ None → false ≡ field_says k s a e
  field-says-none g = rw (← q, g)

  pub field-says-some : (p : Span) → r ≡ Some p → (b : Bool) → b ≡ says_number k s p.to e → b ≡ field_says k s a e
  field-says-some p g b u = rw (← q, g) u

  -- ---- extension_says
  pub extension-says-none : r ≡ None → false ≡ extension_says k s a e
  extension-says-none g = rw (← q, g)

  module _ (p : Span) (g : r ≡ Some p) (r' : Option Span) (q' : r' ≡ leaf_at extendee_tag any_bytes s p.to e) where
    pub extension-says-of-none : r' ≡ None → false ≡ extension_says k s a e
    extension-says-of-none g' = rw (← q, g, ← q', g')

    pub extension-says-some : (l : Span) → r' ≡ Some l → (b : Bool) → b ≡ says_number k s l.to e → b ≡ extension_says k s a e
    extension-says-some l g' b u = rw (← q, g, ← q', g') u

pub ruleset field_says_laws = (field-says-none, field-says-some, leaf_inside)

pub ruleset extension_says_laws = (extension-says-none, extension-says-of-none, extension-says-some, leaf_inside)

-- ---- a declaration has the number that stands there
shape-says : (k : ℕ) (s : List ℕ) (at end : ℕ) (h : Shape) → Some h ≡ shape_at s at end → eqb h.number k ≡ says_number k s at end
unfolding shape_at
shape-says k s at end h =
    on-leaf-some None (Some h) (leaf_at number_tag (of_size 4) s at end) _ L none λ number x.
    on-leaf-some None (Some h) (leaf_at type_tag (of_size 1) s number.to end) _ L none λ typ _.
    on-leaf-some None (Some h) (leaf_at label_tag (of_size 1) s typ.to end) _ L none λ label _.
    on-leaf-some None (Some h) (type_path_at (get_or s typ.from 0) s label.to end) _ L none λ path _ p.
    let u : h ≡ shape (big_at 4 s number.from) (get_or s typ.from 0) (get_or s label.from 0) path = cc in
    rw (u, x)
  where
    L : Type 0
    L = eqb h.number k ≡ says_number k s at end

    none : Some h ≡ None → ⊥
    none p = never cc

declared-says : (k : ℕ) (s : List ℕ) (at end : ℕ) (n x : Span) (d : Declaration) (p : Option Shape) → p ≡ shape_at s at end
    → Some d ≡ declared_with n x p → eqb d.shape.number k ≡ says_number k s at end
declared-says k s at end n x d None q p = never cc
declared-says k s at end n x d (Some h) q p =
    let u : d ≡ record { name = n; extendee = x; shape = h } = cc in
    rw u (shape-says k s at end h q)

none-declared : (d : Declaration) → Some d ≡ None → ⊥
none-declared d p = never cc

extension-number : (k : ℕ) (s : List ℕ) (a e : ℕ) (d : Declaration) → Some d ≡ extension_at s a e
    → eqb d.shape.number k ≡ extension_says k s a e
unfolding extension_at
extension-number k s a e d =
    on-leaf-some None (Some d) (leaf_at name_tag any_bytes s a e) _ L (none-declared d) λ w y.
    on-leaf-some None (Some d) (leaf_at extendee_tag any_bytes s w.to e) _ L (none-declared d) λ u z p.
    rw (y, z) (declared-says k s u.to e w u d (shape_at s u.to e) refl p)
  where
    L : Type 0
    L = eqb d.shape.number k ≡ extension_says k s a e

field-number : (k : ℕ) (s : List ℕ) (a e : ℕ) (d : Declaration) → Some d ≡ message_field_at s a e
    → eqb d.shape.number k ≡ field_says k s a e
unfolding message_field_at
field-number k s a e d =
    on-leaf-some None (Some d) (leaf_at name_tag any_bytes s a e) _ L (none-declared d) λ q y p.
    rw y (declared-says k s q.to e q (span 0 0) d (shape_at s q.to e) refl p)
  where
    L : Type 0
    L = eqb d.shape.number k ≡ field_says k s a e

-- ---- what the test refuses is no declaration of the number
only-if-tag : (d : Declaration) (c : Bool) (x : Option Declaration) → Some d ≡ elim c [ true ↦ x | false ↦ None ] → Some d ≡ x
only-if-tag d true x p = p
only-if-tag d false x p = never cc

other_tag : (d : Declaration) (c : Bool) (x : Option Declaration) → c ≡ false → Some d ≡ elim c [ true ↦ x | false ↦ None ] → ⊥
other_tag d true x g p = never cc
other_tag d false x g p = never cc

refused : (good : Declaration → Bool) (x : Option Declaration) → ((d : Declaration) → Some d ≡ x → good d ≡ false)
    → None ≡ whose None tells_declared good x
unfolding whose
refused good None h = refl
refused good (Some d) h = rw (h d refl)

module _ (k : ℕ) (s : List ℕ) (t a e : ℕ) where
  pub field-tag-other : (t ≡ field_tag → ⊥)
      → None ≡ whose None tells_declared (has_number k) (declaration_at field_tag s t a e)
  unfolding declaration_at
  field-tag-other h =
      refused (has_number k) _ λ d p. absurd (other_tag d (eqb t field_tag) (message_field_at s a e) (ne_eqb t field_tag h) p)

  pub field-says-other : (b : Bool) → b ≡ field_says k s a e → b ≡ false
      → None ≡ whose None tells_declared (has_number k) (declaration_at field_tag s t a e)
  unfolding declaration_at
  field-says-other b q g =
      refused (has_number k) _ λ d p. field-number k s a e d (only-if-tag d (eqb t field_tag) (message_field_at s a e) p) ∙ sym q ∙ g

  module _ (m : List ℕ) where
    pub extension-tag-other : (t ≡ extension_tag → ⊥)
        → None ≡ whose None tells_declared (is_extension_of s m k) (declaration_at extension_tag s t a e)
    unfolding declaration_at
    extension-tag-other h =
        refused (is_extension_of s m k) _ λ d p.
        absurd (other_tag d (eqb t extension_tag) (extension_at s a e) (ne_eqb t extension_tag h) p)

    pub extension-says-other : (b : Bool) → b ≡ extension_says k s a e → b ≡ false
        → None ≡ whose None tells_declared (is_extension_of s m k) (declaration_at extension_tag s t a e)
    unfolding declaration_at
    extension-says-other b q g =
        refused (is_extension_of s m k) _ λ d p.
        let u : eqb d.shape.number k ≡ false
        = extension-number k s a e d (only-if-tag d (eqb t extension_tag) (extension_at s a e) p) ∙ sym q ∙ g in
        rw u
