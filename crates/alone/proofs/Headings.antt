-- The heading of a request is that of any other which has the same bytes in front, up to where the options start.
-- Assumes nothing.
use Rattle.std.specs.Prelude.{◌≡◌, refl, List, ℕ, ◌≤◌, length, None, Some, Option}
use Rattle.basis.specs.Kit.{sym, ap, ◌∙◌}
use Rattle.basis.proofs.Kit.{arith}
use mathlib.Core.Path.{ap₂}
use Rattle.basis.proofs.Never.{never}
use Rattle.field.specs.declared.Span.{Span}
use Rattle.field.specs.Field.{field_at, field}
use Rattle.field.specs.Leaf.{text, any_bytes, on_leaf, leaf_at}
use Rattle.field.proofs.FieldLaws.{field-bounds}
use Rattle.field.proofs.LeafLaws.{leaf-any, on-leaf-some}
use Rattle.request.specs.declared.heading.Heading.{Heading}
use Rattle.request.specs.Table.{scope_tag, options_type_tag}
use Rattle.request.specs.Request.{heading_of}
use Rattle.request.proofs.RequestLaws.{heading-is, HeadingPlaces, heading-places}
use Rattle.alone.proofs.Windows.{Twin, Here, here-part}
use Rattle.alone.proofs.Fields.{field_end, leaf-field, Moved, field-moved}
use Rattle.field.specs.declared.Field.{Field}

-- the two leaves of a heading
pub record Leaves (s : List ℕ) (h : Heading) : Type 0 where
  pub scope : leaf_at scope_tag any_bytes s 0 (length s) ≡ Some h.scope
  pub type : leaf_at options_type_tag any_bytes s h.scope.to (length s) ≡ Some h.options_type
  pub options : h.options ≡ h.options_type.to

abbrev heads : Span → Span → Option Heading
heads p u = Some (record { scope = p; options_type = u; options = u.to })

module _ (s : List ℕ) (h : Heading) where
  heading-leaves : Some h ≡ heading_of s → Leaves s h
  unfolding heading_of
  heading-leaves =
      on-leaf-some None (Some h) (leaf_at scope_tag any_bytes s 0 (length s))
      (λ p. on_leaf None (leaf_at options_type_tag any_bytes s p.to (length s)) (heads p)) (Leaves s h) (λ q. never cc)
      (λ p l. on-leaf-some None (Some h) (leaf_at options_type_tag any_bytes s p.to (length s)) (heads p) (Leaves s h) (λ q. never cc)
      (λ u k q. let x : h ≡ record { scope = p; options_type = u; options = u.to } = cc in
      rw x (record { scope = l; type = k; options = refl })))

-- ---- the same bytes in front
module _ {r r' : List ℕ} (w : Twin r r') (z : w.first ≡ 0) (z' : w.other ≡ 0) where
  here-stays : (x : ℕ) → x ≤ w.size → Here w x x
  here-stays x l = record { moved = omega arith; begun = omega arith; ended = omega arith }

  moved_back : (here : Field) (f : Option Field) → Moved w here.tag here.from here.to f → f ≡ Some here
  moved_back here f m =
      m.whole ∙ ap₂ (λ (x y : ℕ). Some (field here.tag x y)) (omega (arith, m.places.from.moved)) (omega (arith, m.places.to.moved))

  field-kept : (f : Field) (at : ℕ) → f.to ≤ w.size → field_at r at f.to ≡ Some f → field_at r' at f.to ≡ Some f
  field-kept f at l q =
      let b = field-bounds r at f.to (field_at r at f.to) refl f q in
      moved_back f (field_at r' at f.to)
      (field-moved w f.tag f.from f.to (here-stays at (omega (arith, b.starts, b.ordered))) (here-stays f.to l) q)

  leaf-kept : (k at end : ℕ) (u : Span) → u.to ≤ w.size → leaf_at k any_bytes r at end ≡ Some u
      → (end' : ℕ) → u.to ≤ end' → leaf_at k any_bytes r' at end' ≡ Some u
  leaf-kept k at end u j p end' l =
      let q = field_end r at end k u.from u.to (leaf-field k r at end u p) u.to (omega arith) in
      let q' = field_end r' at u.to k u.from u.to (field-kept (field k u.from u.to) at j q) end' l in
      sym (leaf-any k r' at end' (field_at r' at end') refl (field k u.from u.to) q' refl)

  text-kept : (p : Span) → p.from ≤ w.size → p.to ≤ w.size → text r' p ≡ text r p
  text-kept p k l = sym (here-part w (here-stays p.from k) (here-stays p.to l))

  module _ (h : Heading) (l : h.options ≤ w.size) (q : heading_of r ≡ Some h) where
    places : HeadingPlaces r h
    places = heading-places r (heading_of r) refl h q

    type-inside : h.options_type.to ≤ w.size
    type-inside = omega (arith, places.options)

    scope-inside : h.scope.to ≤ w.size
    scope-inside = omega (arith, places.options_type.starts, places.options_type.ordered, type-inside)

    pub leaves_kept : Leaves r' h
    leaves_kept =
        let k = heading-leaves r h (sym q) in
        record {
          scope =
              leaf-kept scope_tag 0 (length r) h.scope scope-inside k.scope (length r')
              (omega (arith, scope-inside, w.inside'));
          type =
              leaf-kept options_type_tag h.scope.to (length r) h.options_type type-inside k.type
              (length r') (omega (arith, type-inside, w.inside'));
          options = k.options;
        }

    pub heading-kept : heading_of r' ≡ Some h
    heading-kept =
        let k = leaves_kept in
        sym (heading-is r' (leaf_at scope_tag any_bytes r' 0 (length r')) refl h.scope k.scope
        (leaf_at options_type_tag any_bytes r' h.scope.to (length r')) refl h.options_type k.type)
        ∙ ap (λ (o : ℕ). Some (record { scope = h.scope; options_type = h.options_type; options = o })) (sym k.options)

    pub scope_kept : text r' h.scope ≡ text r h.scope
    scope_kept = text-kept h.scope (omega (arith, places.scope.ordered, scope-inside)) scope-inside

    pub type-kept : text r' h.options_type ≡ text r h.options_type
    type-kept = text-kept h.options_type (omega (arith, places.options_type.ordered, type-inside)) type-inside
