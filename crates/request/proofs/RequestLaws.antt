-- The laws of a request: the ways through `heading_of`, where a heading lies, and where parts end.
-- Assumes nothing.
use Rattle.std.specs.Prelude.{◌≡◌, refl, Bool, true, false, List, ℕ, zero, suc, ◌-◌, ◌≤◌, ◌<◌, ltb, length, None, Some, Option}
use Rattle.basis.specs.Kit.{sym, ◌∙◌}
use Rattle.basis.proofs.Kit.{arith}
use borrow.Author.Tests.{ltb-true, ltb-false}
use Rattle.basis.proofs.Never.{never}
use Rattle.field.specs.Field.{field_at}
use Rattle.field.specs.Leaf.{any_bytes, on_leaf, leaf_at}
use Rattle.field.specs.Walk.{walk}
use Rattle.field.proofs.FieldLaws.{Bounds, field-bounds}
use Rattle.field.proofs.LeafLaws.{leaf-bounds, leaf_inside}
use Rattle.field.proofs.WalkLaws.{walk-done, walk-cut, walk_step}
use Rattle.field.proofs.Rest.{Rest, rest-start, rest_end}
use Rattle.request.specs.declared.name.Part.{Part}
use Rattle.request.specs.declared.heading.Heading.{Heading}
use Rattle.request.specs.Table.{scope_tag, options_type_tag}
use Rattle.request.specs.Name.{part_at, part_of, further, after_parts}
use Rattle.request.specs.Request.{heading_of}
use Rattle.request.proofs.PartLaws.{part-less, rest-no-part, rest-part-next}
use Rattle.field.specs.declared.Field.{Field}
use Rattle.field.specs.declared.Span.{Span}

-- ---- the heading
abbrev heading : (scope type : Span) → Heading
heading p u = record { scope = p; options_type = u; options = u.to }

abbrev heads : (scope type : Span) → Option Heading
heads p u = Some (heading p u)

module _ (s : List ℕ) (l : Option Span) (q : l ≡ leaf_at scope_tag any_bytes s 0 (length s)) where
  pub heading-unscoped : l ≡ None → None ≡ heading_of s
  unfolding heading_of
  heading-unscoped g = rw (← q, g)

  module _ (p : Span) (g : l ≡ Some p) (l' : Option Span) (q' : l' ≡ leaf_at options_type_tag any_bytes s p.to (length s)) where
    heading-open : heading_of s ≡ on_leaf None l' (heads p)
    unfolding heading_of
    heading-open = rw (← q, g, ← q')

    pub heading-untyped : l' ≡ None → None ≡ heading_of s
    heading-untyped g' = rw (heading-open, g')

    pub heading-is : (u : Span) → l' ≡ Some u → heads p u ≡ heading_of s
    heading-is u g' = rw (heading-open, g')

pub ruleset heading_laws = (heading-unscoped, heading-untyped, heading-is, leaf_inside)

-- ---- where a heading lies
pub record HeadingPlaces (s : List ℕ) (h : Heading) : Type 0 where
  pub scope : Bounds 0 (length s) h.scope.from h.scope.to
  pub options_type : Bounds h.scope.to (length s) h.options_type.from h.options_type.to
  pub options : h.options ≡ h.options_type.to

module _ (s : List ℕ) (h : Heading) where
  typed : (p : Span) → Bounds 0 (length s) p.from p.to → (l : Option Span) → l ≡ leaf_at options_type_tag any_bytes s p.to (length s)
      → Some h ≡ on_leaf None l (heads p) → HeadingPlaces s h
  typed p k None q g = never cc
  typed p k (Some u) q g =
      let x : h ≡ heading p u = cc in
      rw x (record { scope = k; options_type = leaf-bounds options_type_tag any_bytes s p.to (length s) (Some u) q u refl; options = refl })

  scoped : (l : Option Span) → l ≡ leaf_at scope_tag any_bytes s 0 (length s)
      → Some h ≡ on_leaf None l (λ p. on_leaf None (leaf_at options_type_tag any_bytes s p.to (length s)) (heads p))
      → HeadingPlaces s h
  scoped None q g = never cc
  scoped (Some it) q g =
      typed it (leaf-bounds scope_tag any_bytes s 0 (length s) (Some it) q it refl) (leaf_at options_type_tag any_bytes s it.to (length s)) refl g

module _ (s : List ℕ) (r : Option Heading) (q : r ≡ heading_of s) (h : Heading) (g : r ≡ Some h) where
  pub heading-places : HeadingPlaces s h
  unfolding heading_of
  heading-places = scoped s h (leaf_at scope_tag any_bytes s 0 (length s)) refl (sym g ∙ q)

  pub scope-ordered : h.scope.from ≤ h.scope.to
  scope-ordered = heading-places.scope.ordered

  pub scope-inside : h.scope.to ≤ length s
  scope-inside = heading-places.scope.inside

  pub options-type-ordered : h.options_type.from ≤ h.options_type.to
  options-type-ordered = heading-places.options_type.ordered

  pub options-type-inside : h.options_type.to ≤ length s
  options-type-inside = heading-places.options_type.inside

  pub options-inside : h.options ≤ length s
  options-inside = rw heading-places.options options-type-inside

pub ruleset heading_spans = (scope-ordered, scope-inside, options-type-ordered, options-type-inside, options-inside)

-- ---- the loop of `after_parts`
pub after-start : (s : List ℕ) (from to : ℕ) → from ≤ to → to ≤ length s
    → Rest (after_parts from (walk s from to)) (after_parts from) s to from
after-start s from to h k = rest-start (after_parts from) s from to h k

module _ (v : ℕ) (s : List ℕ) (to at : ℕ) (k : Rest v (after_parts at) s to at) where
  pub after-end : to ≤ at → at ≡ v
  after-end h = sym (rest_end v (after_parts at) s to at k h)

  module _ (h : at < to) (r : Option Part) (q : r ≡ part_at s at to) where
    pub after_stop : r ≡ None → at ≡ v
    after_stop g = sym (rest-no-part v (after_parts at) s to at k r q at refl refl (λ t a e w n. rw n) g)

    pub after_next : (p : Part) → r ≡ Some p → Rest v (after_parts p.name.to) s to p.name.to
    after_next p g = rest-part-next v (after_parts at) s to at k r q p g (after_parts p.name.to) (λ t n. rw n)

pub ruleset after_laws = (after-start, after-end, after_stop, after_next, part-less)

-- ---- where the parts end: between the two places
record Between (from to x : ℕ) : Type 0 where
  pub after : from ≤ x
  pub inside : x ≤ to

module _ (s : List ℕ) (to : ℕ) where
  abbrev Ends : ℕ → Type 0
  Ends at = Between at to (after_parts at (walk s at to))

  ends-further : (at x : ℕ) → at ≤ to → Between at to x → (r : Option Part) → Between at to (further r at x)
  ends-further at x h b None = record { after = omega arith; inside = h }
  ends-further at x h b (Some p) = b

  ends-done : (at : ℕ) → at ≤ to → to ≤ at → Ends at
  ends-done at h l = rw (walk-done s at to l) (record { after = omega arith; inside = h })

  module _ (n at : ℕ) (h : at ≤ to) (l : to - at ≤ suc n) (next : (e : ℕ) → e ≤ to → to - e ≤ n → Ends e) where
    ends-field : at < to → (f : Option Field) → f ≡ field_at s at to → Ends at
    ends-field k None q = rw (walk-cut s at to k None q refl) (record { after = omega arith; inside = h })
    ends-field k (Some found) q =
        let b = field-bounds s at to (Some found) q found refl in
        let i = next found.to b.inside (omega (arith, b.starts, b.ordered)) in
        rw (walk_step s at to k (Some found) q found refl)
        (ends-further at (after_parts found.to (walk s found.to to)) h
        (record { after = omega (arith, b.starts, b.ordered, i.after); inside = i.inside }) (part_of found.tag found.from found.to))

    ends-test : (x : Bool) → ltb at to ≡ x → Ends at
    ends-test true p = ends-field (ltb-true at to p) (field_at s at to) refl
    ends-test false p = ends-done at h (ltb-false at to p)

  ends : (n at : ℕ) → at ≤ to → to - at ≤ n → Ends at
  ends zero at h l = ends-done at h (omega arith)
  ends (suc n) at h l = ends-test n at h l (ends n) (ltb at to) refl

module _ (s : List ℕ) (from to r : ℕ) (q : r ≡ after_parts from (walk s from to)) (h : from ≤ to) where
  between : Between from to r
  between = rw q (ends s to (to - from) from h (omega arith))

  pub after-from : from ≤ r
  after-from = between.after

  pub after-inside : r ≤ to
  after-inside = between.inside

pub ruleset after_places = (after-from, after-inside)
