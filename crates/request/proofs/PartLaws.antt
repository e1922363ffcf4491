-- Parts of a name: the ways through `part_at`, where a part lies, and the loops over parts, whatever they make of the fields.
-- Assumes nothing.
use Rattle.std.specs.Prelude.{◌≡◌, refl, Bool, true, false, List, [], ◌∷◌, ℕ, ◌-◌, ◌≤◌, ◌<◌, eqb, length, None, Some, Option}
use Rattle.basis.specs.Kit.{sym, ap, ◌∙◌}
use Rattle.basis.proofs.Kit.{arith, eq-eqb, ne_eqb}
use mathlib.Core.Path.{subst}
use native.Mathlib.Decide.{dec_lt}
use Rattle.basis.proofs.Never.{never}
use Rattle.field.specs.Field.{field_at, field}
use Rattle.field.specs.declared.Span.{Span}
use Rattle.field.specs.Leaf.{span}
use Rattle.field.specs.Walk.{Walk, done, cut, step, walk}
use Rattle.field.proofs.FieldLaws.{Bounds, field-bounds}
use Rattle.field.proofs.WalkLaws.{walk-done, walk-cut, walk_step}
use Rattle.field.proofs.Rest.{Rest}
use Rattle.request.specs.declared.name.Part.{Part}
use Rattle.request.specs.Table.{direct_part_tag, extension_part_tag}
use Rattle.request.specs.Name.{part_with, part_of, part_of_field, part_at, parts_in, after_parts}
use Rattle.field.specs.declared.Field.{Field}

-- ---- part_at
module _ (s : List ℕ) (at end : ℕ) (r : Option Field) (q : r ≡ field_at s at end) where
  pub part_cut : r ≡ None → None ≡ part_at s at end
  unfolding part_at
  part_cut g = rw (← q, g)

  module _ (f : Field) (g : r ≡ Some f) where
    pub part-direct : f.tag ≡ direct_part_tag → Some (part_with false f.from f.to) ≡ part_at s at end
    unfolding part_at part_of
    part-direct y = rw (← q, g) (simp (part_of, eq-eqb f.tag direct_part_tag y))

    pub part-extension : f.tag ≡ extension_part_tag → Some (part_with true f.from f.to) ≡ part_at s at end
    unfolding part_at part_of
    part-extension y = rw (← q, g, y)

    pub part-other : (f.tag ≡ direct_part_tag → ⊥) → (f.tag ≡ extension_part_tag → ⊥) → None ≡ part_at s at end
    unfolding part_at part_of
    part-other n m = rw (← q, g) (simp (part_of, ne_eqb f.tag direct_part_tag n, ne_eqb f.tag extension_part_tag m))

pub ruleset part_laws = (part_cut, part-direct, part-extension, part-other)

-- ---- the field that a part is
pub record PartField (s : List ℕ) (at end : ℕ) (p : Part) : Type 0 where
  pub tag : ℕ
  pub field : Some (field tag p.name.from p.name.to) ≡ field_at s at end
  pub is : part_of tag p.name.from p.name.to ≡ Some p

part-name : (x : Bool) (a e : ℕ) (p : Part) → Some (part_with x a e) ≡ Some p → span a e ≡ p.name
part-name x a e p g =
    let w : part_with x a e ≡ p = cc in
    ap (λ (o : Part). o.name) w

part-span : (t a e : ℕ) (p : Part) → part_of t a e ≡ Some p → span a e ≡ p.name
unfolding part_of
part-span t a e p g = go (eqb t direct_part_tag) (eqb t extension_part_tag) g
  where
    go : (b c : Bool) → elim b [ true ↦ Some (part_with false a e) | false ↦ elim c [ true ↦ Some (part_with true a e) | false ↦ None ] ] ≡ Some p
        → span a e ≡ p.name
    go true c g = part-name false a e p g
    go false true g = part-name true a e p g
    go false false g = never cc

part-open : (s : List ℕ) (at end : ℕ) (p : Part) (f : Option Field) → f ≡ field_at s at end → part_of_field f ≡ Some p → PartField s at end p
part-open s at end p None q g = never cc
part-open s at end p (Some found) q g =
    let w : span found.from found.to ≡ p.name = part-span found.tag found.from found.to p g in
    record {
      tag = found.tag;
      field = subst (λ (o : Span). Some (field found.tag o.from o.to) ≡ field_at s at end) w q;
      is = subst (λ (o : Span). part_of found.tag o.from o.to ≡ Some p) w g;
    }

module _ (s : List ℕ) (at end : ℕ) (r : Option Part) (q : r ≡ part_at s at end) (p : Part) (g : r ≡ Some p) where
  pub part_field : PartField s at end p
  unfolding part_at
  part_field = part-open s at end p (field_at s at end) refl (sym q ∙ g)

  pub part-bounds : Bounds at end p.name.from p.name.to
  part-bounds =
      let o : PartField s at end p = part_field in
      field-bounds s at end (Some (field o.tag p.name.from p.name.to)) o.field (field o.tag p.name.from p.name.to) refl

  pub part-ordered : p.name.from ≤ p.name.to
  part-ordered = part-bounds.ordered

  pub part-inside : p.name.to ≤ end
  part-inside = part-bounds.inside

  pub part-within : end ≤ length s → p.name.to ≤ length s
  part-within h = omega (arith, part-bounds.inside)

  pub part-further : at < p.name.to
  part-further = omega (arith, part-bounds.starts, part-bounds.ordered)

  pub part-less : at < end → end - p.name.to < end - at
  part-less h = omega (arith, part-further)

  -- a recursion's measure
  pub part_falls : (n : ℕ) → end - at ≡ n → end - p.name.to < n
  part_falls n h = omega (arith, part-further, part-inside)

  pub part_step : walk s at end ≡ step part_field.tag p.name.from p.name.to (walk s p.name.to end)
  part_step =
      let o : PartField s at end p = part_field in
      let h : at < end = omega (arith, part-further, part-inside) in
      walk_step s at end h (Some (field o.tag p.name.from p.name.to)) o.field (field o.tag p.name.from p.name.to) refl

pub ruleset part_places = (part-ordered, part-inside, part-within, part-further, part-less)

-- ---- where no part stands, whatever F makes of the fields from there on
module _ {A : Type 0} (F : Walk → A) (s : List ℕ) (at end : ℕ) (x : A) (d : F done ≡ x) (c : F cut ≡ x)
    (n : (t a e : ℕ) (w : Walk) → part_of t a e ≡ None → F (step t a e w) ≡ x) where
  no_part : at < end → (f : Option Field) → f ≡ field_at s at end → part_of_field f ≡ None → F (walk s at end) ≡ x
  no_part h None p g = ap F (walk-cut s at end h None p refl) ∙ c
  no_part h (Some here) p g = ap F (walk_step s at end h (Some here) p here refl) ∙ n here.tag here.from here.to (walk s here.to end) g

  walk-no-part : (r : Option Part) → r ≡ part_at s at end → r ≡ None → F (walk s at end) ≡ x
  unfolding part_at
  walk-no-part r q g = elim (dec_lt at end) [
    | yes h ↦ no_part h (field_at s at end) refl (sym q ∙ g)
    | no h ↦ ap F (walk-done s at end (omega arith)) ∙ d
  ]

-- ---- the parts from a place on, and where they end
module _ (s : List ℕ) (at end : ℕ) (r : Option Part) (q : r ≡ part_at s at end) where
  pub parts-nil : r ≡ None → parts_in (walk s at end) ≡ []
  parts-nil = walk-no-part parts_in s at end [] refl refl (λ t a e w n. rw n) r q

  pub after-parts-here : r ≡ None → after_parts at (walk s at end) ≡ at
  after-parts-here = walk-no-part (after_parts at) s at end at refl refl (λ t a e w n. rw n) r q

  module _ (p : Part) (g : r ≡ Some p) where
    pub parts-cons : parts_in (walk s at end) ≡ p ∷ parts_in (walk s p.name.to end)
    parts-cons = ap parts_in (part_step s at end r q p g) ∙ rw (part_field s at end r q p g).is

    pub after-parts-next : after_parts at (walk s at end) ≡ after_parts p.name.to (walk s p.name.to end)
    after-parts-next = ap (after_parts at) (part_step s at end r q p g) ∙ rw (part_field s at end r q p g).is

-- ---- a loop over parts: the answer v is what F gives of the fields that are left
module _ {A : Type 0} (v : A) (F : Walk → A) (s : List ℕ) (to i : ℕ) (k : Rest v F s to i) (r : Option Part) (q : r ≡ part_at s i to) where
  pub rest-no-part : (x : A) → F done ≡ x → F cut ≡ x → ((t a e : ℕ) (w : Walk) → part_of t a e ≡ None → F (step t a e w) ≡ x)
      → r ≡ None → v ≡ x
  rest-no-part x d c n g = k.rest ∙ walk-no-part F s i to x d c n r q g

  module _ (p : Part) (g : r ≡ Some p) where
    pub rest_part : (x : A)
        → ((t : ℕ) → part_of t p.name.from p.name.to ≡ Some p
        → F (step t p.name.from p.name.to (walk s p.name.to to)) ≡ x)
        → v ≡ x
    rest_part x f =
        let o : PartField s i to p = part_field s i to r q p g in
        k.rest ∙ ap F (part_step s i to r q p g) ∙ f o.tag o.is

    pub rest-part-next : (G : Walk → A)
        → ((t : ℕ) → part_of t p.name.from p.name.to ≡ Some p
        → F (step t p.name.from p.name.to (walk s p.name.to to)) ≡ G (walk s p.name.to to))
        → Rest v G s to p.name.to
    rest-part-next G f =
        record {
          reads = k.reads;
          within = part-inside s i to r q p g;
          inside = k.inside;
          rest = rest_part (G (walk s p.name.to to)) f;
        }
