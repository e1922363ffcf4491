-- The laws of type paths and of shapes: the ways through `has_type_path`, `type_path_at` and `shape_at`, and where a type path lies.
-- Assumes nothing.
use Rattle.std.specs.Prelude.{◌≡◌, refl, Bool, true, false, ◌||◌, List, ℕ, ◌≤◌, eqb, length, get_or, None, Some, Option}
use Rattle.basis.specs.Kit.{sym, ◌∙◌}
use Rattle.basis.proofs.Kit.{arith, eq-eqb, ne_eqb, not-true, not-false}
use Rattle.basis.specs.First.{only_if}
use Rattle.basis.proofs.Never.{never}
use Rattle.octets.specs.Octets.{big_at}
use Rattle.types.specs.Types.{TYPE_GROUP, TYPE_MESSAGE, TYPE_ENUM}
use Rattle.field.specs.Leaf.{any_bytes, of_size, leaf_at, span}
use Rattle.field.proofs.LeafLaws.{leaf-ordered, leaf_inside, size_laws, on-leaf-some}
use Rattle.sheet.specs.declared.declaration.Shape.{Shape}
use Rattle.sheet.specs.Table.{number_tag, type_tag, label_tag, type_path_tag}
use Rattle.sheet.specs.Declaration.{has_type_path, last_at, type_path_at, shape, shape_at}
use Rattle.field.specs.declared.Span.{Span}

-- ---- has_type_path
pub has_type_path_is : (t : ℕ) → (eqb t TYPE_GROUP || eqb t TYPE_MESSAGE || eqb t TYPE_ENUM) ≡ has_type_path t
unfolding has_type_path
has_type_path_is t = refl

-- ---- type_path_at
module _ (t : ℕ) (s : List ℕ) (at end : ℕ) (b : Bool) (x : b ≡ has_type_path t) where
  module _ (y : b ≡ false) where
    pub type-path-more : (at ≡ end → ⊥) → None ≡ type_path_at t s at end
    unfolding type_path_at
    type-path-more h = simp (type_path_at, ← x, y, ne_eqb at end h)

    pub type-path-none : at ≡ end → Some (span 0 0) ≡ type_path_at t s at end
    unfolding type_path_at
    type-path-none h = simp (type_path_at, ← x, y, eq-eqb at end h)

  module _ (y : b ≡ true) (r : Option Span) (q : r ≡ leaf_at type_path_tag any_bytes s at end) where
    pub type-path-lost : r ≡ None → None ≡ type_path_at t s at end
    unfolding type_path_at
    type-path-lost g = simp (type_path_at, ← x, y, ← q, g)

    module _ (p : Span) (g : r ≡ Some p) where
      pub type-path-early : (p.to ≡ end → ⊥) → None ≡ type_path_at t s at end
      unfolding type_path_at
      type-path-early h = simp (type_path_at, ← x, y, ← q, g, ne_eqb p.to end h)

      pub type-path-whole : p.to ≡ end → Some p ≡ type_path_at t s at end
      unfolding type_path_at
      type-path-whole h = simp (type_path_at, ← x, y, ← q, g, eq-eqb p.to end h)

pub ruleset type_path_laws = (type-path-more, type-path-none, type-path-lost, type-path-early, type-path-whole, not-true, not-false)

-- ---- shape_at
module _ (s : List ℕ) (at end : ℕ) (r : Option Span) (q : r ≡ leaf_at number_tag (of_size 4) s at end) where
  pub shape-no-number : r ≡ None → None ≡ shape_at s at end
  unfolding shape_at
  shape-no-number g = rw (← q, g)

  module _ (w : Span) (g : r ≡ Some w) (r' : Option Span) (q' : r' ≡ leaf_at type_tag (of_size 1) s w.to end) where
    pub shape-no-type : r' ≡ None → None ≡ shape_at s at end
    unfolding shape_at
    shape-no-type g' = rw (← q, g, ← q', g')

    module _ (it : Span) (g' : r' ≡ Some it) (r'' : Option Span) (q'' : r'' ≡ leaf_at label_tag (of_size 1) s it.to end) where
      pub shape-no-label : r'' ≡ None → None ≡ shape_at s at end
      unfolding shape_at
      shape-no-label g'' = rw (← q, g, ← q', g', ← q'', g'')

      module _ (it2 : Span) (g'' : r'' ≡ Some it2) (typ : ℕ) (y : typ ≡ get_or s it.from 0) (p : Option Span) (z : p ≡ type_path_at typ s it2.to end) where
        pub shape-no-path : p ≡ None → None ≡ shape_at s at end
        unfolding shape_at
        shape-no-path x = rw (← q, g, ← q', g', ← q'', g'', ← y, ← z, x)

        pub shape-whole : (l : Span) → p ≡ Some l → (number : ℕ) → number ≡ big_at 4 s w.from → (label : ℕ) → label ≡ get_or s it2.from 0
            → Some (shape number typ label l) ≡ shape_at s at end
        unfolding shape_at
        shape-whole l x number u label v = rw (← q, g, ← q', g', ← q'', g'', ← y, ← z, x, ← u, ← v)

-- ---- where a type path lies
pub record Placed (end from to : ℕ) : Type 0 where
  pub ordered : from ≤ to
  pub inside : to ≤ end

type-path-lies : (t : ℕ) (s : List ℕ) (at end : ℕ) (w : Span) → Some w ≡ type_path_at t s at end → Placed end w.from w.to
unfolding type_path_at
type-path-lies t s at end w p = go (has_type_path t) (eqb at end) (leaf_at type_path_tag any_bytes s at end) refl p
  where
    last : (u : Span) → Some u ≡ leaf_at type_path_tag any_bytes s at end → (b : Bool) → Some w ≡ only_if b (Some u) None → Placed end w.from w.to
    last u q false p = never cc
    last u q true p =
        record {
          ordered = leaf-ordered type_path_tag any_bytes s at end (Some w) (p ∙ q) w refl;
          inside = leaf_inside type_path_tag any_bytes s at end (Some w) (p ∙ q) w refl;
        }

    go : (b b' : Bool) (l : Option Span) → l ≡ leaf_at type_path_tag any_bytes s at end
        → Some w ≡ elim b [ true ↦ last_at end l | false ↦ only_if b' (Some (span 0 0)) None ] → Placed end w.from w.to
    go false false l q p = never cc
    go false true l q p =
        let u : w ≡ span 0 0 = cc in
        rw u (record { ordered = omega arith; inside = omega arith })
    go true b' None q p = never cc
    go true b' (Some place) q p = last place q (eqb place.to end) p

pub shape-lies : (s : List ℕ) (at end : ℕ) (h : Shape) → Some h ≡ shape_at s at end → Placed end h.path.from h.path.to
unfolding shape_at
shape-lies s at end h =
    on-leaf-some None (Some h) (leaf_at number_tag (of_size 4) s at end) _ L none λ z _.
    on-leaf-some None (Some h) (leaf_at type_tag (of_size 1) s z.to end) _ L none λ w _.
    on-leaf-some None (Some h) (leaf_at label_tag (of_size 1) s w.to end) _ L none λ l _.
    on-leaf-some None (Some h) (type_path_at (get_or s w.from 0) s l.to end) _ L none λ y x p.
    let u : h ≡ shape (big_at 4 s z.from) (get_or s w.from 0) (get_or s l.from 0) y = cc in
    rw u (type-path-lies (get_or s w.from 0) s l.to end y (sym x))
  where
    L : Type 0
    L = Placed end h.path.from h.path.to

    none : Some h ≡ None → ⊥
    none p = never cc

module _ (s : List ℕ) (at end : ℕ) (r : Option Shape) (q : r ≡ shape_at s at end) (h : Shape) (g : r ≡ Some h) where
  pub shape-path-ordered : h.path.from ≤ h.path.to
  shape-path-ordered = (shape-lies s at end h (sym g ∙ q)).ordered

  pub shape-path-within : end ≤ length s → h.path.to ≤ length s
  shape-path-within k = omega (arith, (shape-lies s at end h (sym g ∙ q)).inside)

pub ruleset shape_laws =
    (shape-no-number, shape-no-type, shape-no-label, shape-no-path, shape-whole, leaf_inside, size_laws)
