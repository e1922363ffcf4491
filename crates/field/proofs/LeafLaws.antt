-- The laws of `leaf_at`: the ways through the functions that look for a leaf, whatever its test, and where a leaf lies.
-- Assumes nothing.
use Rattle.std.specs.Prelude.{◌≡◌, refl, Bool, true, false, ◌&&◌, List, ℕ, ◌+◌, ◌-◌, ◌≤◌, ◌<◌, eqb, length, None, Some, Option}
use Rattle.basis.specs.Kit.{sym, ◌∙◌}
use Rattle.basis.proofs.Kit.{arith, eq-eqb, ne_eqb}
use borrow.Author.Tests.{eqb-true}
use Rattle.basis.specs.First.{only_if}
use Rattle.basis.proofs.Never.{never}
use Rattle.octets.specs.Octets.{part}
use Rattle.octets.proofs.Parts.{part_length}
use Rattle.field.specs.Field.{field_at}
use Rattle.field.specs.Leaf.{any_bytes, of_size, on_leaf, leaf_of, leaf_at, span}
use Rattle.field.proofs.FieldLaws.{Bounds, field-bounds}
use Rattle.field.specs.declared.Field.{Field}
use Rattle.field.specs.declared.Span.{Span}

-- ---- from the field
module _ (k : ℕ) (s : List ℕ) (at end : ℕ) (r : Option Field) (q : r ≡ field_at s at end) where
  pub leaf-cut : r ≡ None → None ≡ leaf_at k any_bytes s at end
  unfolding leaf_at
  leaf-cut g = rw (← q, g)

  module _ (f : Field) (g : r ≡ Some f) where
    pub leaf-other : (f.tag ≡ k → ⊥) → None ≡ leaf_at k any_bytes s at end
    unfolding leaf_at
    leaf-other n = rw (← q, g) (simp (leaf_of, ne_eqb f.tag k n))

    pub leaf-any : f.tag ≡ k → Some (span f.from f.to) ≡ leaf_at k any_bytes s at end
    unfolding leaf_at
    leaf-any n = rw (← q, g) (simp (leaf_of, eq-eqb f.tag k n))

-- ---- where a leaf lies
leaf-inv : (k : ℕ) (good : List ℕ → Bool) (s : List ℕ) (at end : ℕ) (u : Span) (f : Option Field) → f ≡ field_at s at end
    → Some u ≡ leaf_of k good s f → Bounds at end u.from u.to
leaf-inv k good s at end u None q p = never cc
leaf-inv k good s at end u (Some found) q p = go (eqb found.tag k) (good (part s found.from found.to)) p
  where
    go : (b b' : Bool) → Some u ≡ only_if (b && b') (Some (span found.from found.to)) None → Bounds at end u.from u.to
    go false b' p = never cc
    go true false p = never cc
    go true true p =
        let x : u ≡ span found.from found.to = cc in
        rw x (field-bounds s at end (Some found) q found refl)

module _ (k : ℕ) (good : List ℕ → Bool) (s : List ℕ) (at end : ℕ) (r : Option Span) (q : r ≡ leaf_at k good s at end) (p : Span)
    (g : r ≡ Some p) where
  pub leaf-bounds : Bounds at end p.from p.to
  unfolding leaf_at
  leaf-bounds = leaf-inv k good s at end p (field_at s at end) refl (sym g ∙ q)

  pub leaf-ordered : p.from ≤ p.to
  leaf-ordered = leaf-bounds.ordered

  pub leaf_inside : p.to ≤ end
  leaf_inside = leaf-bounds.inside

  pub leaf-within : end ≤ length s → p.to ≤ length s
  leaf-within h = omega (arith, leaf-bounds.inside)

-- ---- from a leaf with any payload to one that passes a test
module _ (k : ℕ) (good : List ℕ → Bool) (s : List ℕ) (at end : ℕ) where
  any-other : (f : Option Field) → None ≡ leaf_of k any_bytes s f → None ≡ leaf_of k good s f
  any-other None p = refl
  any-other (Some here) p = go (eqb here.tag k) (good (part s here.from here.to)) p
    where
      go : (b b' : Bool) → None ≡ only_if (b && true) (Some (span here.from here.to)) None → None ≡ only_if (b && b') (Some (span here.from here.to)) None
      go true b' p = never cc
      go false b' p = refl

  any_same : (f : Option Field) (q : Span) → Some q ≡ leaf_of k any_bytes s f → (b : Bool) → b ≡ good (part s q.from q.to)
      → leaf_of k good s f ≡ only_if b (Some q) None
  any_same None q p b x = never cc
  any_same (Some it) q p b x = go (eqb it.tag k) p
    where
      go : (c : Bool) → Some q ≡ only_if (c && true) (Some (span it.from it.to)) None → only_if (c && good (part s it.from it.to)) (Some (span it.from it.to)) None ≡ only_if b (Some q) None
      go false p = never cc
      go true p =
          let u : q ≡ span it.from it.to = cc in
          rw (x, u)

  module _ (r : Option Span) (q : r ≡ leaf_at k any_bytes s at end) where
    pub leaf-none : r ≡ None → None ≡ leaf_at k good s at end
    unfolding leaf_at
    leaf-none g = any-other (field_at s at end) (sym g ∙ q)

    module _ (p : Span) (g : r ≡ Some p) (b : Bool) (x : b ≡ good (part s p.from p.to)) where
      leaf-open : leaf_at k good s at end ≡ only_if b (Some p) None
      unfolding leaf_at
      leaf-open = any_same (field_at s at end) p (sym g ∙ q) b x

      pub leaf-bad : b ≡ false → None ≡ leaf_at k good s at end
      leaf-bad y = rw (leaf-open, y)

      pub leaf-good : b ≡ true → Some p ≡ leaf_at k good s at end
      leaf-good y = rw (leaf-open, y)

-- ---- the length of a payload
module _ (k : ℕ) (s : List ℕ) (at end : ℕ) (r : Option Span) (q : r ≡ leaf_at k any_bytes s at end) (p : Span) (n : ℕ) (g : r ≡ Some p)
    (h : end ≤ length s) where
  pub size-other : (p.to - p.from ≡ n → ⊥) → None ≡ leaf_at k (of_size n) s at end
  size-other x =
      let l = part_length s p.from p.to (leaf-within k any_bytes s at end r q p g h) in
      leaf-bad k (of_size n) s at end r q p g false (rw l (sym (ne_eqb (p.to - p.from) n x))) refl

  pub size_same : p.to - p.from ≡ n → Some p ≡ leaf_at k (of_size n) s at end
  size_same x =
      let l = part_length s p.from p.to (leaf-within k any_bytes s at end r q p g h) in
      leaf-good k (of_size n) s at end r q p g true (rw l (sym (eq-eqb (p.to - p.from) n x))) refl

pub ruleset leaf_any_laws = (leaf-cut, leaf-other, leaf-any)

pub ruleset sized_laws = (leaf-none, size-other, size_same, leaf-ordered)

-- ---- what a leaf passed
leaf-passed : (k : ℕ) (good : List ℕ → Bool) (s : List ℕ) (q : Span) (f : Option Field) → Some q ≡ leaf_of k good s f → good (part s q.from q.to) ≡ true
leaf-passed k good s q None p = never cc
leaf-passed k good s q (Some it1) p = go (eqb it1.tag k) (good (part s it1.from it1.to)) refl p
  where
    go : (b b' : Bool) → good (part s it1.from it1.to) ≡ b' → Some q ≡ only_if (b && b') (Some (span it1.from it1.to)) None → good (part s q.from q.to) ≡ true
    go false b' x p = never cc
    go true false x p = never cc
    go true true x p =
        let u : q ≡ span it1.from it1.to = cc in
        rw u x

leaf-dropped : (k : ℕ) (good : List ℕ → Bool) (s : List ℕ) (q : Span) (f : Option Field) → Some q ≡ leaf_of k good s f
    → Some q ≡ leaf_of k any_bytes s f
leaf-dropped k good s q None p = p
leaf-dropped k good s q (Some it1) p = go (eqb it1.tag k) (good (part s it1.from it1.to)) p
  where
    go : (b b' : Bool) → Some q ≡ only_if (b && b') (Some (span it1.from it1.to)) None → Some q ≡ only_if (b && true) (Some (span it1.from it1.to)) None
    go false b' p = p
    go true false p = never cc
    go true true p = p

module _ (k : ℕ) (good : List ℕ → Bool) (s : List ℕ) (at end : ℕ) (q : Span) (p : leaf_at k good s at end ≡ Some q) where
  pub leaf-tested : good (part s q.from q.to) ≡ true
  unfolding leaf_at
  leaf-tested = leaf-passed k good s q (field_at s at end) (sym p)

  pub leaf-untested : leaf_at k any_bytes s at end ≡ Some q
  unfolding leaf_at
  leaf-untested = sym (leaf-dropped k good s q (field_at s at end) (sym p))

module _ (s : List ℕ) (u : Span) (r : Option Span) (g : r ≡ Some u) (k at end : ℕ) where
  pub size_holds : (n : ℕ) → r ≡ leaf_at k (of_size n) s at end → end ≤ length s → u.from + n ≤ length s
  unfolding leaf_at
  size_holds n q h =
      let o : u.from ≤ u.to = leaf-ordered k (of_size n) s at end r q u g in
      let i : u.to ≤ length s = leaf-within k (of_size n) s at end r q u g h in
      let l : length (part s u.from u.to) ≡ u.to - u.from = part_length s u.from u.to i in
      let p : length (part s u.from u.to) ≡ n = eqb-true (length (part s u.from u.to)) n (leaf-passed k (of_size n) s u (field_at s at end) (sym g ∙ q)) in
      omega arith

  pub byte-holds : r ≡ leaf_at k (of_size 1) s at end → end ≤ length s → u.from < length s
  byte-holds q h = omega (arith, size_holds 1 q h)

pub ruleset size_laws = (size_holds, byte-holds)

-- ---- what is said of a leaf, where it is not what is said of none
pub on-leaf-some : {A : Type 0} (none x : A) (l : Option Span) (some : Span → A) (P : Type 0) → (x ≡ none → ⊥)
    → ((q : Span) → l ≡ Some q → x ≡ some q → P) → x ≡ on_leaf none l some → P
on-leaf-some none x None some P n f p = absurd (n p)
on-leaf-some none x (Some place) some P n f p = f place refl p
