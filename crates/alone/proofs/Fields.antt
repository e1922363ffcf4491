-- A field that is whole up to one end is the same up to any other end behind it, and in another request at a place that corresponds.
-- Assumes nothing.
use Rattle.std.specs.Prelude.{◌≡◌, refl, Bool, true, false, ◌&&◌, List, ℕ, ◌+◌, ◌≤◌, eqb, ltb, get_or, None, Some, Option}
use Rattle.basis.specs.Kit.{sym, ap, ◌∙◌}
use Rattle.basis.proofs.Kit.{arith}
use mathlib.Core.Path.{subst₂}
use borrow.Author.Tests.{eqb-true}
use Rattle.basis.specs.First.{only_if}
use Rattle.basis.proofs.Never.{never}
use Rattle.octets.specs.Octets.{big_at}
use Rattle.field.specs.Field.{header, field_at, field}
use Rattle.field.specs.Leaf.{span, any_bytes, leaf_of, leaf_at}
use Rattle.field.proofs.FieldLaws.{field-whole}
use Rattle.alone.proofs.Windows.{Twin, Here, SameSpan}
use Rattle.alone.proofs.Walks.{SameField, both-cut, both-whole, field-same}
use Rattle.field.specs.declared.Field.{Field}
use Rattle.field.specs.declared.Span.{Span}

-- ---- another end
module _ (s : List ℕ) (at end t a e : ℕ) where
  pub field_end : field_at s at end ≡ Some (field t a e) → (end' : ℕ) → e ≤ end' → field_at s at end' ≡ Some (field t a e)
  unfolding field_at
  field_end q end' l = go (ltb end (at + header)) (ltb end (at + header + n)) q
    where
      n : ℕ
      n = big_at 2 s (at + 1)

      go : (b b' : Bool)
          → elim b [ true ↦ None | false ↦ elim b' [ true ↦ None | false ↦ Some (field (get_or s at 0) (at + header) (at + header + n)) ] ]
          ≡ Some (field t a e) → field_at s at end' ≡ Some (field t a e)
      go true b' p = never cc
      go false true p = never cc
      go false false p =
          let z : field (get_or s at 0) (at + header) (at + header + n) ≡ field t a e = cc in
          let u : at + header + n ≡ e = ap (λ (f : Field). f.to) z in
          sym (field-whole s at end' (omega arith) (omega arith) n refl (omega arith)) ∙ p

-- ---- the field that a leaf is
leaf-of : (k : ℕ) (s : List ℕ) (f : Option Field) (q : Span) → leaf_of k any_bytes s f ≡ Some q → f ≡ Some (field k q.from q.to)
leaf-of k s None q p = never cc
leaf-of k s (Some found) q p = go (eqb found.tag k) refl p
  where
    go : (b : Bool) → eqb found.tag k ≡ b → only_if (b && true) (Some (span found.from found.to)) None ≡ Some q → Some found ≡ Some (field k q.from q.to)
    go false x p = never cc
    go true x p =
        let y : q ≡ span found.from found.to = cc in
        rw (y, ← eqb-true found.tag k x) refl

pub leaf-field : (k : ℕ) (s : List ℕ) (at end : ℕ) (p : Span) → leaf_at k any_bytes s at end ≡ Some p → field_at s at end ≡ Some (field k p.from p.to)
unfolding leaf_at
leaf-field k s at end p = leaf-of k s (field_at s at end) p

-- ---- a whole field in another request
pub record Moved {r r' : List ℕ} (w : Twin r r') (t a e : ℕ) (f : Option Field) : Type 0 where
  pub from : ℕ
  pub to : ℕ
  pub places : SameSpan w (span a e) (span from to)
  pub whole : f ≡ Some (field t from to)

module _ {r r' : List ℕ} (w : Twin r r') (t a e : ℕ) where
  moved-of : {f f' : Option Field} → SameField w f f' → f ≡ Some (field t a e) → Moved w t a e f'
  moved-of both-cut q = never cc
  moved-of (both-whole {t = k} {x} {x'} {y} {y'} h) q =
      let z : field k x x' ≡ field t a e = cc in
      let i : k ≡ t = ap (λ (f : Field). f.tag) z in
      let j : x ≡ a = ap (λ (f : Field). f.from) z in
      let l : x' ≡ e = ap (λ (f : Field). f.to) z in
      record {
        from = y;
        to = y';
        places = subst₂ (λ (m n : ℕ). SameSpan w (span m n) (span y y')) j l h;
        whole = ap (λ (n : ℕ). Some (field n y y')) i;
      }

  pub field-moved : {x y y' : ℕ} → Here w x y → Here w e y' → field_at r x e ≡ Some (field t a e) → Moved w t a e (field_at r' y y')
  field-moved h k q = moved-of (field-same w h k) q
