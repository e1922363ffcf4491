-- The ways through the functions that tell whether a declaration is like another one.
-- Assumes nothing.
use Rattle.std.specs.Prelude.{◌≡◌, refl, Bool, true, false, ◌&&◌, List, ℕ, eqb, Some, None, Option}
use Rattle.basis.specs.First.{only_if}
use Rattle.basis.proofs.Kit.{eq-eqb, ne_eqb, not-true, not-false}
use Rattle.octets.specs.Octets.{same_bytes}
use Rattle.field.specs.Leaf.{text}
use Rattle.sheet.specs.declared.declaration.Declaration.{Declaration}
use Rattle.sheet.proofs.PlaceLaws.{extension_places_laws, field_places_laws}
use Rattle.scope.specs.Scope.{extends}
use Rattle.likeness.specs.declared.Like.{Like}
use Rattle.likeness.specs.declared.Way.{Way}
use Rattle.likeness.specs.declared.Way.TheVariants.{Own, Within, Off}
use Rattle.likeness.specs.inner.Likes.{is_like, field_likes, extension_likes, declared_likes}

-- ---- same_whole
module _ (x y : ℕ) (b c : Bool) where
  pub whole-other : (x ≡ y → ⊥) → false ≡ (eqb x y && b && c)
  whole-other h = rw (ne_eqb x y h)

  module _ (h : x ≡ y) (r : Bool) (q : r ≡ b) where
    pub whole-renamed : r ≡ false → false ≡ (eqb x y && b && c)
    whole-renamed p = rw (eq-eqb x y h, ← q, p)

    pub whole-named : r ≡ true → (v : Bool) → v ≡ c → v ≡ (eqb x y && b && c)
    whole-named p v u = rw (eq-eqb x y h, ← q, p) u

pub ruleset same_whole_laws = (whole-other, whole-renamed, whole-named)

-- ---- is_like
module _ (l : Like) (o s : List ℕ) (d : Declaration) where
  pub like-number-other : (l.declaration.shape.number ≡ d.shape.number → ⊥) → false ≡ is_like l o s d
  unfolding is_like
  like-number-other h = rw (ne_eqb l.declaration.shape.number d.shape.number h) (go l.whole)
    where
      go : (b : Bool) → false ≡ only_if b false false
      go true = refl
      go false = refl

  module _ (h : l.declaration.shape.number ≡ d.shape.number) where
    pub like-number : l.whole ≡ false → true ≡ is_like l o s d
    unfolding is_like
    like-number w = rw (w, eq-eqb l.declaration.shape.number d.shape.number h)

    pub like-whole : l.whole ≡ true → (r : Bool)
        → r ≡ (eqb l.declaration.shape.typ d.shape.typ && same_bytes (text o l.declaration.name) (text s d.name)
        && same_bytes (text o l.declaration.shape.path) (text s d.shape.path))
        → r ≡ is_like l o s d
    unfolding is_like
    like-whole w r u = rw (w, eq-eqb l.declaration.shape.number d.shape.number h) u

pub ruleset is_like_laws = (like-number-other, like-number, like-whole, not-true, not-false)

-- ---- in_field
module _ (l : Like) (o s : List ℕ) (w : Way) (u : Option Declaration) where
  pub field-within : (at : ℕ) → w ≡ Within at → 0 ≡ declared_likes (field_likes l o s w) u
  unfolding field_likes
  field-within at h = rw h (go u)
    where
      go : (u : Option Declaration) → 0 ≡ declared_likes (field_likes l o s (Within at)) u
      go None = refl
      go (Some d) = refl

  pub field_off : w ≡ Off → 0 ≡ declared_likes (field_likes l o s w) u
  unfolding field_likes
  field_off h = rw h (go u)
    where
      go : (u : Option Declaration) → 0 ≡ declared_likes (field_likes l o s Off) u
      go None = refl
      go (Some d) = refl

module _ (f : Declaration → ℕ) (u r : Option Declaration) (q : r ≡ u) where
  pub likes-none : r ≡ None → 0 ≡ declared_likes f u
  likes-none g = rw (← q, g)

  likes-some : (d : Declaration) → r ≡ Some d → (n : ℕ) → n ≡ f d → n ≡ declared_likes f u
  likes-some d g n p = rw (← q, g) p

module _ (l : Like) (o s : List ℕ) (w : Way) (h : w ≡ Own) (u r : Option Declaration) (q : r ≡ u) (d : Declaration) (g : r ≡ Some d)
    (b : Bool) (p : b ≡ is_like l o s d) where
  pub field-like : b ≡ true → 1 ≡ declared_likes (field_likes l o s w) u
  unfolding field_likes
  field-like e = likes-some (field_likes l o s w) u r q d g 1 (rw (h, ← p, e) refl)

  pub field-unlike : b ≡ false → 0 ≡ declared_likes (field_likes l o s w) u
  unfolding field_likes
  field-unlike e = likes-some (field_likes l o s w) u r q d g 0 (rw (h, ← p, e) refl)

pub ruleset in_field_laws = (field-within, field_off, likes-none, field-like, field-unlike, field_places_laws)

-- ---- in_extension
module _ (m : List ℕ) (l : Like) (o s : List ℕ) (u r : Option Declaration) (q : r ≡ u) (d : Declaration) (g : r ≡ Some d) (c : Bool)
    (k : c ≡ extends s m d) where
  pub extension-other : c ≡ false → 0 ≡ declared_likes (extension_likes m l o s) u
  unfolding extension_likes
  extension-other e = likes-some (extension_likes m l o s) u r q d g 0 (rw (← k, e) refl)

  module _ (h : c ≡ true) (b : Bool) (p : b ≡ is_like l o s d) where
    pub extension-like : b ≡ true → 1 ≡ declared_likes (extension_likes m l o s) u
    unfolding extension_likes
    extension-like e = likes-some (extension_likes m l o s) u r q d g 1 (rw (← k, h, ← p, e) refl)

    pub extension-unlike : b ≡ false → 0 ≡ declared_likes (extension_likes m l o s) u
    unfolding extension_likes
    extension-unlike e = likes-some (extension_likes m l o s) u r q d g 0 (rw (← k, h, ← p, e) refl)

pub ruleset in_extension_laws = (likes-none, extension-other, extension-like, extension-unlike, extension_places_laws)
