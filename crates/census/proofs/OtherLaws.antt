-- The laws of what one declaration counts for: the ways through the functions that look at no message.
-- Assumes nothing.
use Rattle.std.specs.Prelude.{◌≡◌, refl, true, false, List, ℕ, ◌≤◌, length, None, Some, Option}
use Rattle.basis.specs.Kit.{sym, ◌∙◌}
use Rattle.basis.proofs.Kit.{arith, not-true, not-false}
use Rattle.basis.proofs.Never.{never}
use Rattle.field.specs.Leaf.{text, any_bytes, on_leaf, leaf_at}
use Rattle.field.proofs.LeafLaws.{leaf-bounds}
use Rattle.sheet.specs.declared.declaration.Declaration.{Declaration}
use Rattle.sheet.specs.Table.{extension_tag, enum_tag, field_tag, name_tag}
use Rattle.sheet.specs.Declaration.{extension_at, message_field_at}
use Rattle.sheet.specs.Tree.{none, enum_in, message_in}
use Rattle.sheet.proofs.TreeLaws.{enum-named, enum-unnamed, item-enum}
use Rattle.sheet.proofs.TreeLaws.{item-extension, item-no-extension, item-field, item-no-field}
use Rattle.sheet.proofs.MemberLaws.{item-cases}
use Rattle.sheet.proofs.ShapeLaws.{Placed as Lying}
use Rattle.sheet.proofs.PlaceLaws.{extension-places}
use Rattle.scope.specs.inner.Steps.{item_at}
use Rattle.likeness.specs.declared.Like.{Like}
use Rattle.likeness.specs.declared.Way.{Way}
use Rattle.likeness.specs.declared.Way.TheVariants.{Own, Within, Off}
use Rattle.likeness.specs.inner.Likes.{Placed, field_likes, extension_likes, declared_likes}
use Rattle.census.specs.declared.Asked.{Asked}
use Rattle.census.specs.declared.Asked.TheVariants.{Bearers, Numbers}
use Rattle.census.specs.inner.Census.{AskedOf, asked-numbers, onward, wanted, own, named}
use Rattle.census.specs.inner.Census.{items_asked}
use Rattle.field.specs.declared.Span.{Span}

-- nothing is never too many
pub none-few : (k : ℕ) → 0 ≤ k
none-few k = omega arith

-- ---- own
module _ (x : Asked) (g : ℕ) (w : Way) where
  pub own-numbers : (l : Like) → x ≡ Numbers l → 0 ≡ own x g w
  own-numbers l h = rw h

  module _ (k : ℕ) (h : x ≡ Bearers k) where
    pub own-unwanted : wanted k g ≡ false → 0 ≡ own x g w
    own-unwanted y = rw h (go w)
      where
        go : (w : Way) → 0 ≡ own (Bearers k) g w
        go Own = rw y
        go (Within at) = refl
        go Off = refl

    pub own-wanted : wanted k g ≡ true → w ≡ Own → 1 ≡ own x g w
    own-wanted y z = rw (h, z, y)

    pub own-within : (at : ℕ) → w ≡ Within at → 0 ≡ own x g w
    own-within at z = rw (h, z)

    pub own-off : w ≡ Off → 0 ≡ own x g w
    own-off z = rw (h, z)

pub one-few : 1 ≤ 1
one-few = omega arith

pub ruleset own_laws = (own-numbers, own-unwanted, own-wanted, own-within, own-off, none-few, one-few, not-true, not-false)

-- ---- name_at
module _ (s : List ℕ) (t a e : ℕ) where
  pub name-enum : t ≡ enum_tag → (r : Option Span) → r ≡ leaf_at name_tag any_bytes s a e → r ≡ named (item_at 0 s t a e)
  name-enum h r q = rw (item-enum (message_in 0 s) s t a e none h) (go r q)
    where
      go : (r : Option Span) → r ≡ leaf_at name_tag any_bytes s a e → r ≡ named (enum_in s a e none)
      go None q = rw (enum-unnamed s a e none None q refl)
      go (Some place) q = rw (enum-named s a e none (Some place) q place refl)

  pub name-other : (t ≡ enum_tag → ⊥) → (t ≡ extension_tag → ⊥) → None ≡ named (item_at 0 s t a e)
  name-other h g =
      item-cases (λ f. None ≡ named (f none)) s a e refl 0 t
      (λ _ _ _ _. refl) (λ y. absurd (g y)) (λ y. absurd (h y)) (λ _ _ _. refl)

  module _ (h : t ≡ extension_tag) (r : Option Declaration) (q : r ≡ extension_at s a e) where
    pub name-none : r ≡ None → None ≡ named (item_at 0 s t a e)
    name-none g = rw (item-no-extension (message_in 0 s) s t a e none h r q g)

    pub name-extension : (y : Declaration) → r ≡ Some y → Some y.name ≡ named (item_at 0 s t a e)
    name-extension y g = rw (item-extension (message_in 0 s) s t a e none h r q y g)

pub ruleset name_laws = (name-enum, name-other, name-none, name-extension)

-- ---- bears
module _ (s : List ℕ) (t a e : ℕ) (r : Option Span) (q : r ≡ named (item_at 0 s t a e)) where
  name-lies : (l : Span) → r ≡ Some l → Lying e l.from l.to
  name-lies l g =
      item-cases (λ f. named (f none) ≡ Some l → Lying e l.from l.to) s a e (λ u. never cc) 0 t
      (λ _ z. absurd (z refl))
      (λ _ y p u. let v : y.name ≡ l = cc in rw v at (extension-places s a e y (sym p)).name)
      (λ _ n p u.
      let v : leaf_at name_tag any_bytes s a e ≡ Some l = cc in
      let x = leaf-bounds name_tag any_bytes s a e _ refl l v in record { ordered = x.ordered; inside = x.inside })
      (λ _ _ _ u. never cc)
      (sym q ∙ g)

  pub name-ordered : (p : Span) → r ≡ Some p → p.from ≤ p.to
  name-ordered p g = (name-lies p g).ordered

  pub name-within : (p : Span) → r ≡ Some p → e ≤ length s → p.to ≤ length s
  name-within p g h = let z = name-lies p g in omega (arith, z.inside)

  pub bears-none : (f : Span → ℕ) → r ≡ None → 0 ≡ on_leaf 0 (named (item_at 0 s t a e)) f
  bears-none f g = rw (← q, g)

  pub bears-some : (u : Span) → r ≡ Some u → (f : Span → ℕ) (y : ℕ) → y ≡ f u → y ≡ on_leaf 0 (named (item_at 0 s t a e)) f
  bears-some u g f y p = rw (← q, g) p

pub bears-own : (x : Asked) (g : ℕ) (m : List ℕ) (w : Way) (n : List ℕ) (v : Way) → v ≡ onward m w n → (y : ℕ) → y ≡ own x g v
    → y ≡ own x g (onward m w n)
bears-own x g m w n v u y p = rw u at p

pub ruleset bears_laws = (bears-none, bears-some, bears-own, none-few, name-ordered, name-within)

-- ---- in_other
pub asked-placed : (o : List ℕ) (x : Asked) (l : Like) → x ≡ Numbers l → AskedOf o x → Placed o l
asked-placed o x l h k = go (rw h at k)
  where
    go : AskedOf o (Numbers l) → Placed o l
    go (asked-numbers _ y) = y

module _ (m : List ℕ) (x : Asked) (o s : List ℕ) (w : Way) (t a e : ℕ) where
  pub in-other-bears : (k : ℕ) → x ≡ Bearers k → (y : ℕ)
      → y ≡ on_leaf 0 (named (item_at 0 s t a e)) (λ p. own x t (onward m w (text s p)))
      → y ≡ items_asked m x o s w (item_at 0 s t a e)
  in-other-bears k h y p =
      p
      ∙ rw h
      (item-cases
      (λ f. on_leaf 0 (named (f none)) (λ q. own (Bearers k) t (onward m w (text s q))) ≡ items_asked m (Bearers k) o s w (f none))
      s a e refl 0 t (λ _ z. absurd (z refl)) (λ g y _. rw g (omega arith)) (λ g n _. rw g (omega arith)) (λ _ y _. refl))

  module _ (l : Like) (h : x ≡ Numbers l) where
    pub in-other-extension : t ≡ extension_tag → (y : ℕ) → y ≡ declared_likes (extension_likes m l o s) (extension_at s a e)
        → y ≡ items_asked m x o s w (item_at 0 s t a e)
    in-other-extension g y p = rw h (go (extension_at s a e) refl p)
      where
        go : (r : Option Declaration) → r ≡ extension_at s a e → y ≡ declared_likes (extension_likes m l o s) r
            → y ≡ items_asked m (Numbers l) o s w (item_at 0 s t a e)
        go None q p = rw (item-no-extension (message_in 0 s) s t a e none g None q refl) p
        go (Some z) q p = rw (item-extension (message_in 0 s) s t a e none g (Some z) q z refl) (omega (arith, p))

    pub in-other-field : t ≡ field_tag → (y : ℕ) → y ≡ declared_likes (field_likes l o s w) (message_field_at s a e)
        → y ≡ items_asked m x o s w (item_at 0 s t a e)
    in-other-field g y p = rw h (go (message_field_at s a e) refl p)
      where
        go : (r : Option Declaration) → r ≡ message_field_at s a e → y ≡ declared_likes (field_likes l o s w) r
            → y ≡ items_asked m (Numbers l) o s w (item_at 0 s t a e)
        go None q p = rw (item-no-field (message_in 0 s) s t a e none g None q refl) p
        go (Some z) q p = rw (item-field (message_in 0 s) s t a e none g (Some z) q z refl) (omega (arith, p))

    -- the name of an enum counts for no number
    pub in-other-none : (t ≡ extension_tag → ⊥) → (t ≡ field_tag → ⊥) → 0 ≡ items_asked m x o s w (item_at 0 s t a e)
    in-other-none f g =
        rw h
        (item-cases (λ f. 0 ≡ items_asked m (Numbers l) o s w (f none)) s a e refl 0 t
        (λ _ z. absurd (z refl)) (λ y. absurd (f y)) (λ _ n _. refl) (λ y. absurd (g y)))

pub ruleset in_other_laws = (in-other-bears, in-other-extension, in-other-field, in-other-none, asked-placed, none-few)
