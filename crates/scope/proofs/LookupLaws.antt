-- The laws of names and bodies in one field, and of the ways through `named_at`, `body_at`, `body_named`, `down` and `enum_named`.
--
--             body_of o == where the body of a message stands, if there is one
--   message_among s n i == the first message of the name n among the items
--              inner p q == the place of a message of the scope p whose body is q
--
-- Assumes nothing.
use Rattle.std.specs.Prelude.{◌≡◌, refl, Bool, true, false, List, [], ◌∷◌, ℕ, ◌-◌, eqb, Option, Some, None}
use Rattle.basis.specs.Kit.{sym, ap, ◌∙◌}
use Rattle.basis.proofs.Kit.{eq-eqb, ne_eqb, not-true, not-false}
use borrow.Author.Tests.{eqb-true, eqb-false}
use Rattle.octets.specs.Octets.{same_bytes}
use Rattle.field.specs.declared.Span.{Span}
use Rattle.field.specs.Leaf.{span, is_text, any_bytes, on_leaf, leaf_at}
use Rattle.field.specs.Walk.{Walk, done, cut, step, walk}
use Rattle.field.proofs.LeafLaws.{leaf-ordered, leaf-within, leaf-none, leaf-bad, leaf-good}
use Rattle.field.proofs.Seek.{seek, seek_is, seek_laws}
use Rattle.field.proofs.InFields.{sought_laws}
use Rattle.sheet.specs.Table.{message_tag, enum_tag, name_tag}
use Rattle.sheet.specs.Tree.{Items, none, values_in, item_in, message_in, items_in}
use Rattle.sheet.specs.Members.{Message, messages_of, enums_of}
use Rattle.sheet.proofs.MemberLaws.{messages-other, messages-beyond, messages-unnamed, messages-named}
use Rattle.sheet.proofs.MemberLaws.{enums-other, enums-unnamed, enums-named}
use Rattle.scope.specs.declared.lookup.LookupScope.{LookupScope}
use Rattle.basis.specs.First.{told, first, given}
use Rattle.scope.specs.Scope.{holding, message_scope, down, enum_named}
use Rattle.scope.specs.inner.Answers.{placed, bodied}
use Rattle.scope.specs.inner.Steps.{tells_leaf, first_of, body_at, body_named}

-- ---- named_at
pub ruleset named_at_laws = (leaf-none, leaf-bad, leaf-good, leaf-ordered, leaf-within, not-true, not-false)

-- ---- body_at
module _ (k : ℕ) (n s : List ℕ) (t a e : ℕ) where
  pub body-other : (t ≡ k → ⊥) → None ≡ body_at k n s t a e
  unfolding body_at
  body-other o = simp (body_at, ne_eqb t k o)

  module _ (h : t ≡ k) (r : Option Span) (q : r ≡ leaf_at name_tag (same_bytes n) s a e) where
    pub body-unnamed : r ≡ None → None ≡ body_at k n s t a e
    unfolding body_at
    body-unnamed g = simp (body_at, eq-eqb t k h, ← q, g)

    pub body-named : (p : Span) → r ≡ Some p → Some (span p.to e) ≡ body_at k n s t a e
    unfolding body_at
    body-named p g = simp (body_at, eq-eqb t k h, ← q, g)

pub ruleset body_at_laws = (body-other, body-unnamed, body-named)

-- what a field of the tag k comes to, by its tag and its name
module _ (k : ℕ) (n s : List ℕ) (t a e : ℕ) (P : Option Span → Type 0)
    (other : (t ≡ k → ⊥) → P None)
    (unnamed : t ≡ k → leaf_at name_tag any_bytes s a e ≡ None → P None)
    (different : t ≡ k → (u : Span) → leaf_at name_tag any_bytes s a e ≡ Some u → is_text s n u ≡ false → P None)
    (same : t ≡ k → (u : Span) → leaf_at name_tag any_bytes s a e ≡ Some u → is_text s n u ≡ true → P (Some (span u.to e))) where
  name-cases : t ≡ k → (l : Option Span) → leaf_at name_tag any_bytes s a e ≡ l → P (body_at k n s t a e)
  name-cases h None q =
      rw (← body-unnamed k n s t a e h None (leaf-none name_tag (same_bytes n) s a e None (sym q) refl) refl) (unnamed h q)
  name-cases h (Some place) q = go (is_text s n place) refl
    where
      go : (b : Bool) → is_text s n place ≡ b → P (body_at k n s t a e)
      go false z =
          rw (← body-unnamed k n s t a e h None (leaf-bad name_tag (same_bytes n) s a e (Some place) (sym q) place refl false (sym z) refl) refl)
          (different h place q z)
      go true z =
          let f = leaf-good name_tag (same_bytes n) s a e (Some place) (sym q) place refl true (sym z) refl in
          rw (← body-named k n s t a e h (Some place) f place refl) (same h place q z)

  body-cases : P (body_at k n s t a e)
  body-cases = go (eqb t k) refl
    where
      go : (b : Bool) → eqb t k ≡ b → P (body_at k n s t a e)
      go false p = rw (← body-other k n s t a e (eqb-false t k p)) (other (eqb-false t k p))
      go true p = name-cases (eqb-true t k p) (leaf_at name_tag any_bytes s a e) refl

-- ---- body_named
pub body-named-is : (k : ℕ) (n s : List ℕ) (w : Walk) (r : Option Span) → r ≡ seek None (first_of tells_leaf) (body_at k n s) w
    → r ≡ body_named k n s w
body-named-is k n s w r q =
    q ∙ sym (seek_is None (first_of tells_leaf) (body_at k n s) (body_named k n s) refl refl (λ t a e w. refl) w)

pub ruleset body_named_laws = (body-named-is, sought_laws)

-- it is the body of the first of that name among the members of one kind, whatever the kind: those that fields of one tag make
module _ (d : ℕ) (s n : List ℕ) {A : Type 0} (k : ℕ) (all : Items → List A) (name body : A → Span) (made : Span → ℕ → A)
    (bare : all none ≡ [])
    (other : (t a e : ℕ) (rest : Items) → (t ≡ k → ⊥) → all (item_in (message_in d s) s t a e rest) ≡ all rest)
    (unnamed : (t a e : ℕ) (rest : Items) → leaf_at name_tag any_bytes s a e ≡ None → all (item_in (message_in d s) s t a e rest) ≡ all rest)
    (named : (t a e : ℕ) (rest : Items) → t ≡ k → (p : Span) → leaf_at name_tag any_bytes s a e ≡ Some p
    → all (item_in (message_in d s) s t a e rest) ≡ made p e ∷ all rest)
    (name_is : (p : Span) (e : ℕ) → name (made p e) ≡ p) (body_is : (p : Span) (e : ℕ) → body (made p e) ≡ span p.to e) where
  abbrev amongst : List A → Option Span
  amongst xs = told None (λ x. Some (body x)) (first (λ x. is_text s n (name x)) xs)

  among-step : (t a e : ℕ) (rest : Items)
      → amongst (all (item_in (message_in d s) s t a e rest)) ≡ first_of tells_leaf (body_at k n s t a e) (amongst (all rest))
  among-step t a e rest =
      body-cases k n s t a e
      (λ l. amongst (all (item_in (message_in d s) s t a e rest)) ≡ first_of tells_leaf l (amongst (all rest)))
      (λ o. rw (other t a e rest o))
      (λ h q. rw (unnamed t a e rest q))
      (λ h p q w. rw (named t a e rest h p q, name_is p e, w))
      (λ h p q w. rw (named t a e rest h p q, name_is p e, w, body_is p e))

  first-named : (w : Walk) → amongst (all (items_in d s w)) ≡ body_named k n s w
  unfolding items_in
  first-named done = rw bare
  first-named cut = rw bare
  first-named (step t a e w) = among-step t a e (items_in d s w) ∙ ap (first_of tells_leaf (body_at k n s t a e)) (first-named w)

-- ---- down
abbrev body_of : Option Message → Option Span
body_of = told None (λ m. Some m.body)

abbrev message_among : List ℕ → List ℕ → Items → Option Message
message_among s n i = first (λ m. is_text s n m.name) (messages_of i)

module _ (d : ℕ) (s n : List ℕ) where
  message-named : (d ≡ 0 → ⊥) → (w : Walk) → body_of (message_among s n (items_in d s w)) ≡ body_named message_tag n s w
  message-named z =
      first-named d s n message_tag messages_of (λ m. m.name) (λ m. m.body)
      (λ p e. record { name = p; body = span p.to e; inside = items_in (d - 1) s (walk s p.to e) }) refl
      (messages-other d s) (λ t a e rest q. messages-unnamed d s t a e rest None (sym q) refl)
      (λ t a e rest h p q. messages-named d s t a e rest (Some p) (sym q) h z p refl) (λ p e. refl) (λ p e. refl)

  -- no level left: no message
  message-none : d ≡ 0 → (w : Walk) → message_among s n (items_in d s w) ≡ None
  unfolding items_in
  message-none z done = refl
  message-none z cut = refl
  message-none z (step t a e w) = rw (messages-beyond d s t a e (items_in d s w) z) (message-none z w)

abbrev inner : LookupScope → Span → LookupScope
inner p q = record { file = p.file; message = true; body = q; left = p.left - 1 }

module _ (s n : List ℕ) (p : LookupScope) where
  pub down-beyond : p.left ≡ 0 → None ≡ placed (down s n (holding s p))
  down-beyond z = rw (message-none p.left s n z (walk s p.body.from p.body.to))

  module _ (z : p.left ≡ 0 → ⊥) (l : Option Span) (q : l ≡ body_named message_tag n s (walk s p.body.from p.body.to)) where
    down_is : placed (down s n (holding s p)) ≡ on_leaf None l λ u. Some (inner p u)
    down_is =
        rw (q, ← message-named p.left s n z (walk s p.body.from p.body.to)) (go (message_among s n (holding s p).items))
      where
        go : (o : Option Message)
            → placed (given o λ m. Some (message_scope (holding s p) m)) ≡ on_leaf None (body_of o) λ w. Some (inner p w)
        go None = refl
        go (Some m) = refl

    pub down-none : l ≡ None → None ≡ placed (down s n (holding s p))
    down-none g = rw (down_is, g)

    pub down-some : (u : Span) → l ≡ Some u → Some (inner p u) ≡ placed (down s n (holding s p))
    down-some u g = rw (down_is, g)

pub ruleset down_laws = (down-beyond, down-none, down-some)

-- ---- enum_named
pub enum_named_is : (s n : List ℕ) (p : LookupScope) (r : Option Span)
    → r ≡ body_named enum_tag n s (walk s p.body.from p.body.to) → r ≡ bodied (enum_named s n (holding s p))
enum_named_is s n p r q =
    q ∙ sym (first-named p.left s n enum_tag enums_of (λ x. x.name) (λ x. x.body)
    (λ p e. record { name = p; body = span p.to e; values = values_in s (walk s p.to e) }) refl
    (enums-other p.left s) (λ t a e rest q. enums-unnamed p.left s t a e rest None (sym q) refl)
    (λ t a e rest h q g. enums-named p.left s t a e rest (Some q) (sym g) h q refl) (λ q e. refl) (λ q e. refl)
    (walk s p.body.from p.body.to))
