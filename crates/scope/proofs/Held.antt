-- What the answers of a look-up tell its caller: that a scope or an enum that was found is what stands at its place, and that its place is
-- one of the sheet.
--
--      Held d s end m <-> the message m of a scope with d levels left holds what stands at its body, which ends no later than `end`
--    HeldEnum s end x <-> likewise, of the enum x and its values
--   FoundEnum s n c p <-> the first enum of the name n in the scope c has the body p
--
-- Assumes nothing.
use Rattle.std.specs.Prelude.{◌≡◌, refl, List, ℕ, ◌-◌, ◌≤◌, length, Option, None, Some}
use Rattle.basis.specs.Kit.{sym, ap, ◌∙◌}
use Rattle.basis.proofs.Kit.{arith}
use mathlib.Core.Path.{subst}
use Rattle.basis.proofs.Never.{never}
use Rattle.field.specs.declared.Span.{Span}
use Rattle.field.specs.Leaf.{span, is_text, any_bytes, leaf_at}
use Rattle.field.specs.Walk.{walk}
use Rattle.field.proofs.WalkLaws.{walk-holds}
use Rattle.field.proofs.LeafLaws.{leaf_inside}
use Rattle.sheet.specs.Table.{name_tag}
use Rattle.sheet.specs.Tree.{values_in, items_in}
use Rattle.sheet.specs.Members.{Message, Enumeration, messages_of, enums_of}
use Rattle.sheet.proofs.MemberLaws.{item-cases}
use Rattle.scope.specs.declared.lookup.LookupScope.{LookupScope}
use Rattle.basis.specs.First.{first}
use Rattle.scope.specs.Scope.{Scope, holding, message_scope, down, enum_named}
use Rattle.scope.specs.inner.Answers.{InSheet, placed, bodied}
use Rattle.basis.proofs.FirstLaws.{given_holds, Every, none_of, one_of, first_holds}
use Rattle.scope.proofs.Answers.{placed-nowhere, placed-to}

-- ---- the messages and the enums of a scope are what stands at their places
pub record Held (d : ℕ) (s : List ℕ) (end : ℕ) (m : Message) : Type 0 where
  pub inside : m.inside ≡ items_in (d - 1) s (walk s m.body.from m.body.to)
  pub ordered : m.body.from ≤ m.body.to
  pub within : m.body.to ≤ end

pub record HeldEnum (s : List ℕ) (end : ℕ) (x : Enumeration) : Type 0 where
  pub values : x.values ≡ values_in s (walk s x.body.from x.body.to)
  pub ordered : x.body.from ≤ x.body.to
  pub within : x.body.to ≤ end

module _ (d : ℕ) (s : List ℕ) (end : ℕ) where
  -- the message or the enum of the name q that a field a..e is
  module _ (a e : ℕ) (h : e ≤ end) (q : Span) (p : leaf_at name_tag any_bytes s a e ≡ Some q) where
    message-held : Held d s end (record { name = q; body = span q.to e; inside = items_in (d - 1) s (walk s q.to e) })
    message-held = record { inside = refl; ordered = leaf_inside name_tag any_bytes s a e (Some q) (sym p) q refl; within = h }

    enumeration-held : HeldEnum s end (record { name = q; body = span q.to e; values = values_in s (walk s q.to e) })
    enumeration-held = record { values = refl; ordered = leaf_inside name_tag any_bytes s a e (Some q) (sym p) q refl; within = h }

  messages-held : (at : ℕ) → Every (Held d s end) (messages_of (items_in d s (walk s at end)))
  unfolding items_in
  messages-held =
      walk-holds s end (λ _ w. Every (Held d s end) (messages_of (items_in d s w))) (λ _. none_of) (λ _. none_of) λ _ t a e w b k.
      item-cases (λ f. Every (Held d s end) (messages_of (f (items_in d s w)))) s a e k d t
      (λ _ _ q p. one_of (message-held a e b.inside q p) k) (λ _ _ _. k) (λ _ _ _. k) (λ _ _ _. k)

  enums-held : (at : ℕ) → Every (HeldEnum s end) (enums_of (items_in d s (walk s at end)))
  unfolding items_in
  enums-held =
      walk-holds s end (λ _ w. Every (HeldEnum s end) (enums_of (items_in d s w))) (λ _. none_of) (λ _. none_of) λ _ t a e w b k.
      item-cases (λ f. Every (HeldEnum s end) (enums_of (f (items_in d s w)))) s a e k d t
      (λ _ _ _ _. k) (λ _ _ _. k) (λ _ q p. one_of (enumeration-held a e b.inside q p) k) (λ _ _ _. k)

-- ---- a scope that is gone down to
module _ (s n : List ℕ) (p : LookupScope) where
  module _ (c : Scope) (q : down s n (holding s p) ≡ Some c) where
    down-message : (P : Type 0) → ((m : Message) → Held p.left s p.body.to m → c ≡ message_scope (holding s p) m → P) → P
    down-message P k =
        given_holds (first (λ m. is_text s n m.name) (messages_of (holding s p).items))
        (λ m. Some (message_scope (holding s p) m)) c P found q
      where
        found : (m : Message) → first (λ m. is_text s n m.name) (messages_of (holding s p).items) ≡ Some m
            → Some (message_scope (holding s p) m) ≡ Some c → P
        found m f g =
            let u : c ≡ message_scope (holding s p) m = cc in
            k m (first_holds (Held p.left s p.body.to) (λ m. is_text s n m.name)
            (messages-held p.left s p.body.to p.body.from) m f) u

    pub down-held : c ≡ holding s c.place
    down-held = down-message (c ≡ holding s c.place) λ m h u. rw (u, h.inside)

    pub down-lies : InSheet s p → InSheet s c.place
    down-lies l =
        down-message (InSheet s c.place)
        λ m h u. rw u (record { ordered = h.ordered; within = omega (arith, h.within, l.within) })

  -- the same, of what `down` answers
  module _ (r : Option LookupScope) (q : r ≡ placed (down s n (holding s p))) where
    pub down-nowhere : r ≡ None → down s n (holding s p) ≡ None
    down-nowhere = placed-nowhere r (down s n (holding s p)) q

    module _ (x : LookupScope) (g : r ≡ Some x) where
      pub down_to : down s n (holding s p) ≡ Some (holding s x)
      down_to =
          placed-to r (down s n (holding s p)) q x g (down s n (holding s p) ≡ Some (holding s x))
          λ c f u. rw u (f ∙ ap Some (down-held c f))

      pub down-to-lies : InSheet s p → InSheet s x
      down-to-lies = down-lies (holding s x) down_to

pub ruleset down_to_laws = (down-nowhere, down_to, down-to-lies)

-- ---- an enum that is found
pub record FoundEnum (s n : List ℕ) (c : Scope) (p : Span) : Type 0 where
  pub next : Enumeration
  pub is : enum_named s n c ≡ Some next
  pub body : p ≡ next.body

module _ (s n : List ℕ) (p : LookupScope) where
  module _ (x : Enumeration) (q : enum_named s n (holding s p) ≡ Some x) where
    enum-stands : HeldEnum s p.body.to x
    enum-stands =
        first_holds (HeldEnum s p.body.to) (λ x. is_text s n x.name)
        (enums-held p.left s p.body.to p.body.from) x q

    pub enum-held : x.values ≡ values_in s (walk s x.body.from x.body.to)
    enum-held = enum-stands.values

    pub enum-lies-ordered : x.body.from ≤ x.body.to
    enum-lies-ordered = enum-stands.ordered

    pub enum-lies-within : InSheet s p → x.body.to ≤ length s
    enum-lies-within l = omega (arith, enum-stands.within, l.within)

  -- the same, of what `enum_named` answers
  module _ (r : Option Span) (q : r ≡ bodied (enum_named s n (holding s p))) where
    pub enum-not : r ≡ None → enum_named s n (holding s p) ≡ None
    enum-not = go (enum_named s n (holding s p)) q
      where
        go : (o : Option Enumeration) → r ≡ bodied o → r ≡ None → o ≡ None
        go None q g = refl
        go (Some x) q g = never cc

    module _ (w : Span) (g : r ≡ Some w) where
      pub enum_at : FoundEnum s n (holding s p) w
      enum_at = go (enum_named s n (holding s p)) refl q
        where
          go : (o : Option Enumeration) → enum_named s n (holding s p) ≡ o → r ≡ bodied o → FoundEnum s n (holding s p) w
          go None f q = never cc
          go (Some x) f q =
              let u : w ≡ span x.body.from x.body.to = cc in
              record { next = x; is = f; body = rw u }

      pub enum-at-ordered : w.from ≤ w.to
      enum-at-ordered =
          subst (λ (b : Span). b.from ≤ b.to) (sym enum_at.body) (enum-lies-ordered enum_at.next enum_at.is)

      pub enum-at-within : InSheet s p → w.to ≤ length s
      enum-at-within l =
          subst (λ (b : Span). b.to ≤ length s) (sym enum_at.body) (enum-lies-within enum_at.next enum_at.is l)

pub ruleset enum_at_laws = (enum-not, enum_at, enum-at-ordered, enum-at-within)
