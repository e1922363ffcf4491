-- The record at a place, as the code answers it, is the item of the definition.
-- Assumes nothing.
use Rattle.std.specs.Prelude.{◌≡◌, refl, Bool, true, false, List, [], ◌∷◌, ℕ, ◌+◌, eqb, take, drop, Option, None, Err, Some, Ok, Result}
use Rattle.basis.specs.Kit.{sym, ap, ◌∙◌}
use Rattle.basis.proofs.Kit.{arith}
use Rattle.basis.proofs.Never.{never}
use mathlib.Core.Path.{subst}
use native.Mathlib.Nat.{add_assoc}
use lib.Seq.{drop-drop}
use Rattle.octets.specs.Octets.{part}
use Rattle.reply.specs.declared.Refusal.TheVariants.{BadBytes}
use Rattle.field.specs.declared.Span.{Span}
use Rattle.field.specs.Leaf.{text}
use Rattle.types.specs.Types.{wire_of, TYPE_MESSAGE}
use Rattle.varint.specs.Varint.{read_varint, at_place, varint_at, read}
use Rattle.wire.specs.Tag.{number_of, wire_type_of, tag_good}
use Rattle.payloads.specs.Extent.{Extent, payload_at}
use Rattle.payloads.specs.Value.{said, value_of}
use Rattle.payloads.specs.inner.Placed.{placed, payload_in}
use Rattle.taken.specs.inner.Taking.{unknown_taken, plain_taken, known_taken}
use Rattle.sheet.specs.declared.declaration.Declaration.{Declaration}
use Rattle.lookups.specs.Lookups.{Lookups, Message}
use Rattle.entries.specs.declared.Entry.{Entry}
use Rattle.entries.specs.declared.Front.{Front}
use Rattle.entries.specs.declared.Front.TheVariants.{Leaf}
use Rattle.entries.specs.Item.{Item, some, wrong, declared, entered, entry, plain, by_declaration, by_tag, item}
use Rattle.entries.specs.inner.Fronts.{unknown_of, on_message, entered_of, entry_of, known_front, known_of, by_declared, behind_tag}
use Rattle.entries.specs.inner.Fronts.{Shows, leaf, inside, wrongly}
use Rattle.entries.proofs.PartLaws.{part-behind}
use Rattle.reply.specs.declared.Refusal.{Refusal}
use Rattle.scope.specs.declared.lookup.LookupScope.{LookupScope}
use Rattle.varint.specs.declared.Read.{Read}

-- ---- behind a good tag of n bytes
shows-either : {A : Type 0} (s : List ℕ) (at : ℕ) (f : A → Result Front Refusal) (b : Bool) (i j : Item) (x y : A) → Shows s at i (f x) → Shows s at j (f y)
    → Shows s at (elim b [ true ↦ i | false ↦ j ]) (f (elim b [ true ↦ x | false ↦ y ]))
shows-either s at f true i j x y p q = p
shows-either s at f false i j x y p q = q

shows-message : (s : List ℕ) (at : ℕ) (e : Entry) (p : Span) (skip : ℕ) → e.place ≡ at + skip → (u : Result LookupScope Refusal)
    → Shows s at (entered e (text s p) skip e.size u) (on_message e p u)
shows-message s at e p skip h (Err y) = wrongly
shows-message s at e p skip h (Ok q) = inside h

module _ (L : Lookups) (s : List ℕ) (m : Message) (at : ℕ) (bs : List ℕ) (t n : ℕ) where
  abbrev w : ℕ
  w = wire_type_of t

  -- the payload's place counts from the tag's first byte, as the definition has it, or from its last
  module _ (d : Declaration) (x : Extent) where
    abbrev here : Entry
    here = entry L s m at bs d t n x

    abbrev there : Entry
    there =
        entry_of d (number_of t) w (at + n + x.before) x.size
        (value_of d.shape.typ (said w (take x.size (drop x.before (drop n bs)))))

    same-entry : there ≡ here
    same-entry = rw (add_assoc, drop-drop)

    shows-leaf : Shows s at (some (here ∷ []) (n + x.before + x.size)) (Ok (Leaf there (at + n + x.before + x.size)))
    shows-leaf = let q : at + n + x.before + x.size ≡ at + (n + x.before + x.size) = omega arith in rw (same-entry, q) leaf

    shows-inside : Shows s at (entered here (text s d.shape.path) (n + x.before) x.size (L.message (text s d.shape.path)))
        (entered_of L s there d.shape.path)
    unfolding entered_of
    shows-inside = rw same-entry (shows-message s at here d.shape.path (n + x.before) refl (L.message (text s d.shape.path)))

  shows-plain : (d : Declaration) (x : Option Extent)
      → Shows s at (plain L s m at bs d t n x)
      (known_front L s d (number_of t) w (plain_taken d.shape.typ (placed w (drop n bs) (at + n) x)))
  shows-plain d None = wrongly
  shows-plain d (Some x) = shows-either s at (λ f. f) (eqb d.shape.typ TYPE_MESSAGE) _ _ _ _ (shows-inside d x) (shows-leaf d x)

  shows-declared : (d : Option Declaration) (x : Option Extent)
      → Shows s at (by_declaration L s m at bs d t n x) (by_declared L s d (number_of t) w (placed w (drop n bs) (at + n) x))
  unfolding unknown_of unknown_taken known_of known_taken
  shows-declared None None = wrongly
  shows-declared None (Some x) = simp add_assoc leaf
  shows-declared (Some d) x =
      shows-either s at (known_front L s d (number_of t) w) (eqb (wire_of d.shape.typ) w) _ _ _ _ (shows-plain d x) wrongly

-- ---- the item by its tag
module _ (L : Lookups) (s : List ℕ) (m : Message) (at : ℕ) (bs : List ℕ) where
  item-no-tag : read_varint bs ≡ None → item L s m at bs ≡ wrong BadBytes
  unfolding item
  item-no-tag e = rw e

  module _ (x : Read) (e : read_varint bs ≡ Some x) where
    item-bad-tag : tag_good x.value ≡ false → item L s m at bs ≡ wrong BadBytes
    unfolding item
    item-bad-tag g = rw e (rw (g, by_tag))

    item-good : tag_good x.value ≡ true
        → item L s m at bs ≡ by_declaration L s m at bs (declared s m (number_of x.value)) x.value x.next (payload_at (wire_type_of x.value) (drop x.next bs))
    unfolding item
    item-good g = rw e (rw (g, by_tag))

-- ---- what `varint_at` has read
placed-bad : (at : ℕ) (r : Option Read) → None ≡ at_place at r → r ≡ None
placed-bad at (Some it) e = never cc
placed-bad at None e = refl

record ReadAs (bs : List ℕ) (at t next : ℕ) : Type 0 where
  pub size : ℕ
  pub read : read_varint bs ≡ Some (read t size)
  pub place : next ≡ at + size

placed-read : (bs : List ℕ) (at : ℕ) (x : Read) (r : Option Read) → read_varint bs ≡ r → Some x ≡ at_place at r → ReadAs bs at x.value x.next
placed-read bs at x (Some y) e q =
    let is : x ≡ read y.value (at + y.next) = cc in
    rw is (record { size = y.next; read = e; place = refl })
placed-read bs at x None e q = never cc

module _ (L : Lookups) (s : List ℕ) (m : Message) (bs : List ℕ) (at end : ℕ) where
  abbrev left : List ℕ
  left = part bs at end

  pub shows-behind : (x : Read) → read_varint left ≡ Some x → tag_good x.value ≡ true
      → Shows s at (item L s m at left) (behind_tag L s m bs x.value (at + x.next) end)
  unfolding behind_tag payload_in
  shows-behind x e g =
      rw (item-good L s m at left x e g, ← (part-behind bs at x.next end))
      (shows-declared L s m at left x.value x.next (declared s m (number_of x.value)) (payload_at (wire_type_of x.value) (drop x.next left)))

  module _ (v : Option Read) (p : v ≡ varint_at bs at end) where
    pub front-no-tag : v ≡ None → Shows s at (item L s m at left) (Err BadBytes)
    unfolding varint_at
    front-no-tag q = rw (item-no-tag L s m at left (placed-bad at (read_varint left) (sym q ∙ p))) wrongly

    module _ (y : Read) (q : v ≡ Some y) (b : Bool) (g : b ≡ tag_good y.value) where
      tag_read : ReadAs left at y.value y.next
      unfolding varint_at
      tag_read = placed-read left at y (read_varint left) refl (sym q ∙ p)

      pub front-bad-tag : b ≡ false → Shows s at (item L s m at left) (Err BadBytes)
      front-bad-tag h = rw (item-bad-tag L s m at left (read y.value tag_read.size) tag_read.read (sym g ∙ h)) wrongly

      pub front-good : b ≡ true → (r : Result Front Refusal) → r ≡ behind_tag L s m bs y.value y.next end → Shows s at (item L s m at left) r
      front-good h r e =
          subst (Shows s at (item L s m at left)) (sym (e ∙ ap (λ (x : ℕ). behind_tag L s m bs y.value x end) tag_read.place))
          (shows-behind (read y.value tag_read.size) tag_read.read (sym g ∙ h))

pub tag-good : (t : ℕ) (b : Bool) → b ≡ tag_good t → b ≡ true → tag_good t ≡ true
tag-good t b g h = sym g ∙ h

pub ruleset front_laws = (front-no-tag, front-bad-tag, front-good, tag-good)
