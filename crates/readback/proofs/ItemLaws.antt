-- What the item at the front of bytes is made of, where it is none that is refused: a tag, a payload, and what declares the number.
-- Assumes nothing.
use Rattle.std.specs.Prelude.{◌≡◌, refl, Bool, true, false, List, [], ◌∷◌, ℕ, ◌+◌, ◌≤◌, eqb, length, drop, Option, None, Err, Some, Ok, Result}
use Rattle.basis.proofs.Kit.{arith}
use borrow.Author.Tests.{eqb-true, eqb-false}
use lib.ListN.{length-drop}
use Rattle.types.specs.Types.{wire_of, TYPE_MESSAGE}
use Rattle.varint.specs.Varint.{read_varint, read}
use Rattle.varint.proofs.VarintLaws.{read-inside}
use Rattle.wire.specs.Tag.{number_of, wire_type_of, tag_good}
use Rattle.payloads.specs.Extent.{Extent, payload_at}
use Rattle.payloads.proofs.PayloadFacts.{extent-inside}
use Rattle.reply.specs.declared.Refusal.{Refusal}
use Rattle.reply.specs.declared.Refusal.TheVariants.{BadBytes}
use Rattle.sheet.specs.declared.declaration.Declaration.{Declaration}
use Rattle.scope.specs.declared.lookup.LookupScope.{LookupScope}
use Rattle.lookups.specs.Lookups.{Lookups, Message}
use Rattle.entries.specs.Item.{Item, some, into, wrong, declared, entered, unknown, entry, plain, other_wire, by_declaration, by_tag, item}
use Rattle.readback.specs.Seen.{path_of, reached_by}
use Rattle.varint.specs.declared.Read.{Read}

-- a good tag of n bytes and a payload behind it
pub record Fronted (xs : List ℕ) (t n : ℕ) (x : Extent) : Type 0 where
  pub tag : read_varint xs ≡ Some (read t n)
  pub good : tag_good t ≡ true
  pub found : payload_at (wire_type_of t) (drop n xs) ≡ Some x

pub fronted-inside : (xs : List ℕ) (t n : ℕ) (x : Extent) → Fronted xs t n x → n + x.before + x.size ≤ length xs
fronted-inside xs t n x f =
    omega (arith, read-inside xs (read t n) f.tag, extent-inside (wire_type_of t) (drop n xs) x f.found, length-drop n xs)

module _ (L : Lookups) (s : List ℕ) (m : Message) (place : ℕ) (xs : List ℕ) where
  pub data Made : Item → Type 0 where
    made-wrong : {w : Refusal} → Made (wrong w)
    made-unknown : {t n : ℕ} {x : Extent} → Fronted xs t n x → declared s m (number_of t) ≡ None → Made (unknown L s m place xs t n (Some x))
    made_plain : {t n : ℕ} {x : Extent} {d : Declaration} → Fronted xs t n x → declared s m (number_of t) ≡ Some d
        → wire_of d.shape.typ ≡ wire_type_of t → (d.shape.typ ≡ TYPE_MESSAGE → ⊥)
        → Made (some (entry L s m place xs d t n x ∷ []) (n + x.before + x.size))
    made_held : {t n : ℕ} {x : Extent} {d : Declaration} {p : LookupScope} → Fronted xs t n x → declared s m (number_of t) ≡ Some d
        → wire_of d.shape.typ ≡ wire_type_of t → d.shape.typ ≡ TYPE_MESSAGE → L.message (path_of s d) ≡ Ok p
        → Made (into (entry L s m place xs d t n x) (reached_by s d p) (n + x.before) x.size)

  module _ (y : Read) (tag : read_varint xs ≡ Some y) (good : tag_good y.value ≡ true) where
    abbrev extent : Option Extent
    extent = payload_at (wire_type_of y.value) (drop y.next xs)

    unknown-made : declared s m (number_of y.value) ≡ None → (o : Option Extent) → payload_at (wire_type_of y.value) (drop y.next xs) ≡ o
        → Made (unknown L s m place xs y.value y.next o)
    unknown-made q None e = made-wrong
    unknown-made q (Some x) e = made-unknown (record { tag = tag; good = good; found = e }) q

    module _ (d : Declaration) (q : declared s m (number_of y.value) ≡ Some d) (w : wire_of d.shape.typ ≡ wire_type_of y.value) where
      message-made : d.shape.typ ≡ TYPE_MESSAGE → (x : Extent) → Fronted xs y.value y.next x → (u : Result LookupScope Refusal) → L.message (path_of s d) ≡ u
          → Made (entered (entry L s m place xs d y.value y.next x) (path_of s d) (y.next + x.before) x.size u)
      message-made h x f (Err r) g = made-wrong
      message-made h x f (Ok p) g = made_held f q w h g

      extent-made : (x : Extent) → Fronted xs y.value y.next x → (b : Bool) → eqb d.shape.typ TYPE_MESSAGE ≡ b → Made (elim b [
        | true ↦ entered (entry L s m place xs d y.value y.next x) (path_of s d) (y.next + x.before) x.size (L.message (path_of s d))
        | false ↦ some (entry L s m place xs d y.value y.next x ∷ []) (y.next + x.before + x.size)
      ])
      extent-made x f true g = message-made (eqb-true _ _ g) x f (L.message (path_of s d)) refl
      extent-made x f false g = made_plain f q w (eqb-false _ _ g)

      plain-made : (o : Option Extent) → payload_at (wire_type_of y.value) (drop y.next xs) ≡ o → Made (plain L s m place xs d y.value y.next o)
      plain-made None e = made-wrong
      plain-made (Some x) e = extent-made x (record { tag = tag; good = good; found = e }) (eqb d.shape.typ TYPE_MESSAGE) refl

    known-made : (d : Declaration) → declared s m (number_of y.value) ≡ Some d → (b : Bool) → eqb (wire_of d.shape.typ) (wire_type_of y.value) ≡ b
        → Made (elim b [ true ↦ plain L s m place xs d y.value y.next extent | false ↦ other_wire L s m place xs d y.value y.next extent ])
    known-made d q true g = plain-made d q (eqb-true _ _ g) extent refl
    known-made d q false g = made-wrong

    declared-made : (o : Option Declaration) → declared s m (number_of y.value) ≡ o → Made (by_declaration L s m place xs o y.value y.next extent)
    declared-made None q = unknown-made q extent refl
    declared-made (Some d) q = known-made d q (eqb (wire_of d.shape.typ) (wire_type_of y.value)) refl

  good-made : (x : Read) → read_varint xs ≡ Some x → (b : Bool) → tag_good x.value ≡ b → Made (elim b [
    | true ↦ by_declaration L s m place xs (declared s m (number_of x.value)) x.value x.next (payload_at (wire_type_of x.value) (drop x.next xs))
    | false ↦ wrong BadBytes
  ])
  good-made x e true g = declared-made x e g (declared s m (number_of x.value)) refl
  good-made x e false g = made-wrong

  tag-made : (r : Option Read) → read_varint xs ≡ r → Made (by_tag L s m place xs r)
  tag-made None e = made-wrong
  tag-made (Some it) e = good-made it e (tag_good it.value) refl

  pub item-made : Made (item L s m place xs)
  unfolding item
  item-made = tag-made (read_varint xs) refl
