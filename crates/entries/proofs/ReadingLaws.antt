-- The records of a level, one after the other: the first is the item at the front, and the others are read where it ends.
-- Assumes nothing.
use Rattle.std.specs.Prelude.{◌≡◌, refl, List, [], ◌∷◌, ℕ, zero, suc, ◌+◌, ◌-◌, ◌≤◌, ◌<◌, eqb, length, drop, Option, None, Err, Some, Ok, Result}
use Rattle.basis.specs.Kit.{sym, ap, ◌∙◌}
use Rattle.basis.proofs.Kit.{arith}
use mathlib.Core.Path.{subst}
use native.Mathlib.Nat.{add-zero}
use native.Mathlib.Numerals.{sub-one}
use Rattle.field.specs.Leaf.{text}
use Rattle.types.specs.Types.{wire_of, TYPE_MESSAGE}
use Rattle.varint.specs.Varint.{read_varint}
use Rattle.varint.proofs.VarintLaws.{read_some}
use Rattle.wire.specs.Tag.{number_of, wire_type_of, tag_good}
use Rattle.payloads.specs.Extent.{Extent, payload_at}
use Rattle.sheet.specs.declared.declaration.Declaration.{Declaration}
use Rattle.lookups.specs.Lookups.{Lookups, Message}
use Rattle.entries.specs.declared.Entry.{Entry}
use Rattle.entries.specs.Tree.{end}
use Rattle.entries.specs.Item.{Item, some, into, wrong, declared, entered, entry, plain, by_declaration, by_tag, item}
use Rattle.entries.specs.Reading.{Listed, listed, follow, records_from}
use Rattle.entries.proofs.Either.{either}
use Rattle.reply.specs.declared.Refusal.{Refusal}
use Rattle.scope.specs.declared.lookup.LookupScope.{LookupScope}
use Rattle.varint.specs.declared.Read.{Read}

-- ---- every item takes at least one byte, that of its tag
abbrev pub Takes : Item → Type 0
Takes (some es k) = 1 ≤ k
Takes (into e n k size) = 1 ≤ k
Takes (wrong w) = Unit {0}

entered-takes : (e : Entry) (name : List ℕ) (k size : ℕ) (l : Result LookupScope Refusal) → 1 ≤ k → Takes (entered e name k size l)
entered-takes e name k size (Err w) h = tt
entered-takes e name k size (Ok p) h = h

module _ (L : Lookups) (s : List ℕ) (m : Message) (place : ℕ) (bs : List ℕ) where
  module _ (t n : ℕ) (h : 1 ≤ n) where
    plain-takes : (d : Declaration) (x : Option Extent) → Takes (plain L s m place bs d t n x)
    plain-takes d None = tt
    plain-takes d (Some x) =
        let e = entry L s m place bs d t n x in
        let name = text s d.shape.path in
        either Takes (eqb d.shape.typ TYPE_MESSAGE) (entered e name (n + x.before) x.size (L.message name))
        (some (e ∷ []) (n + x.before + x.size))
        (entered-takes e name (n + x.before) x.size (L.message name) (omega arith))
        (omega arith)

    declared-takes : (d : Option Declaration) (x : Option Extent) → Takes (by_declaration L s m place bs d t n x)
    declared-takes None None = tt
    declared-takes None (Some x) = omega arith
    declared-takes (Some d) x =
        either Takes (eqb (wire_of d.shape.typ) (wire_type_of t)) (plain L s m place bs d t n x) _ (plain-takes d x) tt

  tag-takes : (r : Option Read) → read_varint bs ≡ r → Takes (by_tag L s m place bs r)
  tag-takes None e = tt
  tag-takes (Some it) e =
      either Takes (tag_good it.value) (by_declaration L s m place bs (declared s m (number_of it.value)) it.value it.next (payload_at (wire_type_of it.value) (drop it.next bs))) _
      (declared-takes it.value it.next (read_some bs it e) (declared s m (number_of it.value)) (payload_at (wire_type_of it.value) (drop it.next bs)))
      tt

  pub item-takes : Takes (item L s m place bs)
  unfolding item
  item-takes = tag-takes (read_varint bs) refl

  pub some-takes : (es : List Entry) (k : ℕ) → item L s m place bs ≡ some es k → 1 ≤ k
  some-takes es k e = subst Takes e item-takes

  pub into-takes : (e : Entry) (n : Message) (k size : ℕ) → item L s m place bs ≡ into e n k size → 1 ≤ k
  into-takes e n k size q = subst Takes q item-takes

module _ (L : Lookups) (s : List ℕ) (inner : Message → ℕ → List ℕ → Listed) (m : Message) where
  abbrev from : ℕ → ℕ → List ℕ → Listed
  from = records_from L s inner m

  pub records-nil : (place skip : ℕ) → records_from L s inner m place skip [] ≡ listed end
  unfolding records_from
  records-nil place zero = refl
  records-nil place (suc k) = refl

  pub records-skip : (place k : ℕ) (xs : List ℕ) → records_from L s inner m place k xs ≡ records_from L s inner m (place + k) 0 (drop k xs)
  unfolding records_from
  records-skip place zero xs = ap (λ (p : ℕ). from p 0 xs) (sym (add-zero place))
  records-skip place (suc k) [] = refl
  records-skip place (suc k) (x ∷ xs) = records-skip (suc place) k xs ∙ ap (λ (p : ℕ). from p 0 (drop k xs)) (omega arith)

  -- what is read behind the first k bytes, of which one at least was taken
  behind : (place k x : ℕ) (xs : List ℕ) → 1 ≤ k → from (suc place) (k - 1) xs ≡ from (place + k) 0 (drop k (x ∷ xs))
  behind place zero x xs h = absurd (omega arith)
  behind place (suc k) x xs h = rw sub-one (records-skip (suc place) k xs ∙ ap (λ (p : ℕ). from p 0 (drop k xs)) (omega arith))

  follow-takes : (place x : ℕ) (xs : List ℕ) (i : Item) → Takes i
      → follow L s inner m place (x ∷ xs) (λ k. from (suc place) (k - 1) xs) i
      ≡ follow L s inner m place (x ∷ xs) (λ k. from (place + k) 0 (drop k (x ∷ xs))) i
  follow-takes place x xs (wrong w) h = refl
  follow-takes place x xs (some es k) h = rw (behind place k x xs h)
  follow-takes place x xs (into e n k size) h =
      let more : 1 ≤ k + size = omega arith in
      rw (behind place (k + size) x xs more)

  pub records-step : (place : ℕ) (xs : List ℕ) → 0 < length xs
      → records_from L s inner m place 0 xs
      ≡ follow L s inner m place xs (λ k. records_from L s inner m (place + k) 0 (drop k xs)) (item L s m place xs)
  unfolding records_from
  records-step place [] h = absurd (omega arith)
  records-step place (x ∷ xs) h = follow-takes place x xs (item L s m place (x ∷ xs)) (item-takes L s m place (x ∷ xs))
