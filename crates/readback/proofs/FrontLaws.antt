-- A record at the front of bytes, as it is written: its tag, the bytes of a length, its payload. What one reading step makes of it, by what
-- declares its number.
-- Assumes nothing.
use Rattle.std.specs.Prelude.{◌≡◌, refl, true, List, [], ◌∷◌, ◌++◌, ℕ, ◌+◌, ◌^◌, ◌≤◌, ◌<◌, length, take, drop, None, Ok, Some}
use Rattle.basis.specs.Kit.{sym, ap, ◌∙◌}
use Rattle.basis.proofs.Kit.{arith, eq-eqb, ne_eqb}
use mathlib.Core.Path.{ap₂}
use mathlib.Core.List.{append_assoc}
use lib.ListN.{length-append}
use lib.Seq.{take-append_seam, drop-append_seam, drop-append-add}
use Rattle.limits.specs.Figures.{most_number}
use Rattle.types.specs.Types.{wire_of, TYPE_MESSAGE}
use Rattle.varint.specs.Varint.{varint, read_varint, read}
use Rattle.varint.proofs.VarintLaws.{varint-some, read-varint}
use Rattle.wire.specs.Tag.{tag_of, wire_type_of, wire_read}
use Rattle.wire.proofs.TagLaws.{number-of-tag-of, wire-type-of-tag-of, wire-read-lt, tag-of-good}
use Rattle.payloads.specs.Extent.{Extent, payload_at}
use Rattle.sheet.specs.declared.declaration.Declaration.{Declaration}
use Rattle.scope.specs.declared.lookup.LookupScope.{LookupScope}
use Rattle.lookups.specs.Lookups.{Lookups, Message}
use Rattle.entries.specs.declared.Entry.{Entry}
use Rattle.entries.specs.Tree.{one}
use Rattle.entries.specs.Item.{Item, some, into, declared, entry, plain, known, by_declaration, by_tag, item}
use Rattle.entries.specs.Reading.{Listed, onward, enclosed, follow, records_from}
use Rattle.entries.proofs.ReadingLaws.{records-step}
use Rattle.readback.specs.Seen.{entry_by, path_of, reached_by}

-- the bytes of a record
abbrev pub record_bytes : (number wire : ℕ) (lead body : List ℕ) → List ℕ
record_bytes n w lead body = varint (tag_of n w) ++ (lead ++ body)

-- where its payload begins
abbrev pub head_size : (number wire : ℕ) (lead : List ℕ) → ℕ
head_size n w lead = length (varint (tag_of n w)) + length lead

-- a record that reads back, whatever stands behind it
pub record Front (n w : ℕ) (lead body ys : List ℕ) : Type 0 where
  pub range : (1 ≤ n) × (n ≤ most_number)
  pub good : wire_read w ≡ true
  pub found : payload_at w (lead ++ (body ++ ys)) ≡ Some (record { before = length lead; size = length body })

module _ {n w : ℕ} {lead body ys : List ℕ} (f : Front n w lead body ys) where
  abbrev v : List ℕ
  v = varint (tag_of n w)

  abbrev all : List ℕ
  all = record_bytes n w lead body ++ ys

  abbrev extent : Extent
  extent = record { before = length lead; size = length body }

  small : tag_of n w < 2 ^ 64
  small = omega (arith, f.range.1, wire-read-lt w f.good)

  joined : all ≡ v ++ (lead ++ (body ++ ys))
  joined = simp append_assoc

  tag_read : read_varint all ≡ Some (read (tag_of n w) (length v))
  tag_read = ap read_varint joined ∙ read-varint (tag_of n w) _ small

  behind-tag : drop (length v) all ≡ lead ++ (body ++ ys)
  behind-tag = ap (drop (length v)) joined ∙ drop-append_seam v _

  body-is : take (length body) (drop (head_size n w lead) all) ≡ body
  body-is =
      rw (joined, drop-append-add v (lead ++ (body ++ ys)) (length lead), drop-append_seam lead (body ++ ys)) (take-append_seam body ys)

  size_is : head_size n w lead + length body ≡ length (record_bytes n w lead body)
  size_is = simp length-append (omega arith)

  module _ (L : Lookups) (s : List ℕ) (m : Message) (place : ℕ) where
    abbrev at : ℕ
    at = place + head_size n w lead

    item-is : item L s m place all ≡ by_declaration L s m place all (declared s m n) (tag_of n w) (length v) (Some extent)
    unfolding item
    item-is =
        let low = wire-read-lt w f.good in
        let here : payload_at (wire_type_of (tag_of n w)) (drop (length v) all) ≡ Some extent =
        ap₂ payload_at (wire-type-of-tag-of n w low) behind-tag ∙ f.found in
        rw (tag_read, tag-of-good n w f.range.0 f.range.1 f.good, by_tag)
        (ap₂ (λ k x. by_declaration L s m place all (declared s m k) (tag_of n w) (length v) x) (number-of-tag-of n w low) here)

    module _ (d : Declaration) where
      entry-is : entry L s m place all d (tag_of n w) (length v) extent ≡ entry_by (Some d) n w at body
      entry-is =
          let low = wire-read-lt w f.good in
          rw (body-is, number-of-tag-of n w low, wire-type-of-tag-of n w low) refl

      plain_is : wire_of d.shape.typ ≡ w
          → by_declaration L s m place all (Some d) (tag_of n w) (length v) (Some extent)
          ≡ plain L s m place all d (tag_of n w) (length v) (Some extent)
      plain_is e =
          let same : wire_of d.shape.typ ≡ wire_type_of (tag_of n w) = e ∙ sym (wire-type-of-tag-of n w (wire-read-lt w f.good)) in
          rw (known, eq-eqb _ _ same)

    item-undeclared : declared s m n ≡ None
        → item L s m place all ≡ some (entry_by None n w at body ∷ []) (length (record_bytes n w lead body))
    item-undeclared q =
        let low = wire-read-lt w f.good in
        item-is ∙ rw (q, number-of-tag-of n w low, wire-type-of-tag-of n w low, size_is) refl

    module _ (d : Declaration) (q : declared s m n ≡ Some d) (e : wire_of d.shape.typ ≡ w) where
      item-plain : (d.shape.typ ≡ TYPE_MESSAGE → ⊥)
          → item L s m place all ≡ some (entry_by (Some d) n w at body ∷ []) (length (record_bytes n w lead body))
      item-plain h =
          item-is ∙ rw q (plain_is d e ∙ rw (plain, ne_eqb _ _ h, entry-is d, size_is))

      item-message : d.shape.typ ≡ TYPE_MESSAGE → (p : LookupScope) → L.message (path_of s d) ≡ Ok p
          → item L s m place all ≡ into (entry_by (Some d) n w at body) (reached_by s d p) (head_size n w lead) (length body)
      item-message h p g = item-is ∙ rw q (plain_is d e ∙ rw (plain, eq-eqb _ _ h, entry-is d, g))

    -- ---- the reading step, and what is left behind the record
    module _ (inner : Message → ℕ → List ℕ → Listed) where
      abbrev rest : Listed
      rest = records_from L s inner m (place + length (record_bytes n w lead body)) 0 ys

      step_is : (i : Item) → item L s m place all ≡ i
          → records_from L s inner m place 0 all
          ≡ follow L s inner m place all (λ k. records_from L s inner m (place + k) 0 (drop k all)) i
      step_is i q =
          let some : 0 < length all = rw length-append (omega (arith, varint-some (tag_of n w), size_is)) in
          records-step L s inner m place all some ∙ rw q

      leaf-read : (e : Entry) → item L s m place all ≡ some (e ∷ []) (length (record_bytes n w lead body))
          → records_from L s inner m place 0 all ≡ onward (one e) rest
      leaf-read e q = step_is (some (e ∷ []) (length (record_bytes n w lead body))) q ∙ rw (drop-append_seam (record_bytes n w lead body) ys)

      -- an undeclared number
      pub undeclared-read : declared s m n ≡ None
          → records_from L s inner m place 0 (record_bytes n w lead body ++ ys)
          ≡ onward (one (entry_by None n w (place + head_size n w lead) body))
          (records_from L s inner m (place + length (record_bytes n w lead body)) 0 ys)
      undeclared-read q = leaf-read (entry_by None n w at body) (item-undeclared q)

      -- a declared number on its own wire type: no message, or a message that is found
      module _ (d : Declaration) (q : declared s m n ≡ Some d) (e : wire_of d.shape.typ ≡ w) where
        pub declared-read : (d.shape.typ ≡ TYPE_MESSAGE → ⊥)
            → records_from L s inner m place 0 (record_bytes n w lead body ++ ys)
            ≡ onward (one (entry_by (Some d) n w (place + head_size n w lead) body))
            (records_from L s inner m (place + length (record_bytes n w lead body)) 0 ys)
        declared-read h = leaf-read (entry_by (Some d) n w at body) (item-plain d q e h)

        pub message-read : d.shape.typ ≡ TYPE_MESSAGE → (p : LookupScope) → L.message (path_of s d) ≡ Ok p
            → records_from L s inner m place 0 (record_bytes n w lead body ++ ys)
            ≡ enclosed (entry_by (Some d) n w (place + head_size n w lead) body) (inner (reached_by s d p) (place + head_size n w lead) body)
            (records_from L s inner m (place + length (record_bytes n w lead body)) 0 ys)
        message-read h p g =
            step_is _ (item-message d q e h p g) ∙ rw (body-is, size_is, drop-append_seam (record_bytes n w lead body) ys)
