-- The bytes of typed records, read under any sheet that does not contradict them, are those records as that sheet sees them. The statement
-- stands at the end. Its proof meets the reading step through the laws of a declared and of an undeclared number alone.
-- Assumes nothing.
use Rattle.std.specs.Prelude.{◌≡◌, refl, true, List, [], ◌∷◌, ◌++◌, ℕ, zero, suc, ◌+◌, ◌^◌, ◌≤◌, ◌<◌, length, Option, None, Some}
use Rattle.basis.specs.Kit.{sym, ap, ◌∙◌}
use Rattle.basis.proofs.Kit.{arith}
use mathlib.Core.Bool.{false≢true}
use mathlib.Core.List.{append_assoc}
use native.Mathlib.Nat.{add-zero}
use lib.ListN.{length-append}
use Rattle.limits.specs.Figures.{most_number}
use Rattle.types.specs.Types.{is_any, wire_of, VARINT, I64, LEN, I32, TYPE_MESSAGE}
use Rattle.varint.specs.Varint.{varint}
use Rattle.wire.specs.Tag.{tag_of, wire_read}
use Rattle.sheet.specs.declared.declaration.Declaration.{Declaration}
use Rattle.lookups.specs.Lookups.{Lookups, Message}
use Rattle.records.specs.Records.{Recs, payload, headed, head_of, sized, encode}
use Rattle.records.specs.Raw.{Proper, proper-nil, proper-number, proper-bytes, proper-message}
use Rattle.records.proofs.ReadBack.{number-wire, number_at, bytes-at}
use Rattle.entries.specs.Tree.{Tree, one}
use Rattle.entries.specs.Item.{declared}
use Rattle.entries.specs.Reading.{Listed, listed, onward, records_from, reading}
use Rattle.entries.proofs.ReadingLaws.{records-nil}
use Rattle.readback.specs.Seen.{entry_by, reached_by, holds, seen, nested, Plain, Names, Readable}
use Rattle.readback.proofs.FrontLaws.{record_bytes, head_size, Front, undeclared-read, declared-read, message-read}

-- ---- the records as they are written
module _ (n : ℕ) (range : (1 ≤ n) × (n ≤ most_number)) (ys : List ℕ) where
  number-front : (t v : ℕ) → v < 2 ^ 64 → is_any (wire_of t) (VARINT ∷ I64 ∷ I32 ∷ []) ≡ true → Front n (wire_of t) [] (payload t v) ys
  number-front t v h k = record {
    range = range;
    good = number-wire (wire_of t) (λ w. wire_read w ≡ true) refl refl refl k;
    found = number_at t v ys h k refl;
  }

  sized-front : (bs : List ℕ) → length bs < 2 ^ 64 → Front n LEN (varint (length bs)) bs ys
  sized-front bs h = record { range = range; good = refl; found = bytes-at bs ys h }

module _ (n : ℕ) (bs : List ℕ) where
  sized-is : sized n bs ≡ record_bytes n LEN (varint (length bs)) bs
  unfolding head_of
  sized-is = append_assoc (varint (tag_of n LEN)) (varint (length bs)) bs

  head-is : length (head_of n (length bs)) ≡ head_size n LEN (varint (length bs))
  unfolding head_of
  head-is = length-append (varint (tag_of n LEN)) (varint (length bs))

  sized-small : (r : List ℕ) → length (sized n bs ++ r) < 2 ^ 64 → length bs < 2 ^ 64
  sized-small r h = omega (arith, length-append (sized n bs) r, length-append (head_of n (length bs)) bs)

  rest-small : (r : List ℕ) → length (sized n bs ++ r) < 2 ^ 64 → length r < 2 ^ 64
  rest-small r h = omega (arith, length-append (sized n bs) r)

-- the wire types of numbers are no message's
message-wire : (t : ℕ) → t ≡ TYPE_MESSAGE → wire_of t ≡ LEN
unfolding wire_of
message-wire t e = rw e

number-plain : (t x : ℕ) → is_any (wire_of t) (VARINT ∷ I64 ∷ I32 ∷ []) ≡ true → wire_of x ≡ wire_of t → x ≡ TYPE_MESSAGE → ⊥
number-plain t x k e g =
    let len : wire_of t ≡ LEN = sym e ∙ message-wire x g in
    false≢true (rw len at k)

module _ (L : Lookups) (s : List ℕ) (m : Message) (place : ℕ) {n w : ℕ} {lead body ys : List ℕ} (f : Front n w lead body ys)
    (inner : Message → ℕ → List ℕ → Listed) where
  abbrev all : List ℕ
  all = record_bytes n w lead body ++ ys

  abbrev at : ℕ
  at = place + head_size n w lead

  abbrev next : ℕ
  next = place + length (record_bytes n w lead body)

  -- a record that holds nothing, whatever declares its number
  leaf-case : (o : Option Declaration) → declared s m n ≡ o
      → ((d : Declaration) → declared s m n ≡ Some d → wire_of d.shape.typ ≡ w)
      → ((d : Declaration) → declared s m n ≡ Some d → d.shape.typ ≡ TYPE_MESSAGE → ⊥)
      → (t : Tree) → records_from L s inner m next 0 ys ≡ listed t
      → records_from L s inner m place 0 all ≡ listed (one (entry_by o n w at body) t)
  leaf-case None q e h t rest = undeclared-read f L s m place inner q ∙ ap (onward (one (entry_by None n w at body))) rest
  leaf-case (Some d) q e h t rest =
      declared-read f L s m place inner d q (e d q) (h d q) ∙ ap (onward (one (entry_by (Some d) n w at body))) rest

  message-case : (o : Option Declaration) → declared s m n ≡ o → w ≡ LEN → (inside : Message → Tree)
      → ((d : Declaration) → declared s m n ≡ Some d
      → (d.shape.typ ≡ TYPE_MESSAGE) × Names L s d (λ p. inner p at body ≡ listed (inside p)))
      → (t : Tree) → records_from L s inner m next 0 ys ≡ listed t
      → records_from L s inner m place 0 all ≡ listed (holds L s o (entry_by o n w at body) inside t)
  message-case None q e inside h t rest = undeclared-read f L s m place inner q ∙ ap (onward (one (entry_by None n w at body))) rest
  message-case (Some d) q e inside h t rest =
      let g = (h d q).0 in
      let x = (h d q).1 in
      message-read f L s m place inner d q (message-wire d.shape.typ g ∙ sym e) g x.place x.found
      ∙ rw (x.inside, rest, x.found)

-- a length-delimited record, by its own head
module _ (L : Lookups) (s : List ℕ) (m : Message) (place n : ℕ) (range : (1 ≤ n) × (n ≤ most_number)) (bs ys : List ℕ)
    (small : length bs < 2 ^ 64) (inner : Message → ℕ → List ℕ → Listed) (t : Tree)
    (rest : records_from L s inner m (place + length (sized n bs)) 0 ys ≡ listed t) where
  abbrev begins : ℕ
  begins = place + length (head_of n (length bs))

  sized-leaf : ((d : Declaration) → declared s m n ≡ Some d → wire_of d.shape.typ ≡ LEN) → Plain s m n
      → records_from L s inner m place 0 (sized n bs ++ ys) ≡ listed (one (entry_by (declared s m n) n LEN begins bs) t)
  sized-leaf e h =
      rw (sized-is n bs, head-is n bs)
      (leaf-case L s m place (sized-front n range ys bs small) inner (declared s m n) refl e h t (rw (sized-is n bs) at rest))

  sized-message : (inside : Message → Tree)
      → ((d : Declaration) → declared s m n ≡ Some d
      → (d.shape.typ ≡ TYPE_MESSAGE) × Names L s d (λ p. inner p begins bs ≡ listed (inside p)))
      → records_from L s inner m place 0 (sized n bs ++ ys)
      ≡ listed (holds L s (declared s m n) (entry_by (declared s m n) n LEN begins bs) inside t)
  sized-message inside h =
      rw (sized-is n bs, head-is n bs)
      (message-case L s m place (sized-front n range ys bs small) inner (declared s m n) refl refl inside (rw (head-is n bs) at h) t
      (rw (sized-is n bs) at rest))

pub names-all : {L : Lookups} {s : List ℕ} {d : Declaration} {P Q : Message → Type 0} → ((p : Message) → P p → Q p) → Names L s d P
    → Names L s d Q
names-all {L} {s} {d} f x = record { place = x.place; found = x.found; inside = f (reached_by s d x.place) x.inside }

-- ---- the statement
module _ (L : Lookups) (s : List ℕ) where
  records-read : {rs : Recs} → Proper rs → (m : Message) (place d : ℕ) → Readable L s m rs → length (encode rs) < 2 ^ 64 → nested rs ≤ d
      → records_from L s (reading L s d) m place 0 (encode rs) ≡ listed (seen L s m rs place)
  unfolding encode reading
  records-read proper-nil m place d y h k = records-nil L s (reading L s d) m place 0
  records-read (proper-number {n} {t} {v} {r} range g b p) m place d y h k =
      let bs = headed n t ++ payload t v in
      let rest = records-read p m (place + length bs) d y.1 (omega (arith, length-append bs (encode r))) k in
      rw add-zero at
      (leaf-case L s m place (number-front n range (encode r) t v b g) (reading L s d) (declared s m n) refl y.0
      (λ x q. number-plain t x.shape.typ g (y.0 x q)) (seen L s m r (place + length bs)) rest)
  records-read (proper-bytes {n} {t} {bs} {r} range e p) m place d y h k =
      let rest = records-read p m (place + length (sized n bs)) d y.2 (rest-small n bs (encode r) h) k in
      sized-leaf L s m place n range bs (encode r) (sized-small n bs (encode r) h) (reading L s d) _ rest (λ x q. y.0 x q ∙ e) y.1
  records-read (proper-message {n} {i} {r} range q p) m place zero y h k = absurd (omega arith)
  records-read (proper-message {n} {i} {r} range q p) m place (suc d) y h k =
      let bs = encode i in
      let at = place + length (head_of n (length bs)) in
      let small = sized-small n bs (encode r) h in
      let rest = records-read p m (place + length (sized n bs)) (suc d) y.1 (rest-small n bs (encode r) h) (omega arith) in
      sized-message L s m place n range bs (encode r) small (reading L s (suc d)) _ rest (λ x. seen L s x i at)
      (λ x g. ((y.0 x g).0, names-all (λ x z. records-read q x at d z small (omega arith)) (y.0 x g).1))

  -- Whatever the sheet: the bytes of records that it does not contradict are read, never refused, as the sheet sees these records.
  pub reading-of-records : {rs : Recs} → Proper rs → (m : Message) (place d : ℕ) → Readable L s m rs → length (encode rs) < 2 ^ 64
      → nested rs < d → reading L s d m place (encode rs) ≡ listed (seen L s m rs place)
  unfolding reading
  reading-of-records p m place zero y h k = absurd (omega arith)
  reading-of-records p m place (suc d) y h k = records-read p m place d y h (omega arith)
