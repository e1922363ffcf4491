-- Records read back: by Encoding alone the bytes of typed records are those records in their order, with their numbers, their wire types
-- and their payloads, and no varint among them has a shorter form.
-- Assumes nothing.
use Rattle.std.specs.Prelude.{◌≡◌, refl, Bool, true, false, ◌||◌, List, [], ◌∷◌, ◌++◌, ℕ, ◌+◌, ◌-◌, ◌^◌, ◌≤◌, ◌<◌, eqb, length, drop, Option, Some}
use Rattle.basis.specs.Kit.{sym, ap, ◌∙◌}
use Rattle.basis.proofs.Kit.{arith}
use mathlib.Core.Path.{subst}
use mathlib.Core.Bool.{false≢true}
use mathlib.Core.List.{append_assoc}
use lib.ListN.{length-append}
use lib.Seq.{take-append_seam, drop-append_seam}
use borrow.Author.Tests.{eqb-true, le-leb}
use Rattle.limits.specs.Figures.{most_number}
use Rattle.types.specs.Types.{is_any, wire_of, VARINT, I64, I32, LEN}
use Rattle.varint.specs.Varint.{varint, read_varint}
use Rattle.varint.proofs.VarintLaws.{varint-some, read-varint, varint-shortest}
use Rattle.wire.specs.Tag.{tag_of, wire_type_of, wire_read}
use Rattle.wire.specs.Fixed.{little_of}
use Rattle.wire.specs.Numbers.{low32_of}
use Rattle.wire.proofs.TagLaws.{number-of-tag-of, wire-type-of-tag-of, wire-read-lt, tag-of-good}
use Rattle.wire.proofs.FixedLaws.{little-of-length}
use Rattle.records.specs.Records.{Recs, message, payload, head_of, headed, sized, encode}
use Rattle.payloads.specs.Extent.{Extent, within, on_read, payload_at}
use Rattle.records.specs.Raw.{Raw, behind_tag, front_of, raw_from, raw_of, raws_of, Proper}
use Rattle.records.specs.Raw.{proper-nil, proper-number, proper-bytes, proper-message}
use Rattle.records.proofs.PayloadLaws.{on_type, on-type-lt, payload-four, payload-eight, payload-varint}
use Rattle.varint.specs.declared.Read.{Read}

-- ---- one record after the other
raw-skip : (xs ys : List ℕ) → raw_from (length xs) (xs ++ ys) ≡ raw_of ys
unfolding raw_from
raw-skip [] ys = refl
raw-skip (x ∷ xs) ys = raw-skip xs ys

raw-next : (xs ys : List ℕ) (r : Raw) (rs : List Raw) → 1 ≤ length xs
    → front_of (xs ++ ys) ≡ Some (record { first = r; more = length xs - 1 }) → raw_of ys ≡ Some rs → raw_of (xs ++ ys) ≡ Some (r ∷ rs)
unfolding raw_from
raw-next [] ys r rs h f e = absurd (omega arith)
raw-next (x ∷ xs) ys r rs h f e =
    let more : length (x ∷ xs) - 1 ≡ length xs = omega arith in
    rw (f, more, raw-skip xs ys, e)

-- ---- a payload at the front
module _ (w : ℕ) (P : ℕ → Type 0) (a : P VARINT) (b : P I64) (c : P I32) where
  pub number-wire : is_any w (VARINT ∷ I64 ∷ I32 ∷ []) ≡ true → P w
  number-wire = go (eqb w VARINT) (eqb w I64) (eqb w I32) refl refl refl
    where
      go : (x y z : Bool) → eqb w VARINT ≡ x → eqb w I64 ≡ y → eqb w I32 ≡ z → (x || (y || (z || false))) ≡ true → P w
      go true y z p q r h = subst P (sym (eqb-true w VARINT p)) a
      go false true z p q r h = subst P (sym (eqb-true w I64 q)) b
      go false false true p q r h = subst P (sym (eqb-true w I32 r)) c
      go false false false p q r h = absurd (false≢true h)

abbrev extent : (before size : ℕ) → Option Extent
extent k n = Some (record { before = k; size = n })

within-is : (xs ys : List ℕ) (k n : ℕ) → length xs ≡ k + n → within (xs ++ ys) k n ≡ extent k n
within-is xs ys k n e =
    let room : k + n ≤ length (xs ++ ys) = rw length-append (omega arith) in
    rw (le-leb (k + n) (length (xs ++ ys)) room, within)

varint-at : (v : ℕ) (ys : List ℕ) → v < 2 ^ 64 → payload_at VARINT (varint v ++ ys) ≡ extent 0 (length (varint v))
unfolding payload_at
varint-at v ys h = rw (read-varint v ys h) (within-is (varint v) ys 0 (length (varint v)) (omega arith))

pub bytes-at : (bs ys : List ℕ) → length bs < 2 ^ 64
    → payload_at LEN (varint (length bs) ++ (bs ++ ys)) ≡ extent (length (varint (length bs))) (length bs)
unfolding payload_at
bytes-at bs ys h =
    let v = varint (length bs) in
    rw (read-varint (length bs) (bs ++ ys) h, ← append_assoc v bs ys)
    (within-is (v ++ bs) ys (length v) (length bs) (length-append v bs))

module _ (t v : ℕ) (ys : List ℕ) where
  abbrev At : (wire : ℕ) → Type 0
  At w = wire_of t ≡ w → payload_at w (payload t v ++ ys) ≡ extent 0 (length (payload t v))

  fixed-at : (w k x : ℕ) → payload t v ≡ little_of k x → ((bs : List ℕ) → payload_at w bs ≡ within bs 0 k) → At w
  fixed-at w k x p q e =
      let size : length (payload t v) ≡ k = ap length p ∙ little-of-length k x in
      q (payload t v ++ ys) ∙ within-is (payload t v) ys 0 k (omega arith) ∙ ap (extent 0) (sym size)

  pub number_at : v < 2 ^ 64 → is_any (wire_of t) (VARINT ∷ I64 ∷ I32 ∷ []) ≡ true → At (wire_of t)
  unfolding payload_at
  number_at h =
      number-wire (wire_of t) At
      (λ e. rw (payload-varint t v (λ c. omega arith) (λ c. omega arith)) (varint-at (on_type t v) ys (on-type-lt t v h)))
      (λ e. fixed-at I64 8 v (payload-eight t v e) (λ bs. refl) e)
      (λ e. fixed-at I32 4 (low32_of v) (payload-four t v e) (λ bs. refl) e)

-- ---- a record at the front: its tag, bytes of a length, its payload
module _ (n w : ℕ) (range : (1 ≤ n) × (n ≤ most_number)) (good : wire_read w ≡ true) where
  tag_small : tag_of n w < 2 ^ 64
  tag_small = omega (arith, range.1, wire-read-lt w good)

  tag_at : (bs : List ℕ) → front_of (varint (tag_of n w) ++ bs) ≡ behind_tag bs (tag_of n w) (length (varint (tag_of n w)))
  unfolding front_of
  tag_at bs =
      let v = varint (tag_of n w) in
      ap (λ r. on_read r (λ t k. behind_tag (drop k (v ++ bs)) t k)) (read-varint (tag_of n w) bs tag_small)
      ∙ ap (λ xs. behind_tag xs (tag_of n w) (length v)) (drop-append_seam v bs)

  module _ (lead body ys : List ℕ) where
    front-is : payload_at w (lead ++ (body ++ ys)) ≡ extent (length lead) (length body)
        → front_of ((varint (tag_of n w) ++ (lead ++ body)) ++ ys)
        ≡ Some (record {
          first = record { number = n; wire = w; payload = body };
          more = length (varint (tag_of n w) ++ (lead ++ body)) - 1;
        })
    front-is e =
        let v = varint (tag_of n w) in
        let rest = lead ++ (body ++ ys) in
        let low : w < 8 = wire-read-lt w good in
        let joined : (v ++ (lead ++ body)) ++ ys ≡ v ++ rest = simp append_assoc in
        let here : payload_at (wire_type_of (tag_of n w)) rest ≡ extent (length lead) (length body) =
        ap (λ x. payload_at x rest) (wire-type-of-tag-of n w low) ∙ e in
        let size : length v + length lead + length body ≡ length (v ++ (lead ++ body)) = simp length-append (omega arith) in
        ap front_of joined ∙ tag_at rest ∙ rw (tag-of-good n w range.0 range.1 good, behind_tag, here)
        (rw (number-of-tag-of n w low, wire-type-of-tag-of n w low, drop-append_seam lead (body ++ ys), take-append_seam body ys, size))

    record-next : payload_at w (lead ++ (body ++ ys)) ≡ extent (length lead) (length body) → (rs : List Raw) → raw_of ys ≡ Some rs
        → raw_of ((varint (tag_of n w) ++ (lead ++ body)) ++ ys) ≡ Some (record { number = n; wire = w; payload = body } ∷ rs)
    record-next e rs q =
        let v = varint (tag_of n w) in
        let Some : 1 ≤ length (v ++ (lead ++ body)) = rw length-append (omega (arith, varint-some (tag_of n w))) in
        raw-next (v ++ (lead ++ body)) ys (record { number = n; wire = w; payload = body }) rs Some (front-is e) q

-- a length-delimited record
sized-next : (n : ℕ) (bs ys : List ℕ) (rs : List Raw) → (1 ≤ n) × (n ≤ most_number) → length (sized n bs ++ ys) < 2 ^ 64 → raw_of ys ≡ Some rs
    → raw_of (sized n bs ++ ys) ≡ Some (record { number = n; wire = LEN; payload = bs } ∷ rs)
unfolding head_of
sized-next n bs ys rs range h q =
    let small : length bs < 2 ^ 64 = omega (arith, length-append (sized n bs) ys, length-append (head_of n (length bs)) bs) in
    rw (append_assoc (varint (tag_of n LEN)) (varint (length bs)) bs)
    (record-next n LEN range refl (varint (length bs)) bs ys (bytes-at bs ys small) rs q)

-- ---- the statement
pub read_back : {rs : Recs} → Proper rs → length (encode rs) < 2 ^ 64 → raw_of (encode rs) ≡ Some (raws_of rs)
unfolding encode raw_from wire_of
read_back proper-nil h = refl
read_back (proper-number {n} {t} {v} {r} range k b p) h =
    let good : wire_read (wire_of t) ≡ true = number-wire (wire_of t) (λ w. wire_read w ≡ true) refl refl refl k in
    let rest = read_back p (omega (arith, length-append (headed n t ++ payload t v) (encode r))) in
    record-next n (wire_of t) range good [] (payload t v) (encode r) (number_at t v (encode r) b k refl) (raws_of r) rest
read_back (proper-bytes {n} {t} {bs} {r} range e p) h =
    let rest = read_back p (omega (arith, length-append (sized n bs) (encode r))) in
    rw e (sized-next n bs (encode r) (raws_of r) range h rest)
read_back (proper-message {n} {i} {r} range q p) h =
    sized-next n (encode i) (encode r) (raws_of r) range h (read_back p (omega (arith, length-append (sized n (encode i)) (encode r))))

-- and so on inside a message
pub read-inside : {n : ℕ} {i r : Recs} → Proper (message n i r) → length (encode (message n i r)) < 2 ^ 64
    → raw_of (encode i) ≡ Some (raws_of i)
unfolding encode
read-inside {n} {i} {r} (proper-message range q p) h =
    read_back q (omega (arith, length-append (sized n (encode i)) (encode r), length-append (head_of n (length (encode i))) (encode i)))

-- and every tag, length and number is written by `varint`: it is the shortest of all that read as its value
pub shortest : (bs : List ℕ) (x : Read) → read_varint bs ≡ Some x → length (varint x.value) ≤ x.next
shortest = varint-shortest
