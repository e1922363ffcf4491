-- The laws of `payload_at` and of its three helpers, one for each way through the code.
-- Assumes nothing.
use Rattle.std.specs.Prelude.{◌≡◌, refl, Bool, true, false, List, ℕ, ◌+◌, ◌-◌, ◌≤◌, ◌<◌, eqb, length, take, drop, None, Some, Option}
use Rattle.basis.specs.Kit.{sym, ap, ◌∙◌}
use Rattle.basis.proofs.Kit.{arith, eq-eqb, ne_eqb, not-true, not-false}
use Rattle.basis.specs.First.{only_if}
use Rattle.basis.proofs.Never.{never}
use mathlib.Core.Bool.{or-false}
use native.Mathlib.Nat.{add-zero, add-sub_cancel_left}
use native.Mathlib.Decide.{ℕ_discrete}
use borrow.Author.Tests.{le-leb, lt-leb, eqb-true}
use lib.Seq.{take-take}
use Rattle.octets.specs.Octets.{part}
use Rattle.octets.proofs.Parts.{part_length}
use Rattle.types.specs.Types.{VARINT, I64, LEN, I32}
use Rattle.varint.specs.Varint.{read_varint, at_place, varint_at, read}
use Rattle.varint.proofs.VarintLaws.{read-inside, varint-after, varint-inside}
use Rattle.wire.specs.Tag.{wire_read}
use Rattle.wire.specs.Fixed.{little}
use Rattle.payloads.specs.Extent.{within, payload_at}
use Rattle.payloads.specs.Value.{said}
use Rattle.payloads.specs.inner.Placed.{payload_in, held}
use Rattle.payloads.proofs.VarintOwn.{varint-own}
use Rattle.payloads.specs.declared.Payload.{Payload}
use Rattle.varint.specs.declared.Read.{Read}

-- ---- the definitions as equations

module _ (bs : List ℕ) (k n : ℕ) where
  pub within-whole : k + n ≤ length bs → within bs k n ≡ Some (record { before = k; size = n })
  within-whole h = rw (le-leb (k + n) (length bs) h, within)

  pub within-cut : length bs < k + n → within bs k n ≡ None
  within-cut h = rw (lt-leb (k + n) (length bs) h, within)

module _ (w : ℕ) (s : List ℕ) (at end : ℕ) where
  in_cut : payload_at w (part s at end) ≡ None → None ≡ payload_in w s at end
  unfolding payload_in
  in_cut e = rw e

  in_whole : (k n v : ℕ) → payload_at w (part s at end) ≡ Some (record { before = k; size = n })
      → said w (take n (drop k (part s at end))) ≡ v → Some (held (at + k) n v) ≡ payload_in w s at end
  unfolding payload_in
  in_whole k n v e q = rw (e, q)

-- ---- what `varint_at` has read
read_none : (at : ℕ) (r : Option Read) → None ≡ at_place at r → r ≡ None
read_none at (Some it) e = never cc
read_none at None e = refl

read-placed : (at : ℕ) (x : Read) (r : Option Read) → Some x ≡ at_place at r → r ≡ Some (read x.value (x.next - at))
read-placed at x (Some y) e =
    let is : x ≡ read y.value (at + y.next) = cc in
    rw (is, add-sub_cancel_left at y.next)
read-placed at x None e = never cc

module _ (s : List ℕ) (at end : ℕ) (r : Option Read) (p : r ≡ varint_at s at end) where
  module _ (q : r ≡ None) where
    pub varint-unread : read_varint (part s at end) ≡ None
    unfolding varint_at
    varint-unread = read_none at (read_varint (part s at end)) (sym q ∙ p)

    pub varint-cut : None ≡ payload_in VARINT s at end
    unfolding payload_at
    varint-cut = in_cut VARINT s at end (rw varint-unread)

    pub delimited-cut : None ≡ payload_in LEN s at end
    unfolding payload_at
    delimited-cut = in_cut LEN s at end (rw varint-unread)

  module _ (x : Read) (q : r ≡ Some x) where
    pub varint-read : read_varint (part s at end) ≡ Some (read x.value (x.next - at))
    unfolding varint_at
    varint-read = read-placed at x (read_varint (part s at end)) (sym q ∙ p)

    pub next-after : at ≤ x.next
    next-after = omega (arith, varint-after s at end r p x q)

    pub next-inside : x.next ≤ end
    next-inside = varint-inside s at end r p x q

    pub varint-whole : Some (held at (x.next - at) x.value) ≡ payload_in VARINT s at end
    unfolding payload_at said
    varint-whole =
        let bs = part s at end in
        let n = x.next - at in
        let room : 0 + n ≤ length bs = omega (arith, read-inside bs (read x.value n) varint-read) in
        rw add-zero at (in_whole VARINT s at end 0 n x.value (rw varint-read (within-whole bs 0 n room)) (rw (varint-own bs (read x.value n) varint-read)))

    module _ (h : end ≤ length s) where
      size : length (part s at end) ≡ end - at
      size = part_length s at end h

      pub delimited-whole : x.value ≤ end - x.next → Some (held x.next x.value 0) ≡ payload_in LEN s at end
      unfolding payload_at said
      delimited-whole g =
          let place : at + (x.next - at) ≡ x.next = omega (arith, next-after) in
          let room : x.next - at + x.value ≤ length (part s at end) = omega (arith, next-after, next-inside, size) in
          rw place at (in_whole LEN s at end (x.next - at) x.value 0 (rw varint-read (within-whole (part s at end) (x.next - at) x.value room)) refl)

      pub delimited-short : end - x.next < x.value → None ≡ payload_in LEN s at end
      unfolding payload_at
      delimited-short g =
          let more : length (part s at end) < x.next - at + x.value = omega (arith, next-after, next-inside, size) in
          in_cut LEN s at end (rw varint-read (within-cut (part s at end) (x.next - at) x.value more))

-- ---- a fixed width: one law over the wire type and its width
record Fixed (w k : ℕ) : Type 0 where
  pub extent : (bs : List ℕ) → payload_at w bs ≡ within bs 0 k
  pub number : (bs : List ℕ) → said w bs ≡ little bs

module _ (w k : ℕ) (f : Fixed w k) (s : List ℕ) (at end : ℕ) (h : end ≤ length s) where
  fixed-cut : end - at < k → None ≡ payload_in w s at end
  fixed-cut g =
      let bs = part s at end in
      in_cut w s at end (f.extent bs ∙ within-cut bs 0 k (omega (arith, part_length s at end h)))

  fixed-whole : (v : ℕ) → v ≡ little (part s at (at + k)) → k ≤ end - at → Some (held at k v) ≡ payload_in w s at end
  fixed-whole v e g =
      let bs = part s at end in
      let front : take k bs ≡ part s at (at + k) = rw (take-take k (end - at) (drop at s) g, add-sub_cancel_left at k) in
      let here = f.extent bs ∙ within-whole bs 0 k (omega (arith, part_length s at end h)) in
      rw add-zero at (in_whole w s at end 0 k v here (f.number (take k bs) ∙ ap little front ∙ sym e))

fixed-four : Fixed I32 4
unfolding payload_at said
fixed-four = record { extent = λ bs. refl; number = λ bs. refl }

fixed-eight : Fixed I64 8
unfolding payload_at said
fixed-eight = record { extent = λ bs. refl; number = λ bs. refl }

module _ (s : List ℕ) (at end : ℕ) (h : end ≤ length s) where
  pub four-cut : end - at < 4 → None ≡ payload_in I32 s at end
  four-cut = fixed-cut I32 4 fixed-four s at end h

  pub four-whole : (v : ℕ) → v ≡ little (part s at (at + 4)) → 4 ≤ end - at → Some (held at 4 v) ≡ payload_in I32 s at end
  four-whole = fixed-whole I32 4 fixed-four s at end h

  pub eight-cut : end - at < 8 → None ≡ payload_in I64 s at end
  eight-cut = fixed-cut I64 8 fixed-eight s at end h

  pub eight-whole : (v : ℕ) → v ≡ little (part s at (at + 8)) → 8 ≤ end - at → Some (held at 8 v) ≡ payload_in I64 s at end
  eight-whole = fixed-whole I64 8 fixed-eight s at end h

-- ---- `varint_in`: the two wire types that begin with a varint
module _ (s : List ℕ) (at end : ℕ) (b : Bool) (r : Option Read) (p : r ≡ varint_at s at end) where
  pub either-cut : r ≡ None → None ≡ payload_in (only_if b VARINT LEN) s at end
  either-cut q = go b
    where
      go : (b : Bool) → None ≡ payload_in (only_if b VARINT LEN) s at end
      go true = varint-cut s at end r p q
      go false = delimited-cut s at end r p q

  module _ (x : Read) (q : r ≡ Some x) where
    pub either-varint : b ≡ true → Some (held at (x.next - at) x.value) ≡ payload_in (only_if b VARINT LEN) s at end
    either-varint e = rw e (varint-whole s at end r p x q)

    module _ (e : b ≡ false) (h : end ≤ length s) where
      pub either-delimited : x.value ≤ end - x.next → Some (held x.next x.value 0) ≡ payload_in (only_if b VARINT LEN) s at end
      either-delimited k = rw e (delimited-whole s at end r p x q h k)

      pub either-short : end - x.next < x.value → None ≡ payload_in (only_if b VARINT LEN) s at end
      either-short k = rw e (delimited-short s at end r p x q h k)

-- ---- `payload_at`: by the wire type
module _ (w : ℕ) (s : List ℕ) (at end : ℕ) (r : Option Payload) where
  pub by-wire : (x : ℕ) → r ≡ payload_in x s at end → w ≡ x → r ≡ payload_in w s at end
  by-wire x q e = rw e q

  pub by-rest : r ≡ payload_in (only_if (eqb w VARINT) VARINT LEN) s at end → wire_read w ≡ true → (w ≡ I64 → ⊥) → (w ≡ I32 → ⊥)
      → r ≡ payload_in w s at end
  by-rest q g a b = elim (ℕ_discrete w VARINT) [
    | yes e ↦ q ∙ rw (eq-eqb w VARINT e) (rw e)
    | no c ↦
        let e : w ≡ LEN = eqb-true w LEN (rw (ne_eqb w VARINT c, ne_eqb w I64 a, ne_eqb w I32 b, or-false) at g) in
        q ∙ rw (ne_eqb w VARINT c) (rw e)
  ]

pub ruleset varint_laws = (next-after, next-inside, not-true, not-false, either-cut, either-varint, either-delimited, either-short)

pub ruleset fixed_laws = (four-cut, four-whole, eight-cut, eight-whole)

pub ruleset payload_laws = (varint_laws, fixed_laws, by-wire, by-rest)
