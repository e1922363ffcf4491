-- What callers know of a payload: it lies inside the bytes that it is read from, and its own bytes say its size and its number.
-- Assumes nothing.
use Rattle.std.specs.Prelude.{◌≡◌, refl, Bool, true, false, List, ℕ, ◌+◌, ◌-◌, ◌≤◌, eqb, leb, length, take, drop, Option, None, Some}
use Rattle.basis.specs.Kit.{sym, ◌∙◌}
use Rattle.basis.proofs.Kit.{arith}
use Rattle.basis.proofs.Never.{never}
use native.Mathlib.Nat.{min-le_left}
use borrow.Author.Tests.{leb-true}
use lib.ListN.{length-take}
use Rattle.octets.specs.Octets.{part}
use Rattle.types.specs.Types.{VARINT, I64, LEN, I32}
use Rattle.varint.specs.Varint.{read_varint, read}
use Rattle.payloads.specs.Extent.{Extent, within, on_read, payload_at}
use Rattle.payloads.specs.Value.{said}
use Rattle.payloads.specs.inner.Placed.{placed, payload_in, held}
use Rattle.payloads.proofs.VarintOwn.{varint-own}
use Rattle.payloads.specs.declared.Payload.{Payload}
use Rattle.varint.specs.declared.Read.{Read}

-- ---- what is made of a varint was made of one that was read
pub record Given {A : Type 0} (bs : List ℕ) (f : (value size : ℕ) → Option A) (x : A) : Type 0 where
  pub value : ℕ
  pub size : ℕ
  pub read : read_varint bs ≡ Some (read value size)
  pub made : f value size ≡ Some x

pub read-given : {A : Type 0} (bs : List ℕ) (f : (value size : ℕ) → Option A) (x : A) → on_read (read_varint bs) f ≡ Some x → Given bs f x
read-given {A} bs f x = go (read_varint bs) refl
  where
    go : (r : Option Read) → read_varint bs ≡ r → on_read r f ≡ Some x → Given bs f x
    go (Some it) e q = record { value = it.value; size = it.next; read = e; made = q }
    go None e q = never cc

-- ---- an extent: n bytes behind k, and all of them are there
record Held (bs : List ℕ) (k n : ℕ) (x : Extent) : Type 0 where
  pub is : x ≡ record { before = k; size = n }
  pub room : k + n ≤ length bs

within_held : (bs : List ℕ) (k n : ℕ) (x : Extent) → within bs k n ≡ Some x → Held bs k n x
within_held bs k n x = go (leb (k + n) (length bs)) refl
  where
    go : (t : Bool) → leb (k + n) (length bs) ≡ t
        → elim t [ true ↦ Some (record { before = k; size = n }) | false ↦ None ] ≡ Some x → Held bs k n x
    go true e q = record { is = cc; room = leb-true (k + n) (length bs) e }
    go false e q = never cc

pub extent-inside : (w : ℕ) (bs : List ℕ) (x : Extent) → payload_at w bs ≡ Some x → x.before + x.size ≤ length bs
unfolding payload_at
extent-inside w bs x = go (eqb w VARINT) (eqb w I64) (eqb w I32)
  where
    Inside : Type 0
    Inside = x.before + x.size ≤ length bs

    by : (k n : ℕ) → within bs k n ≡ Some x → Inside
    by k n e = let h = within_held bs k n x e in rw h.is h.room

    one : on_read (read_varint bs) (λ v n. within bs 0 n) ≡ Some x → Inside
    one e = let g = read-given bs (λ v n. within bs 0 n) x e in by 0 g.size g.made

    sized : on_read (read_varint bs) (λ k n. within bs n k) ≡ Some x → Inside
    sized e = let g = read-given bs (λ k n. within bs n k) x e in by g.size g.value g.made

    go : (a b c : Bool) → elim a [
      | true ↦ on_read (read_varint bs) (λ v n. within bs 0 n)
      | false ↦ elim b [
        | true ↦ within bs 0 8
        | false ↦ elim c [ true ↦ within bs 0 4 | false ↦ on_read (read_varint bs) (λ k n. within bs n k) ]
      ]
    ] ≡ Some x → Inside
    go true b c = one
    go false true c = by 0 8
    go false false true = by 0 4
    go false false false = sized

-- ---- what its bytes say by Encoding: all of them are one varint, or they are eight, or four; a length says how many there are
abbrev pub bytes_of : List ℕ → Extent → List ℕ
bytes_of bs x = take x.size (drop x.before bs)

module _ (bs : List ℕ) (x : Extent) where
  pub extent-own : payload_at VARINT bs ≡ Some x → read_varint (bytes_of bs x) ≡ Some (read (said VARINT (bytes_of bs x)) x.size)
  unfolding payload_at said
  extent-own e =
      let g = read-given bs (λ v n. within bs 0 n) x e in
      let h = within_held bs 0 g.size x g.made in
      let here : read_varint (take g.size bs) ≡ Some (read g.value g.size) = varint-own bs (read g.value g.size) g.read in
      rw (h.is, here)

  pub extent-eight : payload_at I64 bs ≡ Some x → x.size ≡ 8
  unfolding payload_at
  extent-eight e = rw (within_held bs 0 8 x e).is

  pub extent-four : payload_at I32 bs ≡ Some x → x.size ≡ 4
  unfolding payload_at
  extent-four e = rw (within_held bs 0 4 x e).is

  pub extent-length : payload_at LEN bs ≡ Some x → read_varint bs ≡ Some (read x.size x.before)
  unfolding payload_at
  extent-length e =
      let g = read-given bs (λ k n. within bs n k) x e in
      rw (within_held bs g.size g.value x g.made).is g.read

-- ---- a payload at a place
pub record PlacedAs (w : ℕ) (s : List ℕ) (at end : ℕ) (p : Payload) : Type 0 where
  pub extent : Extent
  pub found : payload_at w (part s at end) ≡ Some extent
  pub place : p.at ≡ at + extent.before
  pub size : p.size ≡ extent.size
  pub number : p.number ≡ said w (bytes_of (part s at end) extent)

module _ (w : ℕ) (s : List ℕ) (at end : ℕ) (p : Payload) where
  pub payload-placed : payload_in w s at end ≡ Some p → PlacedAs w s at end p
  unfolding payload_in
  payload-placed = go (payload_at w (part s at end)) refl
    where
      go : (o : Option Extent) → payload_at w (part s at end) ≡ o → placed w (part s at end) at o ≡ Some p → PlacedAs w s at end p
      go None e q = never cc
      go (Some x) e q =
          let is : p ≡ held (at + x.before) x.size (said w (bytes_of (part s at end) x)) = cc in
          rw is (record { extent = x; found = e; place = refl; size = refl; number = refl })

  module _ (e : payload_in w s at end ≡ Some p) where
    pub payload-after : at ≤ p.at
    payload-after = let h = payload-placed e in omega (arith, h.place)

    pub payload-inside : at ≤ end → p.at + p.size ≤ end
    payload-inside g =
        let h = payload-placed e in
        let room = extent-inside w (part s at end) h.extent h.found in
        let few : length (part s at end) ≤ end - at = rw length-take (min-le_left (end - at) _) in
        omega (arith, h.place, h.size, room, few)

-- as the callers of `payload_at` have it
module _ (w : ℕ) (s : List ℕ) (at end : ℕ) (r : Option Payload) (e : r ≡ payload_in w s at end) (x : Payload) (q : r ≡ Some x) where
  pub whole-after : at ≤ x.at
  whole-after = payload-after w s at end x (sym e ∙ q)

  pub whole-inside : at ≤ end → x.at + x.size ≤ end
  whole-inside = payload-inside w s at end x (sym e ∙ q)

pub ruleset payload_bounds = (whole-after, whole-inside)
