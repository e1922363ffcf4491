-- Varints: what was written is read back, the written form is the shortest that reads as its value, and what is read has its bounds.
-- Assumes nothing.
use Rattle.std.specs.Prelude.{◌≡◌, refl, List, [], ◌∷◌, ◌++◌, ℕ, zero, suc, ◌+◌, ◌-◌, ◌*◌, ◌/◌, ◌%◌, ◌^◌, ◌≤◌, ◌<◌, length, drop, None, Some, Option}
use Rattle.basis.specs.Kit.{sym, ◌∙◌}
use Rattle.basis.proofs.Kit.{arith, lt-ltb, le-ltb}
use mathlib.Core.Path.{subst}
use native.Mathlib.Nat.{div-lt_iff_lt-mul, pow-suc, one-le-pow, le_trans, min-le_left}
use native.Mathlib.Decide.{dec_lt}
use lib.ListN.{length-take}
use Rattle.limits.specs.Figures.{most_varint}
use Rattle.octets.specs.Octets.{part}
use Rattle.varint.specs.Varint.{varint_within, varint, continued, read_within, read_varint, at_place, varint_at, read}
use Rattle.octets.proofs.Bytes.{Bytes, bytes_one, bytes-cons}
use Rattle.varint.specs.declared.Read.{Read}

-- ---- the definitions as equations

pub within-one : (k v : ℕ) → v < 128 → varint_within k v ≡ v ∷ []
unfolding varint_within
within-one zero v h = refl
within-one (suc k) v h = rw (varint_within, lt-ltb v 128 h)

pub within_more : (k v : ℕ) → 128 ≤ v → varint_within (suc k) v ≡ (128 + v % 128) ∷ varint_within k (v / 128)
unfolding varint_within
within_more k v h = rw (varint_within, le-ltb v 128 h)

module _ (b : ℕ) (bs : List ℕ) where
  pub read-last : b < 2 → read_within zero (b ∷ bs) ≡ Some (read b 1)
  unfolding read_within
  read-last h = rw (read_within, lt-ltb b 2 h)

  pub read-over : 2 ≤ b → read_within zero (b ∷ bs) ≡ None
  unfolding read_within
  read-over h = rw (read_within, le-ltb b 2 h)

  pub read_one : (k : ℕ) → b < 128 → read_within (suc k) (b ∷ bs) ≡ Some (read b 1)
  unfolding read_within
  read_one k h = rw (read_within, lt-ltb b 128 h)

  pub read_more : (k : ℕ) → 128 ≤ b → read_within (suc k) (b ∷ bs) ≡ continued b (read_within k bs)
  unfolding read_within
  read_more k h = rw (read_within, le-ltb b 128 h)

-- what holds of any one byte, and of a byte in front of bytes of which it holds, holds of what is written
within-each : (P : ℕ → List ℕ → Type 0) → ((k v : ℕ) → P k (v ∷ [])) → ((k b : ℕ) (bs : List ℕ) → P k bs → P (suc k) (b ∷ bs))
    → (k v : ℕ) → P k (varint_within k v)
unfolding varint_within
within-each P ends on zero v = ends zero v
within-each P ends on (suc k) v = elim (dec_lt v 128) [
  | yes g ↦ rw (within-one (suc k) v g) (ends (suc k) v)
  | no g ↦ rw (within_more k v (omega arith)) (on k (128 + v % 128) (varint_within k (v / 128)) (within-each P ends on k (v / 128)))
]

pub varint-some : (v : ℕ) → 1 ≤ length (varint v)
unfolding varint
varint-some = within-each (λ k bs. 1 ≤ length bs) (λ k v. omega arith) (λ k b bs h. omega arith) (most_varint - 1)

pub varint-few : (v : ℕ) → length (varint v) ≤ most_varint
unfolding varint
varint-few = within-each (λ k bs. length bs ≤ suc k) (λ k v. omega arith) (λ k b bs h. omega arith) (most_varint - 1)

-- one group of seven bits less
pub group-lt : (k v : ℕ) → v < 2 * 128 ^ suc k → v / 128 < 2 * 128 ^ k
group-lt k v h = (div-lt_iff_lt-mul {k = 128} {x = v} {y = 2 * 128 ^ k} (omega arith)).1 (omega (arith, pow-suc 128 k))

-- ---- what is written: bs is the shortest varint of v, where k bytes at the most follow its first

pub data Shortest : ℕ → ℕ → List ℕ → Type 0 where
  last : {v : ℕ} → v < 2 → Shortest zero v (v ∷ [])
  one : {k v : ℕ} → v < 128 → Shortest (suc k) v (v ∷ [])
  more : {k v : ℕ} {bs : List ℕ} → 128 ≤ v → Shortest k (v / 128) bs → Shortest (suc k) v ((128 + v % 128) ∷ bs)

pub within-shortest : (k v : ℕ) → v < 2 * 128 ^ k → Shortest k v (varint_within k v)
unfolding varint_within
within-shortest zero v h = last h
within-shortest (suc k) v h = elim (dec_lt v 128) [
  | yes g ↦ rw (within-one (suc k) v g) (one g)
  | no g ↦ let g : 128 ≤ v = omega arith in rw (within_more k v g) (more g (within-shortest k (v / 128) (group-lt k v h)))
]

-- the two ways a shortest varint goes on
pub shortest-end : {k v : ℕ} {bs : List ℕ} → Shortest k v bs → v < 128 → bs ≡ v ∷ []
shortest-end (last h) g = refl
shortest-end (one h) g = refl
shortest-end (more h r) g = absurd (omega arith)

pub record More (v : ℕ) (bs : List ℕ) : Type 0 where
  pub room : ℕ
  pub rest : List ℕ
  pub left : Shortest room (v / 128) rest
  pub first : bs ≡ (128 + v % 128) ∷ rest

pub shortest-more : {k v : ℕ} {bs : List ℕ} → Shortest k v bs → 128 ≤ v → More v bs
shortest-more (last h) g = absurd (omega arith)
shortest-more (one h) g = absurd (omega arith)
shortest-more (more h r) g = record { room = _; rest = _; left = r; first = refl }

shortest-bytes : {k v : ℕ} {bs : List ℕ} → Shortest k v bs → Bytes bs
shortest-bytes (last {v} h) = bytes_one v (omega arith)
shortest-bytes (one {k} {v} h) = bytes_one v (omega arith)
shortest-bytes (more {k} {v} {bs} h r) = bytes-cons (128 + v % 128) bs (omega arith) (shortest-bytes r)

module _ (v : ℕ) (h : v < 2 ^ 64) where
  pub varint-shortened : Shortest (most_varint - 1) v (varint v)
  unfolding varint
  varint-shortened = within-shortest (most_varint - 1) v h

  pub varint-bytes : Bytes (varint v)
  varint-bytes = shortest-bytes varint-shortened

-- ---- what is read: the value v of the n bytes at the front of bs, where k bytes at the most follow the first

pub data Reads : ℕ → List ℕ → ℕ → ℕ → Type 0 where
  last : {b : ℕ} {bs : List ℕ} → b < 2 → Reads zero (b ∷ bs) b 1
  one : {k b : ℕ} {bs : List ℕ} → b < 128 → Reads (suc k) (b ∷ bs) b 1
  more : {k b v w n : ℕ} {bs : List ℕ} → 128 ≤ b → Reads k bs w n → b % 128 + 128 * w ≡ v → Reads (suc k) (b ∷ bs) v (suc n)

reads-within : {k v n : ℕ} {bs : List ℕ} → Reads k bs v n → read_within k bs ≡ Some (read v n)
reads-within (last {b} {bs} h) = read-last b bs h
reads-within (one {k} {b} {bs} h) = read_one b bs k h
reads-within (more {k} {b} {v} {w} {n} {bs} h r e) = read_more b bs k h ∙ rw (reads-within r, e)

-- reading what was written
shortest-reads : {k v : ℕ} {bs : List ℕ} (rest : List ℕ) → Shortest k v bs → Reads k (bs ++ rest) v (length bs)
shortest-reads rest (last h) = last h
shortest-reads rest (one h) = one h
shortest-reads rest (more {k} {v} h r) = more {b = 128 + v % 128} {v = v} (omega arith) (shortest-reads rest r) (omega arith)

-- whatever follows
pub read-varint : (v : ℕ) (bs : List ℕ) → v < 2 ^ 64 → read_varint (varint v ++ bs) ≡ Some (read v (length (varint v)))
unfolding read_varint
read-varint v bs h = reads-within (shortest-reads bs (varint-shortened v h))

-- and back: what is read is read so
abbrev Unless-bad : ℕ → List ℕ → Option Read → Type 0
Unless-bad k bs (Some it) = Reads k bs it.value it.next
Unless-bad k bs None = Unit {0}

onto-reads : (k b : ℕ) (bs : List ℕ) → 128 ≤ b → (r : Option Read) → Unless-bad k bs r → Unless-bad (suc k) (b ∷ bs) (continued b r)
onto-reads k b bs h (Some it1) r = more h r refl
onto-reads k b bs h None r = tt

within-reads : (k : ℕ) (bs : List ℕ) → Unless-bad k bs (read_within k bs)
unfolding read_within
within-reads zero [] = tt
within-reads (suc k) [] = tt
within-reads zero (b ∷ bs) = elim (dec_lt b 2) [
  | yes h ↦ rw (read-last b bs h) (last h)
  | no h ↦ rw (read-over b bs (omega arith)) tt
]
within-reads (suc k) (b ∷ bs) = elim (dec_lt b 128) [
  | yes h ↦ rw (read_one b bs k h) (one h)
  | no h ↦ let h : 128 ≤ b = omega arith in rw (read_more b bs k h) (onto-reads k b bs h (read_within k bs) (within-reads k bs))
]

reads-small : {k v n : ℕ} {bs : List ℕ} → Reads k bs v n → v < 2 * 128 ^ k
reads-small (last h) = h
reads-small (one {k} h) = omega (arith, pow-suc 128 k, one-le-pow k 128 (omega arith))
reads-small (more {k} h r e) = omega (arith, pow-suc 128 k, reads-small r)

reads-some : {k v n : ℕ} {bs : List ℕ} → Reads k bs v n → 1 ≤ n
reads-some (last h) = omega arith
reads-some (one h) = omega arith
reads-some (more h r e) = omega arith

reads-few : {k v n : ℕ} {bs : List ℕ} → Reads k bs v n → n ≤ suc k
reads-few (last h) = omega arith
reads-few (one h) = omega arith
reads-few (more h r e) = omega (arith, reads-few r)

reads-inside : {k v n : ℕ} {bs : List ℕ} → Reads k bs v n → n ≤ length bs
reads-inside (last h) = omega arith
reads-inside (one h) = omega arith
reads-inside (more h r e) = omega (arith, reads-inside r)

reads-shortest : {k v n : ℕ} {bs : List ℕ} → Reads k bs v n → length (varint_within k v) ≤ n
unfolding varint_within
reads-shortest (last h) = omega arith
reads-shortest (one {k} {b} h) = rw (within-one (suc k) b h) (omega arith)
reads-shortest (more {k} {b} {v} {w} h r e) = elim (dec_lt v 128) [
  | yes g ↦ rw (within-one (suc k) v g) (omega arith)
  | no g ↦ let q : v / 128 ≡ w = omega arith in rw (within_more k v (omega arith), q) (omega (arith, reads-shortest r))
]

module _ (bs : List ℕ) (x : Read) (e : read_varint bs ≡ Some x) where
  varint-reads : Reads (most_varint - 1) bs x.value x.next
  unfolding read_varint
  varint-reads = rw e at (within-reads (most_varint - 1) bs)

  pub read_small : x.value < 2 ^ 64
  read_small = reads-small varint-reads

  pub read_some : 1 ≤ x.next
  read_some = reads-some varint-reads

  pub read-few : x.next ≤ most_varint
  read-few = reads-few varint-reads

  pub read-inside : x.next ≤ length bs
  read-inside = reads-inside varint-reads

  -- the written form is the shortest of all that read as v
  pub varint-shortest : length (varint x.value) ≤ x.next
  unfolding varint
  varint-shortest = reads-shortest varint-reads

-- ---- what `varint_at` gives its callers: the place after a varint, and how large the value is
record Bounds (at end v next : ℕ) : Type 0 where
  pub after : at < next
  pub inside : next ≤ end
  pub small : v < 2 ^ 64

abbrev Bounded : ℕ → ℕ → Option Read → Type 0
Bounded at end (Some it1) = Bounds at end it1.value it1.next
Bounded at end None = Unit {0}

part-length-le : (s : List ℕ) (at end : ℕ) → length (part s at end) ≤ end - at
part-length-le s at end = rw (length-take (end - at) (drop at s)) (min-le_left (end - at) (length (drop at s)))

placed-bounded : (s : List ℕ) (at end : ℕ) (r : Option Read) → read_varint (part s at end) ≡ r → Bounded at end (at_place at r)
placed-bounded s at end (Some it1) e =
    let some = read_some (part s at end) it1 e in
    let few : it1.next ≤ end - at = le_trans (read-inside (part s at end) it1 e) (part-length-le s at end) in
    record { after = omega arith; inside = omega arith; small = read_small (part s at end) it1 e }
placed-bounded s at end None e = tt

module _ (s : List ℕ) (at end : ℕ) (r : Option Read) (p : r ≡ varint_at s at end) (x : Read) (q : r ≡ Some x) where
  bounds : Bounds at end x.value x.next
  unfolding varint_at
  bounds = subst (Bounded at end) (sym p ∙ q) (placed-bounded s at end (read_varint (part s at end)) refl)

  pub varint-after : at < x.next
  varint-after = bounds.after

  pub varint-inside : x.next ≤ end
  varint-inside = bounds.inside

  pub varint-value : x.value < 2 ^ 64
  varint-value = bounds.small

pub ruleset varint_bounds = (varint-after, varint-inside, varint-value)
