-- A message's record that is written from its inside: its inside is moved on behind its head, and the head is put.
-- Assumes nothing.
use Rattle.std.specs.Prelude.{◌≡◌, refl, List, ℕ, ◌+◌, ◌^◌, ◌≤◌, ◌<◌, length}
use Rattle.basis.specs.Kit.{◌∙◌}
use Rattle.basis.proofs.Kit.{arith, add-one}
use lib.ListN.{length-append}
use Rattle.octets.specs.inner.Laid.{Laid}
use Rattle.octets.specs.inner.Moved.{Moved}
use Rattle.octets.proofs.Moving.{headed-laid}
use Rattle.limits.specs.Figures.{most_varint}
use Rattle.types.specs.Types.{LEN}
use Rattle.varint.specs.Varint.{varint}
use Rattle.varint.proofs.VarintLaws.{varint-some}
use Rattle.wire.specs.Tag.{tag_of}
use Rattle.records.specs.Records.{head_of}
use Rattle.records.specs.inner.Enclosed.{shortest, Encloses}

-- ---- the shortest head, and a head
module _ (n t w : ℕ) (size : w ≡ length (varint t)) (tag : t ≡ tag_of n LEN) where
  pub shortest-is : w + 1 ≡ shortest n
  shortest-is = rw (size, tag) (add-one (length (varint (tag_of n LEN))))

  pub head-is : (k v : ℕ) → v ≡ length (varint k) → w + v ≡ length (head_of n k)
  unfolding head_of
  head-is k v q = rw (size, tag, q, length-append) refl

pub shortest-few : (w : ℕ) → w ≤ most_varint → w + 1 ≤ 11
shortest-few w h = omega (arith, h)

pub head_few : (w v : ℕ) → w ≤ most_varint → v ≤ most_varint → w + v ≤ 20
head_few w v a b = omega (arith, a, b)

pub ruleset head_laws = (shortest-is, shortest-few, head-is, head_few)

-- ---- the inside moved on
head-longer : (n k : ℕ) → shortest n ≤ length (head_of n k)
unfolding head_of
head-longer n k = rw length-append (omega (arith, varint-some k))

module _ (at n k f t : ℕ) (short : f ≡ shortest n) (whole : t ≡ length (head_of n k)) where
  pub way-ordered : at + f ≤ at + t
  way-ordered = omega (arith, short, whole, head-longer n k)

  pub way-made : (l m : List ℕ) → Moved l (at + f) (at + t) k m → Moved l (at + shortest n) (at + length (head_of n k)) k m
  way-made l m move = rw (← short, ← whole) move

pub way-far : (at k t : ℕ) → at + k < 2 ^ 62 → t ≤ 20 → at + t + k < 2 ^ 64
way-far at k t h a = omega (arith, h, a)

pub ruleset way_laws = (way-ordered, way-made, way-far)

-- ---- and its head put
pub enclosed : (at n k h : ℕ) (m l' : List ℕ) (q : ℕ) → Laid m at (head_of n k) l' q → (l : List ℕ)
    → Moved l (at + shortest n) (at + length (head_of n k)) k m → h ≡ length (head_of n k) → Encloses l at n k l' (at + h + k)
enclosed at n k h m l' q head l move e = record {
  next = rw e refl;
  left = λ base bs size laid.
      head.left
      ∙ headed-laid base l m (head_of n k) bs at (at + shortest n) (at + length (head_of n k)) refl (omega arith)
      (omega (arith, head-longer n k)) laid (rw size move);
}
