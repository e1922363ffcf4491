-- Numbers of a fixed width: what was written is read back, and what was read is written again, at every width.
-- Assumes nothing.
use Rattle.std.specs.Prelude.{◌≡◌, refl, List, [], ◌∷◌, ◌++◌, ℕ, zero, suc, ◌+◌, ◌*◌, ◌/◌, ◌%◌, ◌^◌, ◌<◌, length, take}
use Rattle.basis.specs.Kit.{ap, ◌∙◌}
use Rattle.basis.proofs.Kit.{arith}
use native.Mathlib.Nat.{div-lt_iff_lt-mul, pow-suc}
use lib.Seq.{take_at}
use Rattle.wire.specs.Fixed.{little_of, little}
use Rattle.octets.proofs.Bytes.{Bytes, bytes-nil, bytes-cons}

pub little-of-length : (k v : ℕ) → length (little_of k v) ≡ k
unfolding little_of
little-of-length zero v = refl
little-of-length (suc k) v = ap suc (little-of-length k (v / 256))

pub little-of-bytes : (k v : ℕ) → Bytes (little_of k v)
unfolding little_of
little-of-bytes zero v = bytes-nil
little-of-bytes (suc k) v = bytes-cons (v % 256) (little_of k (v / 256)) (omega arith) (little-of-bytes k (v / 256))

-- reading what was written
pub little-little-of : (k v : ℕ) → v < 256 ^ k → little (little_of k v) ≡ v
unfolding little_of little
little-little-of zero v h = omega arith
little-little-of (suc k) v h =
    let less : v / 256 < 256 ^ k = (div-lt_iff_lt-mul {k = 256} (omega arith)).1 (rw (pow-suc 256 k) at h) in
    rw (little-little-of k (v / 256) less) (omega arith)

-- whatever follows
pub little-take : (k v : ℕ) (bs : List ℕ) → v < 256 ^ k → little (take k (little_of k v ++ bs)) ≡ v
little-take k v bs h = ap little (take_at (little_of k v) bs k (little-of-length k v)) ∙ little-little-of k v h

-- writing what was read
pub little-of-little : (bs : List ℕ) → Bytes bs → little_of (length bs) (little bs) ≡ bs
unfolding little_of little
little-of-little [] h = refl
little-of-little (b ∷ bs) h =
    let low : b < 256 = h zero in
    let first : (b + 256 * little bs) % 256 ≡ b = omega arith in
    let rest : (b + 256 * little bs) / 256 ≡ little bs = omega arith in
    rw (first, rest) (ap (λ (t : List ℕ). b ∷ t) (little-of-little bs (λ i. h (suc i))))

pub little-lt : (bs : List ℕ) → Bytes bs → little bs < 256 ^ length bs
unfolding little
little-lt [] h = omega arith
little-lt (b ∷ bs) h = omega (arith, pow-suc 256 (length bs), h zero, little-lt bs (λ i. h (suc i)))
