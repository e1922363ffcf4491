-- A part of a part of a list.
-- Assumes nothing.
use Rattle.std.specs.Prelude.{◌≡◌, List, [], ◌∷◌, ℕ, zero, suc, ◌+◌, ◌-◌, ◌≤◌, length, take, drop}
use Rattle.basis.proofs.Kit.{arith}
use lib.Seq.{take-nil, take-take, take-length, drop-drop}
use Rattle.octets.specs.Octets.{part}

drop-take : (n k : ℕ) (xs : List ℕ) → drop n (take k xs) ≡ take (k - n) (drop n xs)
drop-take zero k xs = let z : k - 0 ≡ k = omega arith in rw z
drop-take (suc n) zero xs = let z : 0 - suc n ≡ 0 = omega arith in rw z
drop-take (suc n) (suc k) [] = rw take-nil
drop-take (suc n) (suc k) (x ∷ xs) = let q : suc k - suc n ≡ k - n = omega arith in rw q (drop-take n k xs)

pub part-behind : (s : List ℕ) (at n end : ℕ) → drop n (part s at end) ≡ part s (at + n) end
part-behind s at n end = let q : end - at - n ≡ end - (at + n) = omega arith in rw (drop-take, drop-drop, q)

pub part-inside : (s : List ℕ) (at n size end : ℕ) → at + n + size ≤ end
    → take size (drop n (part s at end)) ≡ part s (at + n) (at + n + size)
part-inside s at n size end h =
    let q : at + n + size - (at + n) ≡ size = omega arith in
    rw (part-behind s at n end, q) (take-take size (end - (at + n)) (drop (at + n) s) (omega arith))

pub part-all : (s : List ℕ) → part s 0 (length s) ≡ s
part-all s = let q : length s - 0 ≡ length s = omega arith in rw q (take-length s)
