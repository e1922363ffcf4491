-- Records of at most some levels and at most some bytes: the laws of records in a row, of a message's record, and of builtins that are set.
--
--        Small k n x <-> the records x have at most k levels and at most n bytes
--    SmallMade k n m <-> so it is of the records that m is, where it is records
--
-- Assumes nothing.
use Rattle.std.specs.Prelude.{◌≡◌, Bool, true, false, List, [], ◌∷◌, ℕ, suc, ◌+◌, ◌≤◌, eqb, ltb, length}
use Rattle.basis.specs.Kit.{ap, ◌∙◌}
use Rattle.basis.proofs.Kit.{arith}
use Prim.Native.Nat.{max}
use lib.ListN.{length-append}
use Rattle.records.specs.Records.{Recs, nil, number, bytes, message, append, encode}
use Rattle.records.specs.Made.{Made, made, wrong, both, holding}
use Rattle.records.proofs.RecsLaws.{encode-append, message-few}
use Rattle.known.specs.Known.{Known, set_known, known_recs}
use Rattle.promises.specs.Levels.{deepest}

pub deepest-append : (a b : Recs) → deepest (append a b) ≡ max (deepest a) (deepest b)
deepest-append nil b = omega arith
deepest-append (number n t v r) b = omega (arith, deepest-append r b)
deepest-append (bytes n t x r) b = omega (arith, deepest-append r b)
deepest-append (message n i r) b = omega (arith, deepest-append r b)

pub length-encode-append : (a b : Recs) → length (encode (append a b)) ≡ length (encode a) + length (encode b)
length-encode-append a b = ap length (encode-append a b) ∙ length-append (encode a) (encode b)

pub record Small (k n : ℕ) (x : Recs) : Type 0 where
  pub levels : deepest x ≤ k
  pub few : length (encode x) ≤ n

module _ {k : ℕ} where
  pub small-nil : {n : ℕ} → Small k n nil
  unfolding encode
  small-nil = record { levels = omega arith; few = omega arith }

  pub small-self : (x : Recs) → deepest x ≤ k → Small k (length (encode x)) x
  small-self x l = record { levels = l; few = omega arith }

  pub small-append : {m n : ℕ} {a b : Recs} → Small k m a → Small k n b → Small k (m + n) (append a b)
  small-append {a} {b} u v = record {
    levels = omega (arith, deepest-append a b);
    few = omega (arith, length-encode-append a b);
  }

  pub small-message : {n : ℕ} {i : Recs} (f : ℕ) → Small k n i → Small (suc k) (20 + n) (message f i nil)
  small-message {i} f u = record { levels = omega arith; few = omega (arith, message-few f i) }

pub small-more : {j m k n : ℕ} {x : Recs} → j ≤ k → m ≤ n → Small j m x → Small k n x
small-more g h u = record { levels = omega arith; few = omega arith }

-- ---- what is made
pub data SmallMade {W : Type 0} (k n : ℕ) : Made W → Type 0 where
  small : {x : Recs} → Small k n x → SmallMade k n (made x)
  refused : {w : W} → SmallMade k n (wrong w)

module _ {W : Type 0} where
  pub made_more : {j m k n : ℕ} {x : Made W} → j ≤ k → m ≤ n → SmallMade j m x → SmallMade k n x
  made_more g h (small u) = small (small-more g h u)
  made_more g h refused = refused

  pub both_small : {k m n : ℕ} {a b : Made W} → SmallMade k m a → SmallMade k n b → SmallMade k (m + n) (both a b)
  both_small (small u) (small v) = small (small-append u v)
  both_small (small u) refused = refused
  both_small refused v = refused

  pub holding-small : {k n : ℕ} {m : Made W} (f : ℕ) → SmallMade k n m → SmallMade (suc k) (20 + n) (holding f m)
  holding-small f (small u) = small (small-message f u)
  holding-small f refused = refused

-- ---- builtins that are set: one more adds its own record at the most
module _ {j m : ℕ} (k : Known) (u : Small j m k.made) where
  pub set-small : (ks : List Known) → deepest (known_recs ks) ≤ j
      → Small j (m + length (encode (known_recs ks))) (known_recs (set_known k ks))
  set-small [] l = small-append u small-nil
  set-small (x ∷ xs) l = go (ltb k.field x.field) (eqb k.field x.field) (set-small xs rest)
    where
      size : length (encode (append x.made (known_recs xs))) ≡ length (encode x.made) + length (encode (known_recs xs))
      size = length-encode-append x.made (known_recs xs)

      rest : deepest (known_recs xs) ≤ j
      rest = omega (arith, deepest-append x.made (known_recs xs))

      first : deepest x.made ≤ j
      first = omega (arith, deepest-append x.made (known_recs xs))

      go : (a b : Bool) → Small j (m + length (encode (known_recs xs))) (known_recs (set_known k xs))
          → Small j (m + length (encode (append x.made (known_recs xs))))
          (known_recs (elim a [ true ↦ k ∷ x ∷ xs | false ↦ elim b [ true ↦ k ∷ xs | false ↦ x ∷ set_known k xs ] ]))
      go true b v = small-append u (small-self (append x.made (known_recs xs)) l)
      go false true v = small-more (omega arith) (omega (arith, size)) (small-append u (small-self (known_recs xs) rest))
      go false false v = small-more (omega arith) (omega (arith, size)) (small-append (small-self x.made first) v)
