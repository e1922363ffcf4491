-- A varint is read from its own bytes: whatever follows them, it is read the same.
-- Assumes nothing.
use Rattle.std.specs.Prelude.{◌≡◌, List, [], ◌∷◌, ◌++◌, ℕ, zero, suc, ◌≤◌, take, drop, None, Some, Option}
use Rattle.basis.specs.Kit.{◌∙◌}
use Rattle.basis.proofs.Kit.{arith}
use mathlib.Core.List.{append-nil}
use native.Mathlib.Nat.{le_trans, min-le_left}
use native.Mathlib.Decide.{dec_lt}
use lib.ListN.{length-take, take-append-drop}
use lib.Seq.{take-take}
use Rattle.varint.specs.Varint.{continued, read_within, read_varint}
use Rattle.varint.proofs.VarintLaws.{read-last, read-over, read_one, read_more, read-inside}
use Rattle.varint.specs.declared.Read.{Read}

-- what is read of bs is read of its own bytes, with any others behind them
abbrev Own : ℕ → List ℕ → Option Read → Type 0
Own k bs (Some x) = (rest : List ℕ) → read_within k (take x.next bs ++ rest) ≡ Some x
Own k bs None = Unit {0}

own-more : (k b : ℕ) (bs : List ℕ) → 128 ≤ b → (r : Option Read) → Own k bs r → Own (suc k) (b ∷ bs) (continued b r)
own-more k b bs h (Some it) own = λ rest. read_more b (take it.next bs ++ rest) k h ∙ rw (own rest)
own-more k b bs h None own = tt

within-own : (k : ℕ) (bs : List ℕ) → Own k bs (read_within k bs)
unfolding read_within
within-own zero [] = tt
within-own (suc k) [] = tt
within-own zero (b ∷ bs) = elim (dec_lt b 2) [
  | yes h ↦ rw (read-last b bs h) (λ rest. read-last b rest h)
  | no h ↦ rw (read-over b bs (omega arith)) tt
]
within-own (suc k) (b ∷ bs) = elim (dec_lt b 128) [
  | yes h ↦ rw (read_one b bs k h) (λ rest. read_one b rest k h)
  | no h ↦ let h : 128 ≤ b = omega arith in rw (read_more b bs k h) (own-more k b bs h (read_within k bs) (within-own k bs))
]

before : (k : ℕ) (bs : List ℕ) (x : Read) → read_within k bs ≡ Some x → (rest : List ℕ) → read_within k (take x.next bs ++ rest) ≡ Some x
before k bs x e = rw e at (within-own k bs)

module _ (bs : List ℕ) (x : Read) (e : read_varint bs ≡ Some x) where
  pub varint-before : (rest : List ℕ) → read_varint (take x.next bs ++ rest) ≡ Some x
  unfolding read_varint
  varint-before = before _ bs x e

  pub varint-own : read_varint (take x.next bs) ≡ Some x
  varint-own = rw append-nil at (varint-before [])

-- what is read of the first k bytes is read of all
pub varint-more : (k : ℕ) (bs : List ℕ) (x : Read) → read_varint (take k bs) ≡ Some x → read_varint bs ≡ Some x
varint-more k bs x e =
    let few : x.next ≤ k = le_trans (rw length-take at (read-inside (take k bs) x e)) (min-le_left k _) in
    rw (take-take x.next k bs few, take-append-drop x.next bs) at (varint-before (take k bs) x e (drop x.next bs))
