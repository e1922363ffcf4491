-- A message's record that is written from its inside: what it holds first, behind the shortest head that there is, and then its head.
--
--               shortest n ==  how many bytes the head of a message of the number n has where its length takes one
--   Encloses l at n k l' r <-> where l is some memory with k bytes laid behind the shortest head at the place `at`, l' is that memory with
--                              the record of these bytes laid there, and r is the place after it
--
-- Assumes nothing.
use Rattle.std.specs.Prelude.{◌≡◌, List, ◌++◌, ℕ, suc, ◌+◌, length}
use Rattle.basis.specs.Kit.{sets}
use Rattle.types.specs.Types.{LEN}
use Rattle.varint.specs.Varint.{varint}
use Rattle.wire.specs.Tag.{tag_of}
use Rattle.records.specs.Records.{head_of}

abbrev pub shortest : (field : ℕ) → ℕ
shortest n = suc (length (varint (tag_of n LEN)))

pub record Encloses (l : List ℕ) (at n k : ℕ) (l' : List ℕ) (r : ℕ) : Type 0 where
  pub next : r ≡ at + length (head_of n k) + k
  pub left : (base bs : List ℕ) → length bs ≡ k → l ≡ sets base (at + shortest n) bs → l' ≡ sets base at (head_of n k ++ bs)
