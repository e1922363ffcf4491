-- Records one after the other, and how many bytes they have.
-- Assumes nothing.
use Rattle.std.specs.Prelude.{◌≡◌, refl, List, ◌++◌, ℕ, ◌+◌, ◌≤◌, length}
use Rattle.basis.specs.Kit.{ap}
use Rattle.basis.proofs.Kit.{arith}
use mathlib.Core.List.{append-nil, append_assoc}
use lib.ListN.{length-append}
use Rattle.limits.specs.Figures.{most_varint}
use Rattle.types.specs.Types.{wire_of, LEN}
use Rattle.varint.proofs.VarintLaws.{varint-few}
use Rattle.wire.specs.Tag.{tag_of}
use Rattle.records.specs.Records.{Recs, nil, number, bytes, message, append, head_of, encode}
use Rattle.records.proofs.PayloadLaws.{payload-few}

pub append-nil-right : (a : Recs) → append a nil ≡ a
append-nil-right nil = refl
append-nil-right (number n t v r) = ap (number n t v) (append-nil-right r)
append-nil-right (bytes n t x r) = ap (bytes n t x) (append-nil-right r)
append-nil-right (message n i r) = ap (message n i) (append-nil-right r)

pub append-append : (a b c : Recs) → append (append a b) c ≡ append a (append b c)
append-append nil b c = refl
append-append (number n t v r) b c = ap (number n t v) (append-append r b c)
append-append (bytes n t x r) b c = ap (bytes n t x) (append-append r b c)
append-append (message n i r) b c = ap (message n i) (append-append r b c)

pub encode-append : (a b : Recs) → encode (append a b) ≡ encode a ++ encode b
unfolding encode
encode-append nil b = refl
encode-append (number n t v r) b = simp (encode-append r b, append_assoc)
encode-append (bytes n t x r) b = simp (encode-append r b, append_assoc)
encode-append (message n i r) b = simp (encode-append r b, append_assoc)

-- ---- sizes
pub head_few : (n k : ℕ) → length (head_of n k) ≤ 20
unfolding head_of
head_few n k = rw length-append (omega (arith, varint-few (tag_of n LEN), varint-few k))

-- a record by itself
module _ (n : ℕ) where
  pub number-few : (t v : ℕ) → length (encode (number n t v nil)) ≤ most_varint + most_varint
  unfolding encode
  number-few t v = rw (append-nil, length-append) (omega (arith, payload-few t v, varint-few (tag_of n (wire_of t))))

  pub bytes-few : (t : ℕ) (bs : List ℕ) → length (encode (bytes n t bs nil)) ≤ most_varint + most_varint + length bs
  unfolding encode
  bytes-few t bs = rw (append-nil, length-append) (omega (arith, head_few n (length bs)))

  pub message-few : (i : Recs) → length (encode (message n i nil)) ≤ most_varint + most_varint + length (encode i)
  unfolding encode
  message-few i = rw (append-nil, length-append) (omega (arith, head_few n (length (encode i))))
