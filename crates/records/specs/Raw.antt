-- Raw records: what bytes are by Encoding alone, and what typed records are so.
--
--                Raw ==  a record: its number, its wire type, and the bytes of its payload, a length-delimited one's without its length
--              Front ==  a record, and how many bytes follow its first
--   front_on bs t n p ==  the record of the tag t, which has n bytes, with the payload p of bs, the bytes behind the tag
--   behind_tag bs t n ==  the record of the tag t, which has n bytes, with the payload at the front of bs
--         front_of bs ==  the record at the front of bs
--       raw_from k bs ==  the records that the bytes behind the first k of bs are
--           raw_of bs ==  the records that bs is, in order; none where anything else is among them
--          raws_of rs ==  the raw records of typed ones: a message's payload is the bytes of what it holds
--          Proper rs <-> each record has a field number and a type: of a number one that is written as a number, of bytes one that is
--                        length-delimited, and no group
--
-- Assumes nothing.
use Rattle.std.specs.Prelude.{◌≡◌, true, false, List, [], ◌∷◌, ℕ, zero, suc, ◌+◌, ◌-◌, ◌^◌, ◌≤◌, ◌<◌, take, drop, Option, None, Some}
use Rattle.basis.specs.First.{given}
use Rattle.limits.specs.Figures.{most_number}
use Rattle.types.specs.Types.{is_any, wire_of, VARINT, I64, I32, LEN, TYPE_MESSAGE}
use Rattle.varint.specs.Varint.{read_varint}
use Rattle.wire.specs.Tag.{number_of, wire_type_of, tag_good}
use Rattle.payloads.specs.Extent.{Extent, on_read, payload_at}
use Rattle.records.specs.Records.{Recs, nil, number, bytes, message, payload, encode}

pub record Raw : Type 0 where
  pub number : ℕ
  pub wire : ℕ
  pub payload : List ℕ

pub record Front : Type 0 where
  pub first : Raw
  pub more : ℕ

abbrev pub front_on : (bs : List ℕ) (tag size : ℕ) → Extent → Front
front_on bs t n p = record {
  first = record { number = number_of t; wire = wire_type_of t; payload = take p.size (drop p.before bs) };
  more = n + p.before + p.size - 1;
}

abbrev pub behind_tag : (bs : List ℕ) (tag size : ℕ) → Option Front
behind_tag bs t n = elim (tag_good t) [ true ↦ given (payload_at (wire_type_of t) bs) (λ p. Some (front_on bs t n p)) | false ↦ None ]

-- Encoding, "Message Structure": a tag, then a payload by its wire type; a tag of another number or wire type is none
unfoldable pub front_of : List ℕ → Option Front
front_of bs = on_read (read_varint bs) λ t n. behind_tag (drop n bs) t n

unfoldable pub raw_from : (skip : ℕ) → List ℕ → Option (List Raw)
raw_from k [] = Some []
raw_from (suc k) (b ∷ bs) = raw_from k bs
raw_from zero (b ∷ bs) = given (front_of (b ∷ bs)) λ f. given (raw_from f.more bs) λ rs. Some (f.first ∷ rs)

abbrev pub raw_of : List ℕ → Option (List Raw)
raw_of bs = raw_from 0 bs

-- ---- of typed records
abbrev pub raws_of : Recs → List Raw
raws_of nil = []
raws_of (number n t v r) = record { number = n; wire = wire_of t; payload = payload t v } ∷ raws_of r
raws_of (bytes n t bs r) = record { number = n; wire = wire_of t; payload = bs } ∷ raws_of r
raws_of (message n i r) = record { number = n; wire = wire_of TYPE_MESSAGE; payload = encode i } ∷ raws_of r

pub data Proper : Recs → Type 0 where
  proper-nil : Proper nil
  proper-number : {n t v : ℕ} {r : Recs} → (1 ≤ n) × (n ≤ most_number) → is_any (wire_of t) (VARINT ∷ I64 ∷ I32 ∷ []) ≡ true → v < 2 ^ 64
      → Proper r → Proper (number n t v r)
  proper-bytes : {n t : ℕ} {bs : List ℕ} {r : Recs} → (1 ≤ n) × (n ≤ most_number) → wire_of t ≡ LEN → Proper r → Proper (bytes n t bs r)
  proper-message : {n : ℕ} {i r : Recs} → (1 ≤ n) × (n ≤ most_number) → Proper i → Proper r → Proper (message n i r)
