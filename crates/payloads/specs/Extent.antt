-- The payload of a record, from Encoding, "Message Structure": VARINT is one varint, I64 eight bytes, I32 four, LEN a length and as many
-- bytes.
--
--           Extent == a payload: how many bytes of a length stand before it, and how many it has
--    within bs k n == n bytes of payload behind k bytes of length, where bs has as many
--       on_read r f == f of the value that was read and of how many bytes it has, none where nothing was read
--   payload_at w bs == the payload of the wire type w at the front of bs
--
-- Assumes nothing.
use Rattle.std.specs.Prelude.{true, false, List, ℕ, ◌+◌, eqb, leb, length, Option, None, Some}
use Rattle.types.specs.Types.{VARINT, I64, I32}
use Rattle.varint.specs.Varint.{read_varint}
use Rattle.varint.specs.declared.Read.{Read}

pub record Extent : Type 0 where
  pub before : ℕ
  pub size : ℕ

abbrev pub within : (bs : List ℕ) (before size : ℕ) → Option Extent
within bs k n = elim (leb (k + n) (length bs)) [ true ↦ Some (record { before = k; size = n }) | false ↦ None ]

abbrev pub on_read : {A : Type 0} → Option Read → ((value size : ℕ) → Option A) → Option A
on_read (Some r) f = f r.value r.next
on_read None f = None

unfoldable pub payload_at : (wire : ℕ) (bs : List ℕ) → Option Extent
payload_at w bs = elim (eqb w VARINT) [
  | true ↦ on_read (read_varint bs) (λ v n. within bs 0 n)
  | false ↦ elim (eqb w I64) [
    | true ↦ within bs 0 8
    | false ↦ elim (eqb w I32) [ true ↦ within bs 0 4 | false ↦ on_read (read_varint bs) (λ k n. within bs n k) ]
  ]
]
