-- A payload at a place of the option bytes, as the code answers it.
--
--         placed w bs at x == the payload x of the bytes bs, which stand at the place `at`, with the number that it says
--   payload_in w s at end == the payload of the wire type w between two places of s
--
-- Assumes nothing.
use Rattle.std.specs.Prelude.{List, ℕ, ◌+◌, take, drop, Option, None, Some}
use Rattle.octets.specs.Octets.{part}
use Rattle.payloads.specs.Extent.{Extent, payload_at}
use Rattle.payloads.specs.Value.{said}
use Rattle.payloads.specs.declared.Payload.{Payload}

abbrev pub held : (at size number : ℕ) → Payload
held at n v = record { at = at; size = n; number = v }

abbrev pub placed : (wire : ℕ) (bs : List ℕ) (at : ℕ) → Option Extent → Option Payload
placed w bs at None = None
placed w bs at (Some x) = Some (held (at + x.before) x.size (said w (take x.size (drop x.before bs))))

unfoldable pub payload_in : (wire : ℕ) (s : List ℕ) (at end : ℕ) → Option Payload
payload_in w s at end = placed w (part s at end) at (payload_at w (part s at end))
