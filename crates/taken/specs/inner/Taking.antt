-- What is taken of a record behind its tag, as the code answers it.
--
--     taken at n v e ==  a payload of n bytes at a place, with the value v, after which the next record begins at e
--      PayloadIn n p <-> a payload lies before the place n
--     unknown_taken p ==  of a number that nothing declares, of the payload p
--     plain_taken t p ==  of a number that is declared by the type t, on the wire type of t
--   known_taken t w p ==  of a number that is declared by the type t, on the wire type w
--
-- Assumes nothing.
use Rattle.std.specs.Prelude.{true, false, ℕ, ◌+◌, ◌≤◌, eqb, None, Some, Option, Err, Ok, Result}
use Rattle.reply.specs.declared.Refusal.{Refusal}
use Rattle.reply.specs.declared.Refusal.TheVariants.{BadBytes, WireMismatch}
use Rattle.types.specs.Types.{wire_of}
use Rattle.payloads.specs.Value.{value_of}
use Rattle.taken.specs.declared.Taken.{Taken}
use Rattle.payloads.specs.declared.Payload.{Payload}

abbrev pub taken : (place size value next : ℕ) → Taken
taken at n v e = record { place = at; size = n; value = v; next = e }

unfoldable pub PayloadIn : (most : ℕ) → Option Payload → Type 0
PayloadIn most None = Unit {0}
PayloadIn most (Some x) = x.at + x.size ≤ most

unfoldable pub unknown_taken : Option Payload → Result Taken Refusal
unknown_taken None = Err BadBytes
unknown_taken (Some it) = Ok (taken it.at it.size 0 (it.at + it.size))

abbrev pub plain_taken : (typ : ℕ) → Option Payload → Result Taken Refusal
plain_taken t None = Err BadBytes
plain_taken t (Some it) = Ok (taken it.at it.size (value_of t it.number) (it.at + it.size))

unfoldable pub known_taken : (typ wire : ℕ) → Option Payload → Result Taken Refusal
known_taken t w p = elim (eqb (wire_of t) w) [ true ↦ plain_taken t p | false ↦ Err WireMismatch ]
