-- What the functions of one option answer and leave.
--
--               message_of r h ==  the options message by which the options were started
--       settled_at L s r h a e ==  what the option whose payload is from a to e comes to
--                    parted o ==  the code's answer of a part, or of none
--                  others_of v ==  what an option writes among the other records: a builtin nothing
--                    note_in v ==  the note of the builtin that it sets, its number and 1; 0 where it sets none
--                   set_recs v ==  the record of the builtin that it sets
--                 settling n p ==  the answer of the note n and the place p
--         settling_of i n at m ==  what is answered of the i-th option: its note n and the place after its records, or its fault
--               Started s r h <-> what the options were started by lies in the sheet s and the request r, the scope is a path or empty, and
--                                 the request is no longer than 01 allows
--   Settleable s r h i a e at <-> the i-th option, whose payload is from a to e, can be settled, and its records written from `at` on
--
-- Assumes nothing.
use Rattle.std.specs.Prelude.{◌≡◌, true, List, ℕ, ◌+◌, ◌-◌, ◌≤◌, length, Option, Some, None, Ok, Err, Result}
use Rattle.basis.specs.First.{told}
use Rattle.limits.specs.Figures.{most_options, most_request}
use Rattle.path.specs.Path.{is_rel_or_empty}
use Rattle.field.specs.Leaf.{text, Lies}
use Rattle.scope.specs.inner.Answers.{InSheet}
use Rattle.request.specs.declared.name.Part.{Part}
use Rattle.request.specs.Request.{option_of}
use Rattle.optionform.specs.inner.Parts.{OptionParts}
use Rattle.records.specs.Records.{Recs, nil, encode}
use Rattle.records.specs.Made.{Made, made, wrong}
use Rattle.records.specs.inner.Emits.{Roomy}
use Rattle.lookups.specs.Lookups.{Lookups, Message}
use Rattle.known.specs.inner.Notes.{note_of}
use Rattle.faults.specs.declared.Fault.{Fault}
use Rattle.options.specs.declared.settle.Start.{Start}
use Rattle.options.specs.declared.settle.Settling.{Settling}
use Rattle.reply.specs.declared.Cause.{Cause}
use Rattle.options.specs.Settle.{Settled, known, others, fails, settle}
use Rattle.faults.specs.Faults.{cause_at}

abbrev pub message_of : (request : List ℕ) → Start → Message
message_of r h = record { name = text r h.options_type; place = h.place }

unfoldable pub settled_at : (L : Lookups) (s r : List ℕ) → Start → (from to : ℕ) → Settled
settled_at L s r h a e = settle L s r (text r h.scope) (message_of r h) (option_of r a e)

abbrev pub parted : Option Part → Option Part
parted = told None Some

abbrev pub others_of : Settled → Made Fault
others_of (known k) = made nil
others_of (others x) = made x
others_of (fails f) = wrong f

abbrev pub note_in : Settled → ℕ
note_in (known k) = note_of k
note_in (others x) = 0
note_in (fails f) = 0

abbrev pub set_recs : Settled → Recs
set_recs (known k) = k.made
set_recs (others x) = nil
set_recs (fails f) = nil

abbrev pub settling : (note next : ℕ) → Settling
settling n p = record { note = n; next = p }

unfoldable pub settling_of : (option note at : ℕ) → Made Fault → Result Settling Cause
settling_of i n at (made x) = Ok (settling n (at + length (encode x)))
settling_of i n at (wrong f) = Err (cause_at i f)

pub record Started (s r : List ℕ) (h : Start) : Type 0 where
  pub place : InSheet s h.place
  pub scope : Lies h.scope r
  pub type : Lies h.options_type r
  pub path : is_rel_or_empty (text r h.scope) ≡ true
  pub short : length r ≤ most_request

pub record Settleable (s r : List ℕ) (h : Start) (option from to at : ℕ) : Type 0 where
  pub started : Started s r h
  pub count : option ≤ most_options
  pub ordered : from ≤ to
  pub within : to ≤ length r
  pub parts : OptionParts r from to
  pub room : Roomy at (to - from) r
