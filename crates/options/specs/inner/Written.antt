-- What the steps over the parts of a name write, as functions of places of the request.
--
--              stepped_of at m ==  what the steps answer: the place after the records, or the fault
--           constant_at r at e ==  the constant of an option whose parts end at a place
--         constant_made h at e ==  that constant on a field of the shape h
--          option_made i m a e ==  the parts from a place on, the i-th first, and the constant behind them, in the message m
--   Steppable s r scope p a e i <-> the steps can go over the parts from a place on, the i-th first: they are those of a fine option, the scope
--                                   is a path or empty, and the place p of the message reached lies in the sheet s
--
-- Assumes nothing.
use Rattle.std.specs.Prelude.{◌≡◌, true, List, ℕ, ◌+◌, ◌-◌, ◌^◌, ◌≤◌, ◌<◌, length, Err, Ok, Result}
use Rattle.reply.specs.declared.Refusal.{Refusal}
use Rattle.path.specs.Path.{is_rel_or_empty}
use Rattle.field.specs.Field.{field_at}
use Rattle.field.specs.Walk.{walk}
use Rattle.sheet.specs.declared.declaration.Shape.{Shape}
use Rattle.scope.specs.declared.lookup.LookupScope.{LookupScope}
use Rattle.scope.specs.inner.Answers.{InSheet}
use Rattle.request.specs.Tree.{Constants}
use Rattle.request.specs.Name.{parts_in, after_parts}
use Rattle.request.specs.Request.{constant_of_field}
use Rattle.optionform.specs.inner.Parts.{OptionParts}
use Rattle.records.specs.Records.{encode}
use Rattle.records.specs.Made.{Made, made, wrong}
use Rattle.lookups.specs.Lookups.{Lookups, Message}
use Rattle.values.specs.Values.{on, records}
use Rattle.faults.specs.declared.Fault.{Fault}
use Rattle.options.specs.Named.{option_from}

unfoldable pub stepped_of : (at : ℕ) → Made Fault → Result ℕ Fault
stepped_of at (made x) = Ok (at + length (encode x))
stepped_of at (wrong f) = Err f

abbrev pub constant_at : (r : List ℕ) (at end : ℕ) → Constants
constant_at r at end = constant_of_field r (field_at r at end)

module _ (L : Lookups) (s r : List ℕ) where
  unfoldable pub constant_made : Shape → (at end : ℕ) → Made Refusal
  constant_made h at end = records L s r (on h) (constant_at r at end)

module _ (L : Lookups) (s r scope : List ℕ) where
  unfoldable pub option_made : (part : ℕ) → Message → (from to : ℕ) → Made Fault
  option_made i m from to =
      option_from L s r scope i m (parts_in (walk r from to)) (constant_at r (after_parts from (walk r from to)) to)

pub record Steppable (s r scope : List ℕ) (p : LookupScope) (from to part : ℕ) : Type 0 where
  pub ordered : from ≤ to
  pub within : to ≤ length r
  pub parts : OptionParts r from to
  pub path : is_rel_or_empty scope ≡ true
  pub place : InSheet s p
  pub few : part + (to - from) < 2 ^ 31
