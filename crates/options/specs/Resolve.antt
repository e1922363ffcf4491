-- The calls `resolve` and `verdict`, from 01's "Replies". What a request comes to is said in Steps.antt, and passed on from here as it is.
--
--           outcome_of o == what it gives to the lent memory
--            judged_of o == the verdict on it, without room
--      resolve_bytes s r == what `resolve` comes to
--     resolve_tested s r == what `resolve_tested` comes to
--
-- Assumes nothing.
use Rattle.std.specs.Prelude.{List, ℕ, length, Err, None, Some, Ok, Option, Result}
use Rattle.reply.specs.Outcome.{Outcome, nothing, give}
use Rattle.reply.specs.Outcome as outcome
use Rattle.records.specs.Records.{encode}
use Rattle.reply.specs.declared.Cause.{Cause}
pub use Rattle.options.specs.Steps.{Steps, records, absent, refused, steps_in, on_type, some_options, unless, resolving, resolving_tested}
unfoldable pub use Rattle.options.specs.Steps.{steps_of, resolving_by}

-- "0 done: bytes and length, or Absent" [RESOLVE-2]
abbrev pub outcome_of : Steps → Outcome ℕ
outcome_of (records x) = give (encode x)
outcome_of absent = nothing
outcome_of (refused e) = outcome.refused e

abbrev pub judged_of : Steps → Result (Option ℕ) Cause
judged_of (records x) = Ok (Some (length (encode x)))
judged_of absent = Ok None
judged_of (refused e) = Err e

unfoldable pub resolve_bytes : (s r : List ℕ) → Outcome ℕ
resolve_bytes s r = outcome_of (resolving s r)

unfoldable pub resolve_tested : (s r : List ℕ) → Outcome ℕ
resolve_tested s r = outcome_of (resolving_tested s r)
