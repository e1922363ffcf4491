-- Inputs that are let through, and words that are counted.
--
--              counted o == what a writer of o answers from the front on: how many elements it has, or its refusal
--   admitted v s type bs == the message that the options type is, or the first fault of the inputs, of which the sheet is judged v
--
-- Assumes nothing.
use Rattle.std.specs.Prelude.{List, ℕ, length, Err, Ok, Result}
use Rattle.reply.specs.Outcome.{Outcome, refused, nothing, give}
use Rattle.lookups.specs.Lookups.{walking}
use Rattle.lookups.specs.inner.Admitted.{unless_faulty}
use Rattle.listing.specs.Listing.{judge_inputs}
use Rattle.reply.specs.Verdicts.{Verdict}
use Rattle.reply.specs.declared.Cause.{Cause}
use Rattle.reply.specs.declared.Refusal.{Refusal}
use Rattle.scope.specs.declared.lookup.LookupScope.{LookupScope}

-- no writer has the outcome Absent
abbrev pub counted : {A : Type 0} → Outcome A → Result ℕ Cause
counted (give es) = Ok (length es)
counted nothing = Ok 0
counted (refused c) = Err c

unfoldable pub admitted : Verdict → (s type bs : List ℕ) → Result LookupScope Refusal
admitted v s type bs = unless_faulty (judge_inputs v type bs) ((walking s).message type)
