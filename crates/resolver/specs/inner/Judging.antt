-- The verdict of what was measured.
--
--   judged_by v == the verdict that the measure v says
--
-- Assumes nothing.
use Rattle.std.specs.Prelude.{Err, None, ℕ, Some, Ok, Option, Result}
use Rattle.options.specs.declared.measure.Measured.{Measured}
use Rattle.reply.specs.declared.Cause.{Cause}

abbrev pub judged_by : Result (Option Measured) Cause → Result (Option ℕ) Cause
judged_by (Ok (Some m)) = Ok (Some m.length)
judged_by (Ok None) = Ok None
judged_by (Err e) = Err e
