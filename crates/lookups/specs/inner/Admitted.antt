-- A message that is looked up where the inputs are fine.
--
--   unless_faulty v u == the message that a look-up u comes to, of inputs that are judged v; or the first fault
--
-- Assumes nothing.
use Rattle.std.specs.Prelude.{Err, Ok, Result}
use Rattle.reply.specs.Verdicts.{Verdict}
use Rattle.reply.specs.declared.Refusal.{Refusal}
use Rattle.scope.specs.declared.lookup.LookupScope.{LookupScope}

abbrev pub unless_faulty : Verdict → Result LookupScope Refusal → Result LookupScope Refusal
unless_faulty (Ok _) u = u
unless_faulty (Err w) u = Err w
