-- The fault of an option, and the place that it gives a refusal, from 02's request [9].
--
--   fault_at i w == the refusal w, as one of the i-th part
--   cause_at i f == the fault f of the i-th option, as the cause of a refusal
--
-- Assumes nothing.
use Rattle.std.specs.Prelude.{ℕ}
use Rattle.reply.specs.declared.Refusal.{Refusal}
use Rattle.reply.specs.declared.Where.TheVariants.{Option}
use Rattle.reply.specs.declared.Cause.{Cause}
use Rattle.faults.specs.declared.Fault.{Fault}

abbrev pub fault_at : (part : ℕ) → Refusal → Fault
fault_at i w = record { part = i; why = w }

-- "the option's position and the part's position, both from 0" [WHERE-1, WHERE-3]
abbrev pub cause_at : (option : ℕ) → Fault → Cause
cause_at i f = record { why = f.why; place = Option i f.part }
