-- What the step on the last part of a name answers. It has the shape of its code; that a constant's refusal is one of the last part is said by
-- the definition of the steps (`at`, options/specs/Named.antt), which `put_constant` is proved to meet by it.
--
--   stepped_by i x == what the writer of a constant answers, x, as what the step on the i-th part answers
--
-- Assumes nothing.
use Rattle.std.specs.Prelude.{ℕ, Err, Ok, Result}
use Rattle.faults.specs.Faults.{fault_at}
use Rattle.faults.specs.declared.Fault.{Fault}
use Rattle.reply.specs.declared.Refusal.{Refusal}

abbrev pub stepped_by : (part : ℕ) → Result ℕ Refusal → Result ℕ Fault
stepped_by i (Ok n) = Ok n
stepped_by i (Err w) = Err (fault_at i w)
