-- What a writer comes to. Its elements, words or bytes, go over the lent memory from a place on, as far as that reaches.
--
--   Puts o at l l' r <-> the writer of the outcome o, from the place `at` on, answered r, and what was l is l'
--
-- Assumes nothing.
use Rattle.std.specs.Prelude.{List, ℕ, Err, Ok, Result}
use Rattle.octets.specs.inner.Laid.{Laid}
use Rattle.reply.specs.declared.Cause.{Cause}
use Rattle.reply.specs.Outcome.{Outcome, refused, give}

-- elements are laid, and the place after them is the answer; a refusal is passed on as it is, and what was laid before it is not said. No
-- writer has the outcome Absent: a call answers that before it writes
pub data Puts {A : Type 0} : Outcome A → (at : ℕ) (l l' : List A) → Result ℕ Cause → Type 0 where
  wrote : {elements : List A} {at next : ℕ} {l l' : List A} → Laid l at elements l' next → Puts (give elements) at l l' (Ok next)
  refuses : {cause : Cause} {at : ℕ} {l l' : List A} → Puts (refused cause) at l l' (Err cause)
