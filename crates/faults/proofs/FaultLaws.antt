-- The ways through `on_last`.
-- Assumes nothing.
use Rattle.std.specs.Prelude.{◌≡◌, ℕ, Err, Ok, Result}
use Rattle.reply.specs.declared.Refusal.{Refusal}
use Rattle.faults.specs.Faults.{fault_at}
use Rattle.faults.specs.inner.Answering.{stepped_by}

module _ (i : ℕ) (x : Result ℕ Refusal) where
  pub last-next : (n : ℕ) → x ≡ Ok n → Ok n ≡ stepped_by i x
  last-next n g = rw g

  pub last-refused : (w : Refusal) → x ≡ Err w → Err (fault_at i w) ≡ stepped_by i x
  last-refused w g = rw g

pub ruleset on_last_laws = (last-next, last-refused)
