-- A buffer whose front is filled by a rule.
--
--   Filled f d out n <-> the element of out at each j below n is f j; d stands for what lies past the end
--
-- Assumes nothing.
use Rattle.std.specs.Prelude.{◌≡◌, List, ℕ, ◌<◌, get_or}

pub record Filled {A : Type 0} (f : ℕ → A) (d : A) (out : List A) (n : ℕ) : Type 0 where
  pub each : (j : ℕ) → j < n → get_or out j d ≡ f j
