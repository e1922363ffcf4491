-- A record that was read and waits to be printed.
--
--   Waits s bs st e <-> where e is a record, reading goes on after it, with the levels of the stack st open
--        rest_of bs e ==  how many bytes are left after it, and one; 0 where e is no record
--
-- Assumes nothing.
use Rattle.std.specs.Prelude.{◌≡◌, List, ℕ, suc, ◌-◌, length, Option, None, Some}
use Rattle.levels.specs.declared.Event.{Event}
use Rattle.levels.specs.inner.Left.{Open}

pub record Waits (s bs stack : List ℕ) (e : Option Event) : Type 0 where
  pub opens : (x : Event) → e ≡ Some x → Open s bs stack x.rest

abbrev pub rest_of : (bs : List ℕ) → Option Event → ℕ
rest_of bs (Some x) = suc (length bs - x.rest.at)
rest_of bs None = 0
