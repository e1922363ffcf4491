-- Where the last component of a text starts, and where its parent's components are.
--
--   LastStarts t r <-> the last component of t starts at r, and the components before it are those of the text up to the dot before r
--
-- Assumes nothing.
use Rattle.std.specs.Prelude.{◌≡◌, List, ℕ, ◌-◌, ◌≤◌, length, take, drop}
use Rattle.path.specs.Path.{components, parent, last}
use Rattle.path.specs.inner.Places.{names_from}

-- where r is 0 there is no dot before it, and `1 - r` is past the end of the empty text
pub record LastStarts (t : List ℕ) (r : ℕ) : Type 0 where
  pub within : r ≤ length t
  pub name : drop r t ≡ last (components t)
  pub before : names_from (take (r - 1) t) (1 - r) ≡ parent (components t)
