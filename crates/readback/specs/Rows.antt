-- How the rows of a listing stand to each other, from 01's "Listing and lowering".
--
--         end_of x ==  where the payload of the row x ends
--      First P rs <-> P holds of the first of the rows rs, where there is one
--      Within x y <-> the row y is deeper than x, and its payload lies in that of x
--   Encloses x rs <-> of the rows rs behind x the first are those inside it, which begin one level deeper, and none where x is no message;
--                     the others lie behind its end, and begin no deeper than x
--        Stand rs <-> so it is of every row, with those behind it
--
-- Assumes nothing.
use Rattle.std.specs.Prelude.{◌≡◌, List, [], ◌∷◌, ◌++◌, ℕ, suc, ◌+◌, ◌≤◌, ◌<◌}
use Rattle.basis.specs.Among.{Among}
use Rattle.types.specs.Types.{TYPE_MESSAGE}
use Rattle.entries.specs.declared.Row.{Row}

abbrev pub end_of : Row → ℕ
end_of x = x.entry.place + x.entry.size

abbrev pub First : (Row → Type 0) → List Row → Type 0
First P [] = Unit {0}
First P (x ∷ xs) = P x

pub record Within (x y : Row) : Type 0 where
  pub deeper : x.level < y.level
  pub from : x.entry.place ≤ y.entry.place
  pub to : end_of y ≤ end_of x

-- "Order is that of the bytes, a known message's inside directly after it; unknown ones are not entered"; "level (0 outermost)" [LIST-2]
pub record Encloses (x : Row) (behind : List Row) : Type 0 where
  pub inside : List Row
  pub rest : List Row
  pub is : behind ≡ inside ++ rest
  pub within : (y : Row) → Among y inside → Within x y
  pub next : First (λ y. y.level ≡ suc x.level) inside
  pub entered : (x.entry.typ ≡ TYPE_MESSAGE → ⊥) → inside ≡ []
  pub after : (y : Row) → Among y rest → end_of x ≤ y.entry.place
  pub out : First (λ y. y.level ≤ x.level) rest

abbrev pub Stand : List Row → Type 0
Stand [] = Unit {0}
Stand (x ∷ xs) = Encloses x xs × Stand xs
