-- The i-th of a list of declarations, as code answers it, with its full name at the front of lent room.
--
--                      nowhere_in ==  a scope of which nothing is known: what is answered of a declaration does not depend on it
--                        shown w ==  what bears a name, as code has it
--                      borne b n ==  what bears a full name, and how long that is
--                       nth bs i ==  the i-th of bs, counted from 0, or how much further it stands
--                  name_or q bs i ==  its full name, q where there is none
--      Spelt before at n after r <-> the room `after` starts with the first `at` bytes of `before` and the text n, and r is the place after
--                                    them
--   Finds bs i at before after r <-> r is the i-th of bs, and its full name is at the front of the room `after`; where there is none, the
--                                    first `at` bytes of the room stay as they were before
--
-- Assumes nothing.
use Rattle.std.specs.Prelude.{◌≡◌, false, List, [], ◌∷◌, ◌++◌, ℕ, zero, suc, length, take, Result, Ok, Err}
use Rattle.field.specs.Leaf.{span}
use Rattle.sheet.specs.Tree as tree
use Rattle.scope.specs.Scope.{Scope}
use Rattle.names.specs.Names.{What, message, enumeration, extension, Named}
use Rattle.roster.specs.declared.Bearer.{Bearer}
use Rattle.roster.specs.declared.Bearer.TheVariants.{Message, Enum, Extension}
use Rattle.roster.specs.declared.Nth.{Nth}

abbrev pub nowhere_in : Scope
nowhere_in = record { place = record { file = 0; message = false; body = span 0 0; left = 0 }; items = tree.none }

abbrev pub shown : What → Bearer
shown (message c) = Message c.place.body
shown (enumeration e) = Enum e.body
shown (extension d) = Extension d

abbrev pub borne : Bearer → (size : ℕ) → Nth
borne b n = record { bearer = b; size = n }

abbrev pub nth : List Named → (i : ℕ) → Result Nth ℕ
nth [] i = Err i
nth (b ∷ bs) zero = Ok (borne (shown b.what) (length b.name))
nth (b ∷ bs) (suc i) = nth bs i

abbrev pub name_or : (front : List ℕ) → List Named → (i : ℕ) → List ℕ
name_or q [] i = q
name_or q (b ∷ bs) zero = b.name
name_or q (b ∷ bs) (suc i) = name_or q bs i

pub record Spelt (before : List ℕ) (at : ℕ) (name after : List ℕ) (r : ℕ) : Type 0 where
  pub next : r ≡ length (take at before ++ name)
  pub sized : length after ≡ length before
  pub front : take r after ≡ take at before ++ name

pub record Finds (bs : List Named) (i at : ℕ) (before after : List ℕ) (r : Result Nth ℕ) : Type 0 where
  pub is : r ≡ nth bs i
  pub sized : length after ≡ length before
  pub name : take (length (name_or (take at before) bs i)) after ≡ name_or (take at before) bs i
