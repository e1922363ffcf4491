-- The code's table of names: a row is the number, the second word, the length of the name, the name and blanks, a byte each but the name.
--
--          code_of w ==  the number that the code's enum has for a refusal: 01's number times 100, and the second word
--           row_size ==  the bytes of a row
--   RowAt rows at w <-> the row that starts at a place of the table is that of the refusal
--       Tabled rows <-> the table has the rows of all refusals, and no others
--
-- Assumes nothing.
use Rattle.std.specs.Prelude.{◌≡◌, List, ℕ, ◌+◌, ◌*◌, ◌≤◌, ◌<◌, length, get_or, take, drop}
use Rattle.reply.specs.declared.Refusal.{Refusal}
use Rattle.reply.specs.Reply.{number, second, name, most_name}

abbrev pub code_of : Refusal → ℕ
code_of w = number w * 100 + second w

abbrev pub row_size : ℕ
row_size = 43

pub record RowAt (rows : List ℕ) (at : ℕ) (w : Refusal) : Type 0 where
  pub numbered : get_or rows at 0 ≡ number w
  pub seconded : get_or rows (at + 1) 0 ≡ second w
  pub named : take (get_or rows (at + 2) 0) (drop (at + 3) rows) ≡ name w
  pub short : get_or rows (at + 2) 0 ≤ most_name

-- each refusal has a row, and each row a refusal
pub record Tabled (rows : List ℕ) : Type 0 where
  pub most : ℕ
  pub size : length rows ≡ most * row_size
  pub place : Refusal → ℕ
  pub inside : (w : Refusal) → place w < most
  pub row_of : (w : Refusal) → RowAt rows (place w * row_size) w
  pub refusal : (i : ℕ) → i < most → Refusal
  pub row_at : (i : ℕ) (h : i < most) → RowAt rows (i * row_size) (refusal i h)
