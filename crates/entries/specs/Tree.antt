-- What option bytes mean: the records at each level, a known message with what it holds; and the words that listing writes of them. An
-- entry is a record: its number, its type (0 unknown), its wire type, place and size of its payload, its value, and what declares its
-- number. A row is an entry with its level.
--
--          Tree == the records at one level, in the order of the bytes
--   leaves es t == the records es, which hold nothing, and then t
--    append t u == the records of t, and then those of u
--       row l e == the row of the entry e at the level l
--      rows l t == the records of t, which stand at the level l, each known message's inside directly after it
--       words r == the eight words of a row
--    words_of rs == the words of the rows
--
-- Assumes nothing.
use Rattle.std.specs.Prelude.{List, [], ◌∷◌, ◌++◌, ℕ, suc, ◌/◌, ◌%◌, ◌^◌}
use Rattle.entries.specs.declared.Entry.{Entry}
use Rattle.entries.specs.declared.Row.{Row}

pub data Tree : Type 0 where
  end : Tree
  one : Entry → Tree → Tree
  held : Entry → (inside : Tree) → Tree → Tree

abbrev pub leaves : List Entry → Tree → Tree
leaves [] t = t
leaves (e ∷ es) t = one e (leaves es t)

abbrev pub append : (front rest : Tree) → Tree
append end u = u
append (one e t) u = one e (append t u)
append (held e i t) u = held e i (append t u)

abbrev pub row : (level : ℕ) → Entry → Row
row l e = record { level = l; entry = e }

-- 01, Listing: "Order is that of the bytes, a known message's inside directly after it"; "level (0 outermost)" [LIST-2]
abbrev pub rows : (level : ℕ) → Tree → List Row
rows l end = []
rows l (one e t) = row l e ∷ rows l t
rows l (held e i t) = row l e ∷ (rows (suc l) i ++ rows l t)

-- 01, Listing: "eight u32 words a record: level (0 outermost), number, type (0 unknown), wire type, place and length of the payload, value
-- low, value high" [LIST-1]
abbrev pub words : Row → List ℕ
words r =
    r.level ∷ r.entry.number ∷ r.entry.typ ∷ r.entry.wire ∷ r.entry.place ∷ r.entry.size ∷ r.entry.value % 2 ^ 32
    ∷ r.entry.value / 2 ^ 32 ∷ []

abbrev pub words_of : List Row → List ℕ
words_of [] = []
words_of (r ∷ rs) = words r ++ words_of rs
