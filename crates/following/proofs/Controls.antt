-- Closed cases of the record that declarations lead to, which the checker computes. Of singular fields Encoding says, under "Last One
-- Wins", that the last value counts, and of messages that their records are merged: that is what `joins` says of a declaration.
-- Assumes nothing.
use Rattle.std.specs.Prelude.{◌≡◌, refl, true, List, [], ◌∷◌, ℕ, Option, None, Some}
use Rattle.field.specs.Leaf.{span}
use Rattle.sheet.specs.declared.declaration.Declaration.{Declaration}
use Rattle.entries.specs.declared.Entry.{Entry}
use Rattle.entries.specs.declared.Row.{Row}
use Rattle.entries.specs.Tree.{Tree, end, one, held}
use Rattle.following.specs.Reached.{never, reached}

-- ---- declarations at places of a sheet, and records of one number: its value is all that tells them apart
abbrev at : ℕ → Declaration
at p = record {
  name = span p p;
  extendee = span 0 0;
  shape = record { number = 1; typ = 11; label = 1; path = span 0 0 };
}

abbrev by : Option Declaration → (value : ℕ) → Entry
by y v = record { number = 1; typ = 11; wire = 2; place = 0; size = 0; value = v; by = y }

abbrev of : (declaration value : ℕ) → Entry
of p v = by (Some (at p)) v

abbrev unknown : Entry
unknown = by None 9

-- the declarations a, b and m
abbrev a : ℕ
a = 10

abbrev b : ℕ
b = 20

abbrev m : ℕ
m = 30

-- ---- level and value of the record that is reached
abbrev found : Option Row → List ℕ
found None = []
found (Some x) = x.level ∷ x.entry.value ∷ []

abbrev last : List Declaration → Tree → List ℕ
last ds t = found (reached never 0 ds t)

abbrev merged : List Declaration → Tree → List ℕ
merged ds t = found (reached (λ d. true) 0 ds t)

abbrev cases : List (List ℕ)
cases =
    -- the last of two records; one by another declaration, and one that nothing declares, count as none
    last (at a ∷ []) (one (of a 1) (one (of a 2) end)) ∷ last (at a ∷ []) (one (of a 1) (one (of b 2) (one unknown end)))
    ∷ last (at a ∷ []) (one (of b 2) (one unknown end)) ∷ last (at a ∷ []) end ∷ last [] (one (of a 1) end)
    -- a message's own record is the last part's too
    ∷ last (at m ∷ []) (held (of m 1) (one (of a 2) end) (held (of m 3) end end))
    -- inside the last message, one level deeper: what an earlier one holds does not count
    ∷ last (at m ∷ at a ∷ []) (held (of m 1) (one (of a 2) end) (held (of m 3) (one (of a 4) end) end))
    ∷ last (at m ∷ at a ∷ []) (held (of m 1) (one (of a 2) end) (held (of m 3) end end))
    ∷ last (at m ∷ at a ∷ []) (held (of m 1) (one (of a 2) end) (one (of m 3) end))
    ∷ last (at m ∷ at a ∷ []) (held (of m 1) (one (of a 2) end) (held (of b 3) (one (of a 4) end) (one (of a 5) end)))
    ∷ last (at m ∷ at m ∷ at a ∷ []) (held (of m 1) (held (of m 2) (one (of a 3) end) (one (of a 4) end)) end)
    -- merged: what all of them hold, in order
    ∷ merged (at m ∷ at a ∷ []) (held (of m 1) (one (of a 2) end) (held (of m 3) (one (of b 4) end) end))
    ∷ merged (at m ∷ at a ∷ []) (held (of m 1) (one (of a 2) end) (held (of m 3) (one (of a 4) end) end)) ∷ []

reached-cases : cases
    ≡ (0 ∷ 2 ∷ []) ∷ (0 ∷ 1 ∷ []) ∷ [] ∷ [] ∷ [] ∷ (0 ∷ 3 ∷ []) ∷ (1 ∷ 4 ∷ []) ∷ [] ∷ [] ∷ (1 ∷ 2 ∷ []) ∷ (2 ∷ 3 ∷ []) ∷ (1 ∷ 2 ∷ [])
    ∷ (1 ∷ 4 ∷ []) ∷ []
reached-cases = refl
