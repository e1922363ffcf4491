-- Of the scopes that a cursor has still before it, those that pass a test.
--
--          kept good c ==  the scope c, where it passes the test
--   passing good s t c ==  the scopes to come, at the cursor c of the path t, that pass the test
--          is_message c <=> the scope is a message
--   declares_enum s n c <=> the scope declares an enum of the name n
--
-- Assumes nothing.
use Rattle.std.specs.Prelude.{Bool, true, false, List, ℕ, Option, None, Some}
use Rattle.path.specs.Path.{Name}
use Rattle.basis.specs.First.{only_if, told, collect}
use Rattle.scope.specs.Scope.{Scope, enum_named}
use Rattle.cursor.specs.declared.Cursor.{Cursor}
use Rattle.cursor.specs.inner.Cursor.{ahead}

abbrev pub kept : (good : Scope → Bool) (c : Scope) → Option Scope
kept good c = only_if (good c) (Some c) None

abbrev pub passing : (good : Scope → Bool) (s t : List ℕ) (c : Cursor) → List Scope
passing good s t c = collect (kept good) (ahead s t c)

abbrev pub is_message : Scope → Bool
is_message c = c.place.message

abbrev pub declares_enum : (s : List ℕ) (n : Name) (c : Scope) → Bool
declares_enum s n c = told false (λ e. true) (enum_named s n c)
