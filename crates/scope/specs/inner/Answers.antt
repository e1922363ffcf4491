-- What the code of a look-up asks of a place, and what it answers of what there is or is not.
--
--   InSheet s p <-> the place p of a scope is one of the sheet s
--
--   placed, declared, valued, bodied == the code's answer of a scope, a declaration, a value, an enum, or of none
--
-- Assumes nothing.
use Rattle.std.specs.Prelude.{List, ℕ, ◌≤◌, length, Option, None, Some}
use Rattle.basis.specs.First.{told}
use Rattle.sheet.specs.declared.declaration.Declaration.{Declaration}
use Rattle.sheet.specs.declared.declaration.Value.{Value}
use Rattle.sheet.specs.Members.{Enumeration}
use Rattle.scope.specs.declared.lookup.LookupScope.{LookupScope}
use Rattle.scope.specs.Scope.{Scope}
use Rattle.field.specs.declared.Span.{Span}

pub record InSheet (s : List ℕ) (p : LookupScope) : Type 0 where
  pub ordered : p.body.from ≤ p.body.to
  pub within : p.body.to ≤ length s

abbrev pub placed : Option Scope → Option LookupScope
placed = told None (λ c. Some c.place)

abbrev pub declared : Option Declaration → Option Declaration
declared = told None Some

abbrev pub valued : Option Value → Option Value
valued = told None Some

abbrev pub bodied : Option Enumeration → Option Span
bodied = told None (λ e. Some e.body)
