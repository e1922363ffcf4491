-- Look-ups by full name, from 01's "The search": a message, and an enum.
--
--              message_of c == the scope c, where it is a message
--           messages_at s p == the messages of the full name p
--              enums_at s p == the enums of the full name p
--   looked_up, looked_up_enum == the one that there is; of none MessageNotFound, of more than one MessageFoundMoreThanOnce
--
-- Assumes nothing.
use Rattle.std.specs.Prelude.{List, [], ◌∷◌, ℕ, Option, None, Some, Err, Ok, Result}
use Rattle.reply.specs.declared.Refusal.TheVariants.{MessageNotFound, MessageFoundMoreThanOnce}
use Rattle.path.specs.Path.{Path, parent, last}
use Rattle.sheet.specs.Members.{Enumeration}
use Rattle.basis.specs.First.{only_if, collect}
use Rattle.scope.specs.Scope.{Scope, enum_named}
use Rattle.scopes.specs.Scopes.{scopes}
use Rattle.field.specs.declared.Span.{Span}
use Rattle.reply.specs.declared.Refusal.{Refusal}
use Rattle.scope.specs.declared.lookup.LookupScope.{LookupScope}

-- "A message by full name: the scopes at that path that are messages" [LOOKUP-1, LOOKUP-2]
abbrev pub message_of : Scope → Option Scope
message_of c = only_if c.place.message (Some c) None

unfoldable pub messages_at : (s : List ℕ) (p : Path) → List Scope
messages_at s p = collect message_of (scopes s p)

-- "An enum likewise: the first of its last component's name in each scope at the path before it." [LOOKUP-3, LOOKUP-5]
unfoldable pub enums_at : (s : List ℕ) (p : Path) → List Enumeration
enums_at s [] = []
enums_at s (n ∷ ns) = collect (enum_named s (last (n ∷ ns))) (scopes s (parent (n ∷ ns)))

-- "none is 7, more than one 8" [LOOKUP-1]
abbrev pub looked_up : List Scope → Result LookupScope Refusal
looked_up [] = Err MessageNotFound
looked_up (c ∷ []) = Ok c.place
looked_up (c ∷ d ∷ cs) = Err MessageFoundMoreThanOnce

abbrev pub looked_up_enum : List Enumeration → Result Span Refusal
looked_up_enum [] = Err MessageNotFound
looked_up_enum (e ∷ []) = Ok e.body
looked_up_enum (e ∷ f ∷ es) = Err MessageFoundMoreThanOnce
