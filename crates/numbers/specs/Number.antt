-- The declaration of a number at a message, from 01's "Listing and lowering": "A number is known if the message, or an extension of it,
-- declares it; fields first, then sheet order."
--
--             has_number k d <=> the declaration is of the number k
--     is_extension_of s m k d <=> it is of that message and that number
--         field_numbered k c ==  the first field of the number k in the scope c
--   extension_numbered s m k ==  the first extension of the message m, wherever the sheet declares it, of the number k
--     declaration_of s c m k ==  what declares the number k at the message that the scope c is and whose full name is m; the caller hands on
--                               the name by which it reached that scope
--
-- Assumes nothing.
use Rattle.std.specs.Prelude.{Bool, ◌&&◌, List, ℕ, eqb, Option}
use Rattle.sheet.specs.declared.declaration.Declaration.{Declaration}
use Rattle.sheet.specs.Tree.{tree_of}
use Rattle.sheet.specs.Members.{fields_of, every_extension}
use Rattle.basis.specs.First.{first, or_else}
use Rattle.scope.specs.Scope.{Scope, extends}

abbrev pub has_number : (number : ℕ) → Declaration → Bool
has_number k d = eqb d.shape.number k

abbrev pub field_numbered : (number : ℕ) → Scope → Option Declaration
field_numbered k c = first (has_number k) (fields_of c.items)

abbrev pub is_extension_of : (s message : List ℕ) (number : ℕ) → Declaration → Bool
is_extension_of s m k d = has_number k d && extends s m d

abbrev pub extension_numbered : (s message : List ℕ) (number : ℕ) → Option Declaration
extension_numbered s m k = first (is_extension_of s m k) (every_extension (tree_of s))

unfoldable pub declaration_of : (s : List ℕ) → Scope → (message : List ℕ) (number : ℕ) → Option Declaration
declaration_of s c m k = or_else (field_numbered k c) (extension_numbered s m k)
