-- What a sheet declares at a message, and when it declares each number there once, as every clean sheet does.
--
--   DeclaredAt s m d <-> the declaration d is a field of the message m, or an extension of it
--           Once L s <-> no number is declared twice for one message that is looked up
--
-- Assumes nothing.
use Rattle.std.specs.Prelude.{◌≡◌, true, List, ℕ, Ok}
use Rattle.basis.specs.Among.{Among}
use Rattle.sheet.specs.declared.declaration.Declaration.{Declaration}
use Rattle.sheet.specs.Tree.{tree_of}
use Rattle.sheet.specs.Members.{fields_of, every_extension}
use Rattle.scope.specs.Scope.{holding, extends}
use Rattle.lookups.specs.Lookups.{Lookups, Message}

-- 01, Listing: "A number is known if the message, or an extension of it, declares it" [LIST-3]
pub data DeclaredAt (s : List ℕ) (m : Message) (d : Declaration) : Type 0 where
  as-field : Among d (fields_of (holding s m.place).items) → DeclaredAt s m d
  as-extension : Among d (every_extension (tree_of s)) → extends s m.name d ≡ true → DeclaredAt s m d

-- 01, "Clean: .. no number is declared twice for one message, extensions counted" [CLEAN-4]
abbrev pub Once : Lookups → (s : List ℕ) → Type 0
Once L s =
    (m : Message) → L.message m.name ≡ Ok m.place → (d e : Declaration) → DeclaredAt s m d → DeclaredAt s m e
    → d.shape.number ≡ e.shape.number → d ≡ e
