-- What a file or a message declares, kind by kind, in the order of the bytes.
--
--               Message == a message: its name, its body (what stands after the name), and what it holds
--           Enumeration == an enum, likewise, with its values
--          messages_of i == the messages that stand among the items themselves
--        extensions_of i == the extensions, likewise
--             enums_of i == the enums, likewise
--            fields_of i == the fields, likewise
--    declarations_of k i == the declarations of the tag k: the extensions or the fields; no other tag has any
--    every_extension_of i == the extensions among the items and in their messages, at every depth
--   every_extension fs   == the extensions of the files, at every depth
--
-- Assumes nothing.
use Rattle.std.specs.Prelude.{List, [], ◌∷◌, ◌++◌, ℕ, eqb}
use Rattle.basis.specs.First.{only_if}
use Rattle.field.specs.declared.Span.{Span}
use Rattle.sheet.specs.declared.declaration.Declaration.{Declaration}
use Rattle.sheet.specs.declared.declaration.Value.{Value}
use Rattle.sheet.specs.Table.{extension_tag, field_tag}
use Rattle.sheet.specs.Tree.{Items, none, message, extension, enumeration, field, File}

pub record Message : Type 0 where
  pub name : Span
  pub body : Span
  pub inside : Items

pub record Enumeration : Type 0 where
  pub name : Span
  pub body : Span
  pub values : List Value

abbrev pub messages_of : Items → List Message
messages_of none = []
messages_of (message n b i r) = record { name = n; body = b; inside = i } ∷ messages_of r
messages_of (extension d r) = messages_of r
messages_of (enumeration n b vs r) = messages_of r
messages_of (field d r) = messages_of r

abbrev pub extensions_of : Items → List Declaration
extensions_of none = []
extensions_of (message n b i r) = extensions_of r
extensions_of (extension d r) = d ∷ extensions_of r
extensions_of (enumeration n b vs r) = extensions_of r
extensions_of (field d r) = extensions_of r

abbrev pub enums_of : Items → List Enumeration
enums_of none = []
enums_of (message n b i r) = enums_of r
enums_of (extension d r) = enums_of r
enums_of (enumeration n b vs r) = record { name = n; body = b; values = vs } ∷ enums_of r
enums_of (field d r) = enums_of r

abbrev pub fields_of : Items → List Declaration
fields_of none = []
fields_of (message n b i r) = fields_of r
fields_of (extension d r) = fields_of r
fields_of (enumeration n b vs r) = fields_of r
fields_of (field d r) = d ∷ fields_of r

abbrev pub declarations_of : (tag : ℕ) → Items → List Declaration
declarations_of k i = only_if (eqb k extension_tag) (extensions_of i) (only_if (eqb k field_tag) (fields_of i) [])

-- 01, Listing: "then sheet order", which is the order of the bytes; every 03 of the sheet counts [NUMBER-2]
abbrev pub every_extension_of : Items → List Declaration
every_extension_of none = []
every_extension_of (message n b i r) = every_extension_of i ++ every_extension_of r
every_extension_of (extension d r) = d ∷ every_extension_of r
every_extension_of (enumeration n b vs r) = every_extension_of r
every_extension_of (field d r) = every_extension_of r

abbrev pub every_extension : List File → List Declaration
every_extension [] = []
every_extension (f ∷ fs) = every_extension_of f.items ++ every_extension fs
