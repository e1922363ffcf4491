-- Every number that a sheet declares for a message: by a field of that message, or by an extension of it.
--
--            Number == a declaration of a number, and the message that it is for, by its full name
--   numbers_by s n w == those of the fields of a message of the full name n, or of an extension
--     numbers_of s b == those of the declaration b
--   numbers_all s bs == those of all of bs
--     every_number s == all that the sheet declares, a message's own before those of what it holds
--
-- Assumes nothing.
use Rattle.std.specs.Prelude.{List, [], ◌∷◌, ◌++◌, map, ℕ}
use Rattle.field.specs.Leaf.{text}
use Rattle.sheet.specs.declared.declaration.Declaration.{Declaration}
use Rattle.sheet.specs.Members.{fields_of}
use Rattle.names.specs.Names.{What, message, enumeration, extension, Named, every_declared}

pub record Number : Type 0 where
  pub for : List ℕ
  pub by : Declaration

-- 01, Listing: "A number is known if the message, or an extension of it, declares it" [LIST-3]
abbrev pub numbers_by : (s name : List ℕ) → What → List Number
numbers_by s n (message c) = map (λ d. record { for = n; by = d }) (fields_of c.items)
numbers_by s n (enumeration e) = []
numbers_by s n (extension d) = record { for = text s d.extendee; by = d } ∷ []

abbrev pub numbers_of : (s : List ℕ) → Named → List Number
numbers_of s b = numbers_by s b.name b.what

abbrev pub numbers_all : (s : List ℕ) → List Named → List Number
numbers_all s [] = []
numbers_all s (b ∷ bs) = numbers_of s b ++ numbers_all s bs

abbrev pub every_number : (s : List ℕ) → List Number
every_number s = numbers_all s (every_declared s)
