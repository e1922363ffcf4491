-- Closed cases of full names, of clean sheets and of contained ones, which the checker computes: of each sentence of 01 sheets that it
-- passes, at its border, and sheets that it alone refuses.
-- Assumes nothing.
use Rattle.std.specs.Prelude.{◌≡◌, refl, Bool, true, false, List, [], ◌∷◌, ◌++◌, map, ℕ}
use Prim.Native.String.{String}
use Rattle.octets.specs.Octets.{big_at, same_bytes}
use Rattle.octets.specs.Ascii.{ascii}
use Rattle.field.specs.Field.{field_at}
use Rattle.field.specs.Leaf.{leaf_at}
use Rattle.field.specs.Walk.{walk_by}
use Rattle.sheet.specs.Declaration.{has_type_path, type_path_at, shape_at, extension_at, message_field_at, value_at}
use Rattle.sheet.specs.Tree.{value_in, item_in, items_in, file_in, tree_of}
use Rattle.sheet.proofs.Sheets.{file, message, extension_to, field_with, extension, field, value, enum}
use Rattle.names.specs.Names.{every_declared, tag_of}
use Rattle.names.specs.Clean as clean
use Rattle.names.specs.Contained as contained

-- ---- what a sheet declares, by tag and full name
record Bears : Type 0 where
  tag : ℕ
  name : List ℕ

abbrev by : ℕ → String → Bears
by t n = record { tag = t; name = ascii n }

record Roll : Type 0 where
  sheet : List ℕ
  says : List Bears

abbrev declares : List ℕ → List Bears → Roll
declares s a = record { sheet = s; says = a }

declared : Roll → List Bears
unfolding every_declared tree_of file_in items_in item_in value_in extension_at message_field_at value_at shape_at type_path_at has_type_path walk_by leaf_at
    field_at big_at
declared x = map (λ b. record { tag = tag_of b.what; name = b.name }) (every_declared x.sheet)

-- a message in which another one holds an enum, and an extension
abbrev nested : List ℕ
nested = message "M" (message "N" (enum "E" [])) ++ extension "x" "M" 5

abbrev rolls : List Roll
rolls =
    declares (file "p.q" nested) (by 2 "p.q.M" ∷ by 2 "p.q.M.N" ∷ by 4 "p.q.M.N.E" ∷ by 3 "p.q.x" ∷ [])
    -- the empty package has no dot
    ∷ declares (file "" nested) (by 2 "M" ∷ by 2 "M.N" ∷ by 4 "M.N.E" ∷ by 3 "x" ∷ [])
    -- fields and values are none of them; a second file has its own package
    ∷ declares (file "p" (message "M" (field "f" 1 ++ extension "x" "M" 5)) ++ file "" (enum "E" (value "v" 0)))
    (by 2 "p.M" ∷ by 3 "p.M.x" ∷ by 4 "E" ∷ [])
    ∷ declares [] []
    ∷ []

declared-all : map declared rolls ≡ map (λ x. x.says) rolls
unfolding declared
declared-all = refl

-- ---- clean
record Case : Type 0 where
  sheet : List ℕ
  says : Bool

-- in a file without a package
abbrev is : Bool → List ℕ → Case
is a body = record { sheet = file "" body; says = a }

abbrev all : Bool → List ℕ → Case
all a s = record { sheet = s; says = a }

cleanly : Case → Bool
unfolding clean.clean every_declared same_bytes tree_of file_in items_in item_in value_in extension_at message_field_at value_at shape_at type_path_at
    has_type_path walk_by leaf_at field_at big_at
cleanly x = clean.clean x.sheet

-- a type of the path p, in a message M beside an enum E
abbrev to : Bool → ℕ → String → Case
to a t p = is a (message "M" (field_with 1 "f" 1 t p) ++ enum "E" [])

abbrev cleans : List Case
cleans =
    all true []
    -- full names: messages, enums and extensions are one name space, over all files; P7's shape
    ∷ all false (file "a.b" (extension "x" "a.b" 1) ++ file "a" (message "b" (extension "x" "a.b" 2)))
    ∷ all true (file "a.b" (extension "x" "a.b" 1) ++ file "a" (message "b" (extension "y" "a.b" 2)))
    ∷ all false (file "a" (message "M" []) ++ file "a" (message "M" []))
    ∷ all true (file "a" (message "M" []) ++ file "b" (message "M" []))
    ∷ is false (message "M" [] ++ enum "M" [])
    ∷ is false (message "M" (message "N" [] ++ enum "N" []))
    ∷ is true (message "M" (message "M" []) ++ enum "N" [])
    -- names of fields and of values: no two of one message, no two of one enum
    ∷ is false (message "M" (field "f" 1 ++ field "f" 2))
    ∷ is true (message "M" (field "f" 1 ++ field "g" 2))
    ∷ is true (message "M" (field "f" 1) ++ message "N" (field "f" 1))
    ∷ is true (message "M" (field "M" 1 ++ enum "f" []))
    ∷ is false (enum "E" (value "v" 0 ++ value "v" 1))
    ∷ is true (enum "E" (value "v" 0) ++ enum "F" (value "v" 0))
    -- equal numbers of an enum's values
    ∷ is true (enum "E" (value "v" 0 ++ value "w" 0))
    -- numbers of a message: of fields, of a field and an extension, of extensions
    ∷ is false (message "M" (field "f" 1 ++ field "g" 1))
    ∷ is false (message "M" (field "f" 1) ++ extension "x" "M" 1)
    ∷ is true (message "M" (field "f" 1) ++ extension "x" "M" 2)
    ∷ is false (message "M" (extension "x" "M" 1) ++ extension "x" "M" 1)
    ∷ is true (message "M" (message "N" []) ++ extension "x" "M" 1 ++ extension "y" "M.N" 1)
    -- extendees: exactly one message
    ∷ is false (enum "E" [] ++ extension "x" "E" 1)
    ∷ is false (message "M" [] ++ extension "x" "N" 1)
    -- type paths: of types 10 and 11 one message, of 14 one enum
    ∷ to true 10 "M"
    ∷ to true 11 "M"
    ∷ to true 14 "E"
    ∷ to false 11 "N"
    ∷ to false 11 "E"
    ∷ to false 14 "M"
    ∷ to false 14 "N"
    ∷ is false (message "M" [] ++ extension_to "x" "M" 1 11 "N")
    ∷ is true (message "M" [] ++ extension_to "x" "M" 1 11 "M")
    ∷ []

cleans-all : map cleanly cleans ≡ map (λ x. x.says) cleans
unfolding cleanly
cleans-all = refl

-- ---- contained
record Pair : Type 0 where
  older : List ℕ
  newer : List ℕ
  says : Bool

-- each in a file without a package
abbrev kept : Bool → List ℕ → List ℕ → Pair
kept a s t = record { older = file "" s; newer = file "" t; says = a }

containedly : Pair → Bool
unfolding contained.contained every_declared same_bytes tree_of file_in items_in item_in value_in extension_at message_field_at value_at shape_at
    type_path_at has_type_path walk_by leaf_at field_at big_at
containedly x = contained.contained x.older x.newer

abbrev one : List ℕ
one = message "M" (field "f" 1) ++ enum "E" (value "v" 0)

-- a field of a message M
abbrev with : List ℕ → List ℕ
with f = message "M" f

abbrev keeps : List Pair
keeps =
    kept true one one
    ∷ kept true [] one
    -- a label, an enum's values, and where an extension stands may differ
    ∷ kept true (with (field_with 1 "f" 1 13 "")) (with (field_with 3 "f" 1 13 ""))
    ∷ kept true (enum "E" (value "v" 0)) (enum "E" (value "w" 1))
    ∷ kept true (with (field "f" 1)) (with [] ++ extension "f" "M" 1)
    ∷ kept true (with [] ++ extension "f" "M" 1) (with (field "f" 1))
    ∷ kept true (with [] ++ extension "x" "M" 1) (with (extension "x" "M" 1))
    -- more may be declared
    ∷ kept true (with []) (with (field "f" 1) ++ enum "E" [])
    -- a message or an enum is missing, or of the other kind, or of another package
    ∷ kept false (with [] ++ message "N" []) (with [])
    ∷ kept false (with (message "N" [])) (with [] ++ message "N" [])
    ∷ kept false (enum "E" []) []
    ∷ kept false (enum "M" []) (with [])
    ∷ record { older = file "p" (with []); newer = file "q" (with []); says = false }
    -- a number is missing: of a field, of an extension, or it is for another message
    ∷ kept false (with (field "f" 1)) (with [])
    ∷ kept false (with (field "f" 1)) (with (field "f" 2))
    ∷ kept false (with [] ++ extension "x" "M" 1) (with [])
    ∷ kept false (with (message "N" (field "f" 1))) (with (message "N" [] ++ field "f" 1))
    -- another name, type or type path
    ∷ kept false (with (field "f" 1)) (with (field "g" 1))
    ∷ kept false (with (field_with 1 "f" 1 13 "")) (with (field_with 1 "f" 1 12 ""))
    ∷ kept false (with (field_with 1 "f" 1 11 "M")) (with (field_with 1 "f" 1 11 "N"))
    ∷ kept true (with (field_with 1 "f" 1 11 "M")) (with (field_with 1 "f" 1 11 "M"))
    -- of sheets that are not clean each declaration is kept, whatever else the newer has
    ∷ kept true (with (field "f" 1)) (with (field "g" 1 ++ field "f" 1))
    ∷ kept false (with (field "g" 1 ++ field "f" 1)) (with (field "f" 1))
    ∷ []

keeps-all : map containedly keeps ≡ map (λ x. x.says) keeps
unfolding containedly
keeps-all = refl
