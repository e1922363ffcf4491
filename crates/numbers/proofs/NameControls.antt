-- Closed cases of the declaration of a number at the message of a full name, which the checker computes.
-- Assumes nothing.
use Rattle.std.specs.Prelude.{◌≡◌, refl, List, [], ◌∷◌, ◌++◌, map, ℕ, Option, None, Some}
use Prim.Native.String.{String}
use Rattle.octets.specs.Octets.{big_at, same_bytes}
use Rattle.octets.specs.Ascii.{ascii}
use Rattle.field.specs.Field.{field_at}
use Rattle.field.specs.Leaf.{text, leaf_at}
use Rattle.field.specs.Walk.{walk_by}
use Rattle.path.specs.Path.{on_first, split, components, spell}
use Rattle.sheet.specs.declared.declaration.Declaration.{Declaration}
use Rattle.sheet.specs.Declaration.{has_type_path, type_path_at, shape_at, extension_at, message_field_at, value_at}
use Rattle.sheet.specs.Tree.{value_in, item_in, items_in, file_in, tree_of}
use Rattle.scope.specs.Scope.{Scope, holding}
use Rattle.scopes.specs.Scopes.{scopes}
use Rattle.sheet.proofs.Sheets.{file, message, extension, field}
use Rattle.fullname.specs.FullName.{messages_at}
use Rattle.numbers.specs.Number.{declaration_of}

-- ---- numbers at a message: the name of what declares them
data Known : Type 0 where
  is : List ℕ → Known
  unknown : Known
  no_message : Known

abbrev known : List ℕ → Option Declaration → Known
known s None = unknown
known s (Some d) = is (text s d.name)

abbrev known_in : List ℕ → String → ℕ → List Scope → Known
known_in s m k [] = no_message
known_in s m k (c ∷ cs) = known s (declaration_of s (holding s c.place) (ascii m) k)

record Numbered : Type 0 where
  sheet : List ℕ
  path : String
  number : ℕ
  says : Known

abbrev declares : List ℕ → String → ℕ → Known → Numbered
declares s p k a = record { sheet = s; path = p; number = k; says = a }

declaring : Numbered → Known
unfolding declaration_of messages_at scopes components split on_first spell same_bytes tree_of file_in items_in item_in value_in extension_at
    message_field_at value_at shape_at type_path_at has_type_path walk_by leaf_at field_at big_at
declaring x = known_in x.sheet x.path x.number (messages_at x.sheet (components (ascii x.path)))

-- p.M has the fields f = 1, g = 1 and h = 2, and in it N has n = 3; an extension of it stands before it, and one in the second file
abbrev fielded : List ℕ
fielded =
    file "p" (extension "early" "p.M" 1 ++ message "L" (field "l" 9)
    ++ message "M" (field "f" 1 ++ field "g" 1 ++ field "h" 2 ++ message "N" (field "n" 3)))
    ++ file "q" (extension "far" "p.M" 2 ++ message "M" (field "m" 10))

-- extensions of p.M stand before and after it, one of them in p.L.K, and in the second file
abbrev extended : List ℕ
extended =
    file "p" (message "L" (message "K" (extension "deep" "p.M" 5)) ++ message "M" (message "N" [])
    ++ extension "other" "p.L" 4 ++ extension "plain" "p.M" 7 ++ extension "twin" "p.M" 7)
    ++ file "q" (extension "shallow" "p.M" 5 ++ extension "late" "p.M" 4 ++ extension "relative" "M" 8 ++ message "M" []
    ++ extension "plain" "p.M" 7 ++ extension "most" "p.M" 536870911)

numbers : List Numbered
numbers =
    -- a field before an extension of the number, which stands before it or after it; of two fields the first
    declares fielded "p.M" 1 (is (ascii "f"))
    ∷ declares fielded "p.M" 2 (is (ascii "h"))
    -- an extension in the second file, where no field has the number; that of another message, though earlier, is passed over
    ∷ declares extended "p.M" 4 (is (ascii "late"))
    ∷ declares extended "p.L" 4 (is (ascii "other"))
    ∷ declares extended "p.M" 536870911 (is (ascii "most"))
    -- of two extensions the first in the bytes, also where it stands deeper
    ∷ declares extended "p.M" 7 (is (ascii "plain"))
    ∷ declares extended "p.M" 5 (is (ascii "deep"))
    -- the extendee is a full name as it is written
    ∷ declares extended "p.M" 8 unknown
    -- a field of a message inside, of another message, and of another message of that name
    ∷ declares fielded "p.M" 3 unknown
    ∷ declares fielded "p.M.N" 3 (is (ascii "n"))
    ∷ declares fielded "p.M" 9 unknown
    ∷ declares fielded "p.M" 10 unknown
    ∷ declares fielded "q.M" 10 (is (ascii "m"))
    -- extensions of p.M are none of q.M, nor of p.M.N
    ∷ declares extended "q.M" 7 unknown
    ∷ declares extended "p.M.N" 7 unknown
    -- a number that nothing has
    ∷ declares extended "p.M" 6 unknown
    ∷ declares extended "p.M" 0 unknown
    ∷ []

numbers-known : map declaring numbers ≡ map (λ x. x.says) numbers
unfolding declaring numbers
numbers-known = refl
