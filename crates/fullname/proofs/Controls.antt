-- Closed cases of the look-ups by full name, which the checker computes: of each rule cases that hold, cases at its border, and cases that
-- are refused.
-- Assumes nothing.
use Rattle.std.specs.Prelude.{◌≡◌, refl, List, [], ◌∷◌, ◌++◌, map, ℕ, Err, Ok, Result}
use Prim.Native.String.{String}
use Rattle.octets.specs.Octets.{big_at, same_bytes}
use Rattle.octets.specs.Ascii.{ascii}
use Rattle.reply.specs.Reply.{number}
use Rattle.field.specs.Field.{field_at}
use Rattle.field.specs.Leaf.{leaf_at}
use Rattle.field.specs.Walk.{walk_by, walk}
use Rattle.path.specs.Path.{on_first, split, components, spell, parent, last}
use Rattle.sheet.specs.declared.declaration.Declaration.{Declaration}
use Rattle.sheet.specs.declared.declaration.Value.{Value}
use Rattle.sheet.specs.Declaration.{has_type_path, type_path_at, shape_at, extension_at, message_field_at, value_at}
use Rattle.sheet.specs.Tree.{value_in, values_in, item_in, items_in, file_in, tree_of}
use Rattle.sheet.specs.Members.{fields_of}
use Rattle.scope.specs.Scope.{holding}
use Rattle.scopes.specs.Scopes.{scopes}
use Rattle.fullname.specs.FullName.{messages_at, enums_at, looked_up, looked_up_enum}
use Rattle.sheet.proofs.Sheets.{file, message, extension, field, value, enum}
use Rattle.field.specs.declared.Span.{Span}
use Rattle.reply.specs.declared.Refusal.{Refusal}
use Rattle.scope.specs.declared.lookup.LookupScope.{LookupScope}

-- of a message that is found the index of its file and the number of its first field, of an enum the number of its first value; of one that
-- is not found, the reply's number
data Reply : Type 0 where
  in_file : ℕ → ℕ → Reply
  values : ℕ → Reply
  bare : Reply
  refused : ℕ → Reply

-- a sheet, a full name in it, and what the look-up says
record Case : Type 0 where
  sheet : List ℕ
  path : String
  says : Reply

abbrev at : List ℕ → String → Reply → Case
at s p a = record { sheet = s; path = p; says = a }

-- ---- messages
abbrev marked : ℕ → List Declaration → Reply
marked i [] = bare
marked i (d ∷ ds) = in_file i d.shape.number

abbrev message_reply : List ℕ → Result LookupScope Refusal → Reply
message_reply s (Ok p) = marked p.file (fields_of (holding s p).items)
message_reply s (Err w) = refused (number w)

a_message : Case → Reply
unfolding messages_at scopes components split on_first spell same_bytes tree_of file_in items_in item_in value_in extension_at
    message_field_at value_at shape_at type_path_at has_type_path walk_by leaf_at field_at big_at
a_message x = message_reply x.sheet (looked_up (messages_at x.sheet (components (ascii x.path))))

abbrev marker : ℕ → List ℕ
marker k = field "f" k

-- M and, in it, N and the enum E, after another file
abbrev nested : List ℕ
nested =
    file "q" (message "M" (marker 1))
    ++ file "p" (enum "E" (value "A" 4 ++ value "B" 5)
    ++ message "M" (marker 2 ++ message "N" (marker 3) ++ enum "E" (value "A" 6)))

-- two files of one package
abbrev doubled : List ℕ
doubled = file "p" (message "M" (marker 1) ++ enum "E" (value "A" 3)) ++ file "p" (message "M" (marker 2) ++ enum "E" (value "A" 4))

-- package a.b with M and E, and package a with the message b that has M and E
abbrev crossed : List ℕ
crossed =
    file "a.b" (message "M" (marker 1) ++ enum "E" (value "A" 3))
    ++ file "a" (message "b" (marker 5 ++ message "M" (marker 2) ++ enum "E" (value "A" 4)))

-- two of one name in one scope
abbrev twice : List ℕ
twice =
    file "p" (message "M" (marker 1 ++ message "N" (marker 7)) ++ message "M" (marker 2 ++ message "O" (marker 8))
    ++ enum "E" (value "A" 3) ++ enum "E" (value "A" 4))

messages : List Case
messages =
    -- one, by package and name
    at nested "p.M" (in_file 1 2)
    ∷ at nested "q.M" (in_file 0 1)
    -- one in a message
    ∷ at nested "p.M.N" (in_file 1 3)
    -- a file without a package
    ∷ at (file "" (message "M" (marker 1))) "M" (in_file 0 1)
    -- a message without a field
    ∷ at (file "p" (message "M" [])) "p.M" bare
    -- the package that is the whole path is no message, but the message of that path beside it is one
    ∷ at (file "a" (message "M" (marker 1))) "a" (refused 7)
    ∷ at crossed "a.b" (in_file 1 5)
    -- undeclared: the name, the package, what is in it, and the name without its package
    ∷ at nested "p.O" (refused 7)
    ∷ at nested "o.M" (refused 7)
    ∷ at nested "q.M.N" (refused 7)
    ∷ at nested "M" (refused 7)
    -- packages are compared whole
    ∷ at (file "pp" (message "M" [])) "p.M" (refused 7)
    -- in two files of one package
    ∷ at doubled "p.M" (refused 8)
    -- in a package, and in a message of a shorter package
    ∷ at crossed "a.b.M" (refused 8)
    -- two in one scope are one: the first, and what only the second holds is not found
    ∷ at twice "p.M" (in_file 0 1)
    ∷ at twice "p.M.N" (in_file 0 7)
    ∷ at twice "p.M.O" (refused 7)
    -- an enum is no message, nor is an extension
    ∷ at nested "p.E" (refused 7)
    ∷ at (file "p" (extension "x" "p.M" 1)) "p.x" (refused 7)
    -- the empty path, and the empty sheet
    ∷ at (file "" (message "M" (marker 1))) "" (refused 7)
    ∷ at [] "M" (refused 7)
    ∷ []

messages-found : map a_message messages ≡ map (λ x. x.says) messages
unfolding a_message messages
messages-found = refl

-- ---- enums
abbrev first_value : List Value → Reply
first_value [] = bare
first_value (v ∷ vs) = values v.number

abbrev enum_reply : List ℕ → Result Span Refusal → Reply
enum_reply s (Ok b) = first_value (values_in s (walk s b.from b.to))
enum_reply s (Err w) = refused (number w)

an_enum : Case → Reply
unfolding enums_at scopes components split on_first spell parent last same_bytes tree_of file_in items_in item_in value_in extension_at
    message_field_at value_at shape_at type_path_at has_type_path walk_by leaf_at field_at big_at
an_enum x = enum_reply x.sheet (looked_up_enum (enums_at x.sheet (components (ascii x.path))))

enums : List Case
enums =
    -- in a package, in a message, and without a package
    at nested "p.E" (values 4)
    ∷ at nested "p.M.E" (values 6)
    ∷ at (file "" (enum "E" (value "A" 1))) "E" (values 1)
    -- an enum without a value
    ∷ at (file "p" (enum "E" [])) "p.E" bare
    -- a message is no enum, nor is a package
    ∷ at nested "p.M" (refused 7)
    ∷ at nested "p" (refused 7)
    -- undeclared: the name, the package, and the name without its package
    ∷ at nested "p.D" (refused 7)
    ∷ at nested "q.E" (refused 7)
    ∷ at nested "E" (refused 7)
    -- a value is no enum
    ∷ at nested "p.E.A" (refused 7)
    -- in two files of one package
    ∷ at doubled "p.E" (refused 8)
    -- in a package, and in a message of a shorter package
    ∷ at crossed "a.b.E" (refused 8)
    -- two in one scope are one, the first
    ∷ at twice "p.E" (values 3)
    -- the empty path, and the empty sheet
    ∷ at nested "" (refused 7)
    ∷ at [] "E" (refused 7)
    ∷ []

enums-found : map an_enum enums ≡ map (λ x. x.says) enums
unfolding an_enum enums
enums-found = refl
