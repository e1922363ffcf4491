-- 01's examples P2 to P7, as one table under one statement, which the checker computes.
-- Assumes nothing.
use Rattle.std.specs.Prelude.{◌≡◌, refl, List, [], ◌∷◌, ◌++◌, map, ℕ, Result, Ok, Err}
use Prim.Native.String.{String}
use Rattle.octets.specs.Octets.{big_at, same_bytes}
use Rattle.octets.specs.Ascii.{ascii}
use Rattle.reply.specs.Reply.{number}
use Rattle.field.specs.Field.{field_at}
use Rattle.field.specs.Leaf.{leaf_at}
use Rattle.field.specs.Walk.{walk_by}
use Rattle.path.specs.Path.{on_first, split, components, spell, is_abs, rootless, parent, last}
use Rattle.candidates.specs.Candidates.{ancestors}
use Rattle.candidates.specs.Candidates.{candidates}
use Rattle.sheet.specs.Declaration.{has_type_path, type_path_at, shape_at, extension_at, message_field_at, value_at}
use Rattle.sheet.specs.Tree.{value_in, item_in, items_in, file_in, tree_of}
use Rattle.reply.specs.declared.Refusal.{Refusal}
use Rattle.search.specs.declared.extension.Compared.{Compared}
use Rattle.search.specs.declared.extension.Compared.TheVariants.{Extends, ExtendsOther}
use Rattle.scopes.specs.Scopes.{scopes}
use Rattle.search.specs.Lookup.{found_at, tried, ext_resolve_field}
use Rattle.sheet.proofs.Sheets.{file, message, extension}

-- ---- the sheets
abbrev options : String
options = "google.protobuf.FieldOptions"

abbrev google : List ℕ
google = file "google.protobuf" (message "FieldOptions" [] ++ message "MessageOptions" [])

-- "Package plant has `rank` 50001 (uint32) and message Dispatch with its own `rank` 50002, both on FieldOptions."
abbrev ranks : List ℕ
ranks = file "plant" (extension "rank" options 50001 ++ message "Dispatch" (extension "rank" options 50002)) ++ google

-- "Inner `rank` on MessageOptions"
abbrev otherwise : List ℕ
otherwise =
    file "plant" (extension "rank" options 50001 ++ message "Dispatch" (extension "rank" "google.protobuf.MessageOptions" 50002)) ++ google

-- "No `rank`"
abbrev rankless : List ℕ
rankless = file "plant" (message "Dispatch" []) ++ google

-- "File 1, package a.b, `x` 101; file 2, package a, message b with `x` 102"
abbrev crossed : List ℕ
crossed = file "a.b" (extension "x" options 101) ++ file "a" (message "b" (extension "x" options 102)) ++ google

-- ---- what the search for an option on FieldOptions answers: the position of the candidate that answers and its extension's number, which
-- may extend another message, or the reply's number
data Reply : Type 0 where
  found : (position number : ℕ) → Reply
  other : (position number : ℕ) → Reply
  refused : ℕ → Reply

abbrev reply : Result Compared Refusal → Reply
reply (Ok (Extends c)) = found c.position c.found.declaration.shape.number
reply (Ok (ExtendsOther c)) = other c.position c.found.declaration.shape.number
reply (Err w) = refused (number w)

record Example : Type 0 where
  sheet : List ℕ
  scope : String
  name : String
  says : Reply

abbrev example : List ℕ → String → String → Reply → Example
example s scope name says = record { sheet = s; scope = scope; name = name; says = says }

answer : Example → Reply
unfolding ext_resolve_field tried found_at scopes candidates ancestors components split on_first
    spell is_abs rootless parent last same_bytes tree_of file_in items_in item_in value_in extension_at message_field_at value_at
    shape_at type_path_at has_type_path walk_by leaf_at field_at big_at
answer x = reply (ext_resolve_field x.sheet (ascii x.scope) (ascii options) (ascii x.name))

-- P2 the inner rank; P3 the leading dot; P4 an undeclared scope; P5 a wrong extendee ends the search; P6 no rank; P7 fewest package
-- components first
abbrev p2-to-p7 : List Example
p2-to-p7 =
    example ranks "plant.Dispatch" "rank" (found 0 50002)
    ∷ example ranks "plant.Dispatch" ".plant.rank" (found 0 50001)
    ∷ example ranks "plant.Other" "rank" (found 1 50001)
    ∷ example otherwise "plant.Dispatch" "rank" (other 0 50002)
    ∷ example rankless "plant.Dispatch" "rank" (refused 4)
    ∷ example crossed "" ".a.b.x" (found 0 102)
    ∷ []

table : map answer p2-to-p7 ≡ map (λ x. x.says) p2-to-p7
unfolding answer
table = refl
