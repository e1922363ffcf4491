-- Closed cases of what one part of a name comes to, with the fact behind a lack, which the checker computes.
-- Assumes nothing.
use Rattle.std.specs.Prelude.{◌≡◌, refl, Bool, true, false, List, [], ◌∷◌, ◌++◌, map, ℕ, length, Err, Ok, Result}
use Prim.Native.String.{String}
use Rattle.octets.specs.Octets.{same_bytes, big_at}
use Rattle.octets.specs.Ascii.{ascii}
use Rattle.reply.specs.Reply.{number}
use Rattle.field.specs.Field.{field_at}
use Rattle.field.specs.Leaf.{leaf_at}
use Rattle.field.specs.Walk.{walk_by}
use Rattle.path.specs.Path.{on_first, split, components, spell, is_abs, rootless, parent, last}
use Rattle.candidates.specs.Candidates.{ancestors, candidates}
use Rattle.sheet.specs.Declaration.{has_type_path, type_path_at, shape_at, extension_at, message_field_at, value_at}
use Rattle.sheet.specs.Tree.{value_in, item_in, items_in, file_in, tree_of}
use Rattle.scopes.specs.Scopes.{scopes}
use Rattle.sheet.proofs.Sheets.{file, message, extension, field}
use Rattle.fullname.specs.FullName.{messages_at}
use Rattle.search.specs.Lookup.{found_at, tried, ext_resolve_field}
use Rattle.request.specs.declared.name.Part.{Part}
use Rattle.lookups.specs.Lookups.{walking}
use Rattle.steps.specs.declared.Lack.TheVariants.{NoField, NoExtension, OtherMessage}
use Rattle.steps.specs.Steps.{step_of}
use Rattle.reply.specs.declared.Refusal.{Refusal}
use Rattle.scope.specs.declared.lookup.LookupScope.{LookupScope}
use Rattle.sheet.specs.declared.declaration.Declaration.{Declaration}
use Rattle.steps.specs.declared.Lack.{Lack}

-- ---- what a part comes to: the number of its declaration; no field; the reply's number; or the position of the candidate that answers and
-- the number of its extension, of another message. `nowhere` is for a sheet without the message of options
data Comes : Type 0 where
  found : (number : ℕ) → Comes
  no_field : Comes
  no_extension : (reply : ℕ) → Comes
  other : (position number : ℕ) → Comes
  nowhere : Comes

abbrev comes_to : Result Declaration Lack → Comes
comes_to (Ok d) = found d.shape.number
comes_to (Err NoField) = no_field
comes_to (Err (NoExtension w)) = no_extension (number w)
comes_to (Err (OtherMessage c)) = other c.position c.found.declaration.shape.number

-- ---- the parts, in the message o.F and from its scope
abbrev sheet : List ℕ
sheet = file "o" (message "F" (field "flag" 3) ++ message "M" [] ++ extension "x" "o.F" 1 ++ extension "y" "o.M" 2)

record Case : Type 0 where
  searched : Bool
  name : String
  says : Comes

abbrev direct : String → Comes → Case
direct name says = record { searched = false; name = name; says = says }

abbrev ext : String → Comes → Case
ext name says = record { searched = true; name = name; says = says }

abbrev part : Case → Part
part x = record { extension = x.searched; name = record { from = 0; to = length (ascii x.name) } }

abbrev in_message : Result LookupScope Refusal → Case → Comes
in_message (Err w) x = nowhere
in_message (Ok p) x =
    comes_to (step_of (walking sheet) sheet (ascii x.name) (ascii "o.F") (record { name = ascii "o.F"; place = p }) (part x))

answer : Case → Comes
unfolding same_bytes big_at field_at leaf_at walk_by on_first split components spell is_abs rootless parent last ancestors candidates has_type_path
    type_path_at shape_at extension_at message_field_at value_at value_in item_in items_in file_in tree_of scopes messages_at found_at tried
    ext_resolve_field step_of
answer x = in_message ((walking sheet).message (ascii "o.F")) x

-- a part sees its own kind alone; of y the first candidate, o.F.y, is empty, and the second answers
abbrev cases : List Case
cases =
    ext "x" (found 1)
    ∷ direct "flag" (found 3)
    ∷ direct "x" no_field
    ∷ ext "flag" (no_extension 4)
    ∷ ext "y" (other 1 2)
    ∷ []

table : map answer cases ≡ map (λ x. x.says) cases
unfolding answer
table = refl
