-- Closed cases of a name's declarations, which the checker computes: parts that all have one, parts left on a group, and a part that is
-- refused, where 02's [9] has it, by hand: counted from 0 and from the front, and of no option. `query` has more of them, in whole calls.
-- Assumes nothing.
use Rattle.std.specs.Prelude.{◌≡◌, refl, List, [], ◌∷◌, ◌++◌, map, ℕ, length}
use Prim.Native.String.{String}
use Rattle.octets.specs.Octets.{big_at, same_bytes}
use Rattle.octets.specs.Ascii.{ascii}
use Rattle.path.specs.Path.{on_first, split, components, spell, is_abs, rootless, parent, last}
use Rattle.candidates.specs.Candidates.{ancestors, candidates}
use Rattle.reply.specs.Reply.{number, positions}
use Rattle.field.specs.Field.{field_at}
use Rattle.field.specs.Leaf.{leaf_at}
use Rattle.field.specs.Walk.{walk_by, walk}
use Rattle.sheet.specs.Declaration.{has_type_path, type_path_at, shape_at, extension_at, message_field_at, value_at}
use Rattle.sheet.specs.Tree.{value_in, item_in, items_in, file_in, tree_of}
use Rattle.sheet.proofs.Sheets.{tagged, file, message, extension_to, field_with}
use Rattle.request.specs.Table.{direct_part_tag, extension_part_tag}
use Rattle.request.specs.Name.{part_of, parts_in}
use Rattle.scopes.specs.Scopes.{scopes}
use Rattle.fullname.specs.FullName.{messages_at}
use Rattle.search.specs.Lookup.{found_at, tried, ext_resolve_field}
use Rattle.lookups.specs.Lookups.{walking}
use Rattle.steps.specs.Steps.{step_of}
use Rattle.naming.specs.Name.{Named, names, group, refused_at, of_part, on_message, declarations}

-- in the package o: a message F; a message M of v = 1, an int32, and i = 2, an M; the extensions m = 10 of F, an M, and g = 21, a group
abbrev kept : List ℕ
kept =
    file "o" (message "F" [] ++ message "M" (field_with 1 "v" 1 5 "" ++ field_with 1 "i" 2 11 "o.M") ++ extension_to "m" "o.F" 10 11 "o.M"
    ++ extension_to "g" "o.F" 21 10 "o.M")

abbrev direct : String → List ℕ
direct n = tagged direct_part_tag (ascii n)

abbrev ext : String → List ℕ
ext n = tagged extension_part_tag (ascii n)

-- what is said: the numbers of the declarations, that parts are left on a group, or the reply's number and the two positions
data Says : Type 0 where
  all : List ℕ → Says
  rest : Says
  refused : (reply option part : ℕ) → Says

abbrev says_of : Named → Says
says_of (names ds) = all (map (λ d. d.shape.number) ds)
says_of group = rest
says_of (refused_at i w) =
    refused (number (of_part i w).why) (positions (of_part i w).place).option (positions (of_part i w).place).part

-- from the message o.F on
named : List ℕ → Says
unfolding same_bytes tree_of file_in items_in item_in value_in extension_at message_field_at value_at shape_at type_path_at has_type_path leaf_at walk_by
    field_at big_at components split on_first spell is_abs rootless parent last ancestors candidates messages_at scopes found_at tried
    ext_resolve_field step_of part_of
named q =
    says_of (on_message 0 (ascii "o.F") ((walking kept).message (ascii "o.F")) λ m.
    declarations (walking kept) kept q 0 m (parts_in (walk q 0 (length q))))

-- [QUERY-3, WHERE-2]: of 9 the first part, the second of two and the third of three; of 6 the part that has that type
parts-named :
    map named
    ((ext "o.m" ++ direct "i" ++ direct "v")
    ∷ (ext "o.g" ++ direct "w")
    ∷ direct "w"
    ∷ (ext "o.m" ++ direct "w")
    ∷ (ext "o.m" ++ direct "i" ++ direct "w")
    ∷ (ext "o.m" ++ direct "v" ++ direct "w")
    ∷ [])
    ≡ all (10 ∷ 2 ∷ 1 ∷ []) ∷ rest ∷ refused 9 65535 0 ∷ refused 9 65535 1 ∷ refused 9 65535 2 ∷ refused 6 65535 1 ∷ []
unfolding named
parts-named = refl
