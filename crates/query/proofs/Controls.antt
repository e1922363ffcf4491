-- Closed cases of the value query, which the checker computes: of each rule one that holds, one at the limit, one refused. What is expected
-- comes from compare/options_reader.py, a second implementation of 01; where it is refused, from 02's [9], by hand: at the part, counted
-- from 0, that the steps refuse; 6, and 7 and 8 of parts left, at the part whose declaration has that type; any other refusal nowhere.
-- Assumes nothing.
use Rattle.std.specs.Prelude.{◌≡◌, refl, List, [], ◌∷◌, ◌++◌, map, ℕ, zero, suc, ◌*◌}
use lib.ListN.{replicate}
use Prim.Native.String.{String}
use Rattle.octets.specs.Octets.{big_at, same_bytes}
use Rattle.octets.specs.Ascii.{ascii}
use Rattle.ident.specs.Ident.{is_letter, is_digit, all_word, is_ident}
use Rattle.path.specs.Path.{on_first, split, components, all_ident, is_rel_path, is_rel_or_empty, spell, is_abs, rootless, is_path, parent, last}
use Rattle.candidates.specs.Candidates.{ancestors, candidates}
use Rattle.reply.specs.declared.Refusal.TheVariants.{NoRoom}
use Rattle.reply.specs.declared.Where.{Where}
use Rattle.reply.specs.declared.Where.TheVariants.{Nowhere, Part}
use Rattle.reply.specs.Reply.{number}
use Rattle.reply.specs.Outcome.{Outcome, refused as refused_for, nothing, give, refuse, within}
use Rattle.field.specs.Field.{field_at}
use Rattle.field.specs.Leaf.{leaf_at}
use Rattle.field.specs.Walk.{walk_by}
use Rattle.types.specs.Types.{wire_of}
use Rattle.varint.specs.Varint.{read_within, read_varint}
use Rattle.wire.specs.Tag.{tag_good}
use Rattle.wire.specs.Numbers.{low32_of, widen32_of}
use Rattle.payloads.specs.Extent.{payload_at}
use Rattle.payloads.specs.Value.{said, value_of}
use Rattle.sheet.specs.Table.{extension_tag, field_tag, name_tag, extendee_tag, number_tag, type_tag, label_tag, type_path_tag}
use Rattle.sheet.specs.Declaration.{has_type_path, type_path_at, shape_at, extension_at, message_field_at, value_at}
use Rattle.sheet.specs.Tree.{value_in, item_in, items_in, file_in, tree_of}
use Rattle.declform.specs.Declarations.{good_type_path, good_shape, good_field, is_field, is_extension, is_value}
use Rattle.messageform.specs.Form.{judge_value, judge_enum, judge_item, judge_items}
use Rattle.sheetform.specs.Form.{judge_file, judge_files, judge_length, judge_sheet}
use Rattle.request.specs.Table.{direct_part_tag, extension_part_tag}
use Rattle.request.specs.Name.{part_of}
use Rattle.constantform.specs.Leaves.{good_part}
use Rattle.requestform.specs.Form.{judge_options_type, judge_name}
use Rattle.scopes.specs.Scopes.{scopes}
use Rattle.sheet.proofs.Sheets.{tagged, four, file, message}
use Rattle.numbers.specs.Number.{declaration_of}
use Rattle.fullname.specs.FullName.{messages_at}
use Rattle.search.specs.Lookup.{found_at, tried, ext_resolve_field}
use Rattle.lookups.specs.Lookups.{walking}
use Rattle.steps.specs.Steps.{step_of}
use Rattle.entries.specs.Item.{item}
use Rattle.entries.specs.Reading.{records_from, reading, records_of}
use Rattle.payload.specs.Payload.{judge_bytes}
use Rattle.following.specs.Reached.{never}
use Rattle.query.specs.Query.{query_of, judge_inputs, query_by, query}

-- ---- the sheets, small ones, since every look-up walks over all of its sheet
abbrev typed : (number typ : ℕ) → List ℕ
typed k t = tagged number_tag (four k) ++ tagged type_tag (t ∷ []) ++ tagged label_tag (1 ∷ [])

abbrev field : String → (number typ : ℕ) → List ℕ → List ℕ
field n k t path = tagged field_tag (tagged name_tag (ascii n) ++ typed k t ++ path)

abbrev extension : String → String → (number typ : ℕ) → List ℕ → List ℕ
extension n m k t path = tagged extension_tag (tagged name_tag (ascii n) ++ tagged extendee_tag (ascii m) ++ typed k t ++ path)

abbrev to : String → List ℕ
to path = tagged type_path_tag (ascii path)

-- in the package o: a message F of the fields n = 1, a string, and b = 3, a bool; a message M of v = 1, an int32, and i = 2, an M; the
-- extensions m = 10 of F, an M, k = 14, an int32, n = 1, a string, g = 21, a group, and x = 4 of M, an M
abbrev held : List ℕ
held =
    file "o" (message "F" (field "n" 1 9 [] ++ field "b" 3 8 []) ++ message "M" (field "v" 1 5 [] ++ field "i" 2 11 (to "o.M"))
    ++ extension "m" "o.F" 10 11 (to "o.M") ++ extension "k" "o.F" 14 5 [] ++ extension "n" "o.F" 1 9 []
    ++ extension "g" "o.F" 21 10 (to "o.M") ++ extension "x" "o.M" 4 11 (to "o.M"))

-- two messages T
abbrev twins : List ℕ
twins = file "o" (message "T" []) ++ file "o" (message "T" [])

-- likewise, and the extensions l = 11 of F and y = 5 of M, whose type paths name nothing, and t = 22 of F, whose names two messages
abbrev lacking : List ℕ
lacking =
    file "o" (message "F" (field "b" 3 8 []) ++ message "M" (field "v" 1 5 []) ++ extension "m" "o.F" 10 11 (to "o.M")
    ++ extension "k" "o.F" 14 5 [] ++ extension "l" "o.F" 11 11 (to "o.N") ++ extension "t" "o.F" 22 11 (to "o.T")
    ++ extension "x" "o.M" 4 11 (to "o.M") ++ extension "y" "o.M" 5 11 (to "o.N"))
    ++ twins

abbrev flags : List ℕ
flags = file "o" (message "F" (field "b" 3 8 [])) ++ twins

abbrev nesting : List ℕ
nesting = file "o" (message "F" [] ++ message "M" (field "i" 2 11 (to "o.M")) ++ extension "m" "o.F" 10 11 (to "o.M"))

-- ---- a name as in 08
abbrev direct : String → List ℕ
direct n = tagged direct_part_tag (ascii n)

abbrev ext : String → List ℕ
ext n = tagged extension_part_tag (ascii n)

-- ---- what is said: the words, Absent, or the reply's number and where
data Says : Type 0 where
  gives : List ℕ → Says
  absent : Says
  refused : (reply : ℕ) → Where → Says

abbrev says_of : Outcome ℕ → Says
says_of (give ws) = gives ws
says_of nothing = absent
says_of (refused_for c) = refused (number c.why) c.place

abbrev r : (level number typ wire place size low high : ℕ) → Says
r l n t w p k a b = gives (l ∷ n ∷ t ∷ w ∷ p ∷ k ∷ a ∷ b ∷ [])

record Case : Type 0 where
  pub name : List ℕ
  pub bytes : List ℕ
  pub says : Says

abbrev asks : List ℕ → List ℕ → Says → Case
asks q bs a = record { name = q; bytes = bs; says = a }

-- under the options type o.F, the forms of the inputs not being judged
answer_of : List ℕ → Case → Says
unfolding query_of records_of reading records_from item payload_at said value_of declaration_of read_varint read_within tag_good low32_of widen32_of
    wire_of same_bytes tree_of file_in items_in item_in value_in extension_at message_field_at value_at shape_at type_path_at has_type_path leaf_at walk_by
    field_at big_at components split on_first spell is_abs rootless parent last ancestors candidates messages_at scopes found_at tried
    ext_resolve_field step_of part_of
answer_of s c = says_of (query_of never (walking s) s (ascii "o.F") c.name c.bytes)

-- [QUERY-4, QUERY-5, QUERY-6]
abbrev followed : List Case
followed =
    -- the last of two records
    asks (ext ".o.k") (0x70 ∷ 1 ∷ 0x70 ∷ 2 ∷ 0x18 ∷ 1 ∷ []) (r 0 14 5 0 3 1 2 0)
    -- the last record in the last of two messages; where that has none, Absent
    ∷ asks (ext ".o.m" ++ direct "v") (0x52 ∷ 2 ∷ 8 ∷ 1 ∷ 0x52 ∷ 4 ∷ 8 ∷ 2 ∷ 8 ∷ 3 ∷ 0x18 ∷ 1 ∷ []) (r 1 1 5 0 9 1 3 0)
    ∷ asks (ext "o.m" ++ direct "v") (0x52 ∷ 2 ∷ 8 ∷ 1 ∷ 0x52 ∷ 0 ∷ []) absent
    -- a level deeper, by a field and by an extension; a message's own row
    ∷ asks (ext "o.m" ++ direct "i" ++ direct "v") (0x52 ∷ 8 ∷ 0x12 ∷ 0 ∷ 8 ∷ 2 ∷ 0x12 ∷ 2 ∷ 8 ∷ 7 ∷ 0x70 ∷ 1 ∷ []) (r 2 1 5 0 9 1 7 0)
    ∷ asks (ext "o.m" ++ ext "o.x" ++ direct "v") (0x52 ∷ 6 ∷ 0x22 ∷ 4 ∷ 8 ∷ 5 ∷ 8 ∷ 9 ∷ []) (r 2 1 5 0 7 1 9 0)
    ∷ asks (ext "o.m") (0x52 ∷ 0 ∷ 0x52 ∷ 2 ∷ 8 ∷ 1 ∷ 0x70 ∷ 1 ∷ []) (r 0 10 11 2 4 2 0 0)
    -- the field of a number lists it, so the extension of that number has no record
    ∷ asks (direct "n") (0x0A ∷ 2 ∷ 104 ∷ 105 ∷ []) (r 0 1 9 2 2 2 0 0)
    ∷ asks (ext "o.n") (0x0A ∷ 2 ∷ 104 ∷ 105 ∷ []) absent
    -- no record; parts left on a group, the rest unread
    ∷ asks (direct "b") [] absent
    ∷ asks (ext "o.g" ++ direct "zz") (0x18 ∷ 1 ∷ []) absent
    ∷ asks (ext "o.g") (0x18 ∷ 1 ∷ []) absent
    ∷ []

followed-are : map (answer_of held) followed ≡ map (λ c. c.says) followed
unfolding answer_of
followed-are = refl

-- [QUERY-3], whatever the bytes hold; and these first
abbrev named : List Case
named =
    -- 9: no such field, an extension's name as a direct part, a part inside
    asks (direct "q") (0x18 ∷ 1 ∷ []) (refused 9 (Part 0))
    ∷ asks (direct "m") (0x52 ∷ 0 ∷ []) (refused 9 (Part 0))
    ∷ asks (ext "o.m" ++ direct "w") (0x18 ∷ 1 ∷ []) (refused 9 (Part 1))
    -- 4, from an empty scope; 5; each of the first part and of one inside
    ∷ asks (ext "k") (0x70 ∷ 1 ∷ []) (refused 4 (Part 0))
    ∷ asks (ext "o.m" ++ ext "x") [] (refused 4 (Part 1))
    ∷ asks (ext "o.x") [] (refused 5 (Part 0))
    ∷ asks (ext "o.m" ++ ext "o.k") [] (refused 5 (Part 1))
    -- 6; 7 and 8 of parts left, and not of the last part: of the part that they are left on
    ∷ asks (direct "b" ++ direct "v") [] (refused 6 (Part 0))
    ∷ asks (ext "o.m" ++ direct "v" ++ direct "v") [] (refused 6 (Part 1))
    ∷ asks (ext "o.l" ++ direct "v") [] (refused 7 (Part 0))
    ∷ asks (ext "o.m" ++ ext "o.y" ++ direct "v") [] (refused 7 (Part 1))
    ∷ asks (ext "o.t" ++ direct "v") [] (refused 8 (Part 0))
    ∷ asks (ext "o.l") [] absent
    -- 18, and 7 of a record's type path, before the name
    ∷ asks (direct "q") (0x18 ∷ []) (refused 18 Nowhere)
    ∷ asks (direct "b") (0x18 ∷ 1 ∷ 0x5A ∷ 0 ∷ []) (refused 7 Nowhere)
    ∷ []

named-are : map (answer_of lacking) named ≡ map (λ c. c.says) named
unfolding answer_of
named-are = refl

-- ---- the whole call
record Call : Type 0 where
  pub sheet : List ℕ
  pub type : String
  pub name : List ℕ
  pub bytes : List ℕ

abbrev calls : List ℕ → String → List ℕ → List ℕ → Call
calls s t q bs = record { sheet = s; type = t; name = q; bytes = bs }

outcome_of : Call → Outcome ℕ
unfolding query_by judge_inputs judge_options_type judge_name judge_bytes query_of records_of reading records_from item payload_at said value_of
    declaration_of read_varint read_within tag_good low32_of widen32_of wire_of same_bytes tree_of file_in items_in item_in value_in judge_sheet
    judge_length judge_files judge_file judge_items judge_item judge_enum judge_value is_extension is_field is_value good_field good_shape good_type_path
    extension_at message_field_at value_at shape_at type_path_at has_type_path leaf_at walk_by field_at big_at is_rel_or_empty is_rel_path is_path good_part
    all_ident components split on_first spell is_abs rootless parent last is_ident is_letter is_digit all_word ancestors candidates messages_at
    scopes found_at tried ext_resolve_field step_of part_of
outcome_of c = query c.sheet (ascii c.type) c.name c.bytes

-- so many messages, each inside the one before, and the parts that lead to the innermost
abbrev nest : ℕ → List ℕ
nest zero = []
nest (suc k) = 0x12 ∷ 2 * k ∷ nest k

abbrev inner : ℕ → List ℕ
inner zero = []
inner (suc k) = direct "i" ++ inner k

-- [QUERY-2]: a cut sheet; an options type that is no path; a name of no part, and one whose second part is no name; over-long bytes, and not
-- ones at the limit; an options type that is not found, and one that is found twice; bytes that cannot be read; the name
faults :
    map (λ c. says_of (outcome_of c))
    (calls (flags ++ 1 ∷ []) "o..F" [] (replicate 65537 0)
    ∷ calls flags "o..F" [] (replicate 65537 0)
    ∷ calls flags "o.G" [] (replicate 65537 0)
    ∷ calls flags "o.G" (direct "q" ++ direct "1") (replicate 65537 0)
    ∷ calls flags "o.G" (direct "q") (replicate 65537 0)
    ∷ calls flags "o.G" (direct "q") (replicate 65536 0)
    ∷ calls flags "o.T" (direct "q") (255 ∷ [])
    ∷ calls flags "o.F" (direct "q") (255 ∷ [])
    ∷ calls flags "o.F" (direct "q") (0x18 ∷ 1 ∷ [])
    ∷ [])
    ≡ refused 1 Nowhere
    ∷ refused 2 Nowhere
    ∷ refused 2 Nowhere
    ∷ refused 2 Nowhere
    ∷ refused 3 Nowhere
    ∷ refused 7 Nowhere
    ∷ refused 8 Nowhere
    ∷ refused 18 Nowhere
    ∷ refused 9 (Part 0)
    ∷ []
unfolding outcome_of
faults = refl

-- 16 parts are taken, and 17 are not; the last of 16 refused
parts-limit :
    map (λ c. says_of (outcome_of c))
    (calls nesting "o.F" (ext "o.m" ++ inner 15) (0x52 ∷ 30 ∷ nest 15)
    ∷ calls nesting "o.F" (ext "o.m" ++ inner 16) (0x52 ∷ 32 ∷ nest 16)
    ∷ calls nesting "o.F" (ext "o.m" ++ inner 14 ++ direct "v") []
    ∷ [])
    ≡ r 15 2 11 2 32 0 0 0 ∷ refused 3 Nowhere ∷ refused 9 (Part 15) ∷ []
unfolding outcome_of
parts-limit = refl

-- room last: for eight words, and for one fewer
abbrev eight : List ℕ
eight = 0 ∷ 3 ∷ 8 ∷ 0 ∷ 1 ∷ 1 ∷ 1 ∷ 0 ∷ []

in-room : map (λ (room : ℕ). within room (outcome_of (calls flags "o.F" (direct "b") (0x18 ∷ 1 ∷ [])))) (8 ∷ 7 ∷ [])
    ≡ give eight ∷ refuse NoRoom ∷ []
unfolding outcome_of
in-room = refl
