-- Closed cases of the whole call `list`, which the checker computes: the first fault of each input in its order, then the look-up of the
-- options type, the words of the records, and room last.
-- Assumes nothing.
use Rattle.std.specs.Prelude.{◌≡◌, refl, List, [], ◌∷◌, ◌++◌, map, ℕ}
use lib.ListN.{replicate}
use Prim.Native.String.{String}
use Rattle.octets.specs.Octets.{big_at, same_bytes}
use Rattle.octets.specs.Ascii.{ascii}
use Rattle.ident.specs.Ident.{is_letter, is_digit, all_word, is_ident}
use Rattle.path.specs.Path.{on_first, split, components, all_ident, is_rel_path, is_rel_or_empty, spell}
use Rattle.reply.specs.declared.Refusal.TheVariants.{NoRoom}
use Rattle.reply.specs.Reply.{number}
use Rattle.reply.specs.Outcome.{Outcome, refused, nothing, give, refuse, within}
use Rattle.field.specs.Field.{field_at}
use Rattle.field.specs.Leaf.{leaf_at}
use Rattle.field.specs.Walk.{walk_by}
use Rattle.types.specs.Types.{wire_of}
use Rattle.varint.specs.Varint.{read_within, read_varint}
use Rattle.wire.specs.Tag.{tag_good}
use Rattle.wire.specs.Numbers.{unzigzag_of, low32_of, widen32_of}
use Rattle.payloads.specs.Extent.{payload_at}
use Rattle.payloads.specs.Value.{said, value_of}
use Rattle.sheet.specs.Table.{file_tag, message_tag, extension_tag, field_tag, package_tag, extendee_tag, number_tag, type_tag, label_tag}
use Rattle.sheet.specs.Table.{type_path_tag}
use Rattle.sheet.specs.Declaration.{has_type_path, type_path_at, shape_at, extension_at, message_field_at, value_at}
use Rattle.sheet.specs.Tree.{value_in, item_in, items_in, file_in, tree_of}
use Rattle.declform.specs.Declarations.{good_type_path, good_shape, good_field, is_field, is_extension, is_value}
use Rattle.messageform.specs.Form.{judge_value, judge_enum, judge_item, judge_items}
use Rattle.sheetform.specs.Form.{judge_file, judge_files, judge_length, judge_sheet}
use Rattle.requestform.specs.Form.{judge_options_type}
use Rattle.scope.proofs.Sample.{a_field, of_name}
use Rattle.scopes.specs.Scopes.{scopes}
use Rattle.numbers.specs.Number.{declaration_of}
use Rattle.fullname.specs.FullName.{messages_at}
use Rattle.entries.specs.Item.{item}
use Rattle.payload.specs.Payload.{judge_bytes}
use Rattle.entries.specs.Reading.{records_from, reading, records_of}
use Rattle.listing.specs.Listing.{judge_inputs, listing_by, listing}

-- ---- in the package o a message F with the field f = 1, a string, a message M with the field f = 1, an int32, and the extension x = 10 of F, an
-- M; in two files of it a message T
abbrev typed : (number typ : ℕ) → List ℕ
typed k t = a_field number_tag (0 ∷ 0 ∷ 0 ∷ k ∷ []) ++ a_field type_tag (t ∷ []) ++ a_field label_tag (1 ∷ [])

abbrev file : List ℕ → List ℕ
file body = a_field file_tag (a_field package_tag (ascii "o") ++ body)

abbrev sheet : List ℕ
sheet =
    file (of_name message_tag 70 (of_name field_tag 102 (typed 1 9)) ++ of_name message_tag 77 (of_name field_tag 102 (typed 1 5))
    ++ of_name extension_tag 120 (a_field extendee_tag (ascii "o.F") ++ typed 10 11 ++ a_field type_path_tag (ascii "o.M")))
    ++ file (of_name message_tag 84 []) ++ file (of_name message_tag 84 [])

-- ---- what is said: the words, or the reply's number
data Says : Type 0 where
  gives : List ℕ → Says
  refused_by : (reply : ℕ) → Says
  absent : Says

abbrev says_of : Outcome ℕ → Says
says_of (give ws) = gives ws
says_of nothing = absent
says_of (refused c) = refused_by (number c.why)

record Case : Type 0 where
  pub sheet : List ℕ
  pub type : String
  pub bytes : List ℕ

abbrev lists : List ℕ → String → List ℕ → Case
lists s t bs = record { sheet = s; type = t; bytes = bs }

listing_of : Case → Outcome ℕ
unfolding listing_by judge_inputs judge_options_type judge_bytes records_of reading records_from item payload_at said value_of declaration_of read_varint
    read_within tag_good unzigzag_of low32_of widen32_of wire_of same_bytes tree_of file_in items_in item_in value_in judge_sheet judge_length judge_files
    judge_file judge_items judge_item judge_enum judge_value is_extension is_field is_value good_field good_shape good_type_path extension_at message_field_at
    value_at shape_at type_path_at has_type_path leaf_at walk_by field_at big_at is_rel_or_empty is_rel_path all_ident components split on_first spell is_ident
    is_letter is_digit all_word messages_at scopes
listing_of c = listing c.sheet (ascii c.type) c.bytes

-- a cut sheet before all else; an options type that is no path before over-long bytes; those before an options type that is not found, and
-- one that is found twice, before bytes that cannot be read
faults :
    map (λ (c : Case). says_of (listing_of c))
    (lists (sheet ++ 1 ∷ []) "o..F" (replicate 65537 0)
    ∷ lists sheet "o..F" (replicate 65537 0)
    ∷ lists sheet "o.G" (replicate 65537 0)
    ∷ lists sheet "o.G" (255 ∷ [])
    ∷ lists sheet "o.T" (255 ∷ [])
    ∷ lists sheet "o.F" (255 ∷ [])
    ∷ [])
    ≡ refused_by 1 ∷ refused_by 2 ∷ refused_by 3 ∷ refused_by 7 ∷ refused_by 8 ∷ refused_by 18 ∷ []
unfolding listing_of
faults = refl

-- a string, and a message with what it holds
abbrev words : List ℕ
words =
    (0 ∷ 1 ∷ 9 ∷ 2 ∷ 2 ∷ 2 ∷ 0 ∷ 0 ∷ [])
    ++ (0 ∷ 10 ∷ 11 ∷ 2 ∷ 6 ∷ 2 ∷ 0 ∷ 0 ∷ [])
    ++ (1 ∷ 1 ∷ 5 ∷ 0 ∷ 7 ∷ 1 ∷ 5 ∷ 0 ∷ [])

listed : listing_of (lists sheet "o.F" (0x0A ∷ 2 ∷ 104 ∷ 105 ∷ 0x52 ∷ 2 ∷ 8 ∷ 5 ∷ [])) ≡ give words
unfolding listing_of
listed = refl

-- room last: for 24 words, and for one fewer
in-room : map (λ (room : ℕ). within room (give words)) (24 ∷ 23 ∷ []) ≡ give words ∷ refuse NoRoom ∷ []
in-room = refl

-- no bytes have no records
none : listing_of (lists sheet "o.F" []) ≡ give []
unfolding listing_of
none = refl
