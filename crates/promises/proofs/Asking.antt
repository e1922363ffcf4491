-- What the examples ask of the definitions: the bytes of a request, Absent, or the reply's number, second word and place.
-- Assumes nothing.
use Rattle.std.specs.Prelude.{List, ℕ}
use lib.Ieee.{span, climb, size, odd, units, round, of_int, of_fields, of_bits, nan_bits, to_bits}
use Rattle.reply.specs.Reply.{number, second}
use Rattle.reply.specs.declared.Where.{Where}
use Rattle.lookups.specs.Lookups.{walking}
use Rattle.octets.specs.Octets.{same_bytes, big_at}
use Rattle.field.specs.Field.{field_at}
use Rattle.field.specs.Leaf.{leaf_at}
use Rattle.field.specs.Walk.{walk_by}
use Rattle.ident.specs.Ident.{is_letter, is_digit, all_word, is_ident}
use Rattle.path.specs.Path.{on_first, split, components, spell, all_ident, is_rel_path, is_rel_or_empty, is_abs, rootless, is_path}
use Rattle.path.specs.Path.{parent, last}
use Rattle.candidates.specs.Candidates.{ancestors, candidates}
use Rattle.sheet.specs.Declaration.{has_type_path, type_path_at, shape_at, extension_at, message_field_at, value_at}
use Rattle.sheet.specs.Tree.{value_in, item_in, items_in, file_in, tree_of}
use Rattle.request.specs.Constant.{integer_of, float_of, bool_of, numeric_of, constant_of, is_pair_name}
use Rattle.request.specs.Name.{part_of, part_at}
use Rattle.request.specs.Request.{heading_of, option_of, option_in, request_of}
use Rattle.scopes.specs.Scopes.{scopes}
use Rattle.fullname.specs.FullName.{messages_at, enums_at}
use Rattle.search.specs.Lookup.{found_at, tried, ext_resolve_field}
use Rattle.types.specs.Types.{wire_of}
use Rattle.varint.specs.Varint.{varint_within, varint}
use Rattle.wire.specs.Fixed.{little_of}
use Rattle.wire.specs.Numbers.{zigzag_of, low32_of, widen32_of}
use Rattle.utf8.specs.Utf8.{is_scalar, utf8, point_of, stands, lead_of, utf8_from, is_utf8}
use Rattle.round.specs.Rounding.{int_bits, narrow, narrow_bits}
use Rattle.records.specs.Records.{payload, head_of, encode}
use Rattle.scalars.specs.Scalars.{is_small, is_signed, is_integer, most_of, pattern_of, integer_on, float_on, string_on, bool_on, ident_on}
use Rattle.scalars.specs.Scalars.{scalar_on}
use Rattle.values.specs.Values.{scalar_made}
use Rattle.steps.specs.Steps.{step_of}
use Rattle.builtins.specs.Builtins.{is_skipped, builtin_of}
use Rattle.options.specs.Settle.{settle}
use Rattle.options.specs.Steps.{Steps, records, absent as none, refused as refused_for, steps_of}
use Rattle.options.specs.Resolve.{resolving_by, resolving}
use Rattle.declform.specs.Declarations.{good_type_path, good_shape, good_field, is_field, is_extension, is_value}
use Rattle.messageform.specs.Form.{judge_value, judge_enum, judge_item, judge_items}
use Rattle.sheetform.specs.Form.{judge_file, judge_files, judge_length, judge_sheet}
use Rattle.constantform.specs.Form.{judge_elements, judge_pairs}
use Rattle.constantform.specs.Leaves.{is_constant, is_bool, is_url, good_scalar, good_pair_name, good_part}
use Rattle.optionform.specs.Form.{judge_last, judge_option}
use Rattle.requestform.specs.Form.{judge_options, judge_request}

pub data Says : Type 0 where
  bytes : List ℕ → Says
  absent : Says
  refused : (reply second : ℕ) → Where → Says

pub record Example : Type 0 where
  pub sheet : List ℕ
  pub request : List ℕ
  pub says : Says

abbrev pub asks : (sheet request : List ℕ) → Says → Example
asks s r a = record { sheet = s; request = r; says = a }

abbrev pub says_of : Steps → Says
says_of (records x) = bytes (encode x)
says_of none = absent
says_of (refused_for e) = refused (number e.why) (second e.why) e.place

-- of any bytes, by the steps alone
unfoldable pub stepped : Example → Says
unfolding same_bytes big_at field_at leaf_at walk_by on_first split components spell is_abs rootless parent last ancestors candidates has_type_path
    type_path_at shape_at extension_at message_field_at value_at value_in item_in items_in file_in tree_of integer_of float_of bool_of numeric_of constant_of
    is_pair_name part_of heading_of option_of option_in request_of scopes messages_at enums_at found_at tried ext_resolve_field wire_of varint_within
    varint little_of zigzag_of low32_of widen32_of is_scalar utf8 point_of stands lead_of utf8_from is_utf8 int_bits narrow narrow_bits payload head_of
    encode is_small is_signed is_integer most_of pattern_of integer_on float_on string_on bool_on ident_on scalar_on scalar_made step_of is_skipped
    builtin_of settle steps_of span climb size odd units round of_int of_fields of_bits nan_bits to_bits
stepped x = says_of (steps_of (walking x.sheet) x.sheet x.request)

-- of the call: the tests of form, then the steps
unfoldable pub answer : Example → Says
unfolding same_bytes big_at field_at leaf_at walk_by is_letter is_digit all_word is_ident on_first split components spell all_ident is_rel_path
    is_rel_or_empty is_abs rootless is_path parent last ancestors candidates has_type_path type_path_at shape_at extension_at message_field_at value_at
    value_in item_in items_in file_in tree_of integer_of float_of bool_of numeric_of constant_of is_pair_name part_of part_at heading_of option_of option_in
    request_of scopes messages_at enums_at found_at tried ext_resolve_field wire_of varint_within varint little_of zigzag_of low32_of widen32_of
    is_scalar utf8 point_of stands lead_of utf8_from is_utf8 int_bits narrow narrow_bits payload head_of encode is_small is_signed is_integer most_of
    pattern_of integer_on float_on string_on bool_on ident_on scalar_on scalar_made step_of is_skipped builtin_of settle steps_of resolving_by span climb
    size odd units round of_int of_fields of_bits nan_bits to_bits good_type_path good_shape good_field is_field is_extension is_value judge_value
    judge_enum judge_item judge_items judge_file judge_files judge_length judge_sheet judge_elements judge_pairs is_constant is_bool is_url good_scalar
    good_pair_name good_part judge_last judge_option judge_options judge_request
answer x = says_of (resolving x.sheet x.request)
