-- Closed cases, which the checker computes: records that one sheet types, as that sheet, an older and a still older one see them. Bytes and
-- words are those of compare/options_reader.py, a second implementation of 01.
-- Assumes nothing.
use Rattle.std.specs.Prelude.{◌≡◌, refl, true, List, [], ◌∷◌, ◌++◌, map, ℕ, ◌-◌, ◌^◌, ◌≤◌, length, Option, None, Some, Ok}
use Rattle.basis.specs.Kit.{sym, ap, ◌∙◌}
use Rattle.basis.proofs.Kit.{arith}
use mathlib.Core.Logic.{inl, inr}
use Rattle.octets.specs.Octets.{big_at, same_bytes}
use Rattle.octets.specs.Ascii.{ascii}
use Rattle.reply.specs.declared.Refusal.TheVariants.{BeyondLimit}
use Rattle.field.specs.Field.{field_at}
use Rattle.field.specs.Leaf.{span, leaf_at}
use Rattle.field.specs.Walk.{walk_by}
use Rattle.types.specs.Types.{wire_of, TYPE_FIXED32, TYPE_STRING, TYPE_MESSAGE, TYPE_SINT32}
use Rattle.varint.specs.Varint.{varint, varint_within, read_varint, read_within}
use Rattle.wire.specs.Tag.{tag_good}
use Rattle.wire.specs.Fixed.{little_of, little}
use Rattle.wire.specs.Numbers.{zigzag_of, unzigzag_of, low32_of}
use Rattle.payloads.specs.Extent.{payload_at}
use Rattle.payloads.specs.Value.{said, value_of}
use Rattle.sheet.specs.Table.{file_tag, message_tag, field_tag, package_tag, number_tag, type_tag, label_tag, type_path_tag}
use Rattle.sheet.specs.Declaration.{has_type_path, type_path_at, shape_at, extension_at, message_field_at, value_at}
use Rattle.sheet.specs.Tree.{value_in, item_in, items_in, file_in, tree_of}
use Rattle.sheet.specs.declared.declaration.Declaration.{Declaration}
use Rattle.scope.specs.declared.lookup.LookupScope.{LookupScope}
use Rattle.scope.proofs.Sample.{a_field, of_name, name_m}
use Rattle.numbers.specs.Number.{declaration_of}
use Rattle.lookups.specs.Lookups.{Lookups, Message, walking}
use Rattle.records.specs.Records.{Recs, nil, number, bytes, message, payload, head_of, encode}
use Rattle.records.specs.Raw.{Raw}
use Rattle.entries.specs.declared.Row.{Row}
use Rattle.entries.specs.Tree.{rows, words}
use Rattle.entries.specs.Item.{declared, item}
use Rattle.entries.specs.Reading.{Listed, listed, refused, records_from, reading}
use Rattle.readback.specs.Seen.{seen, nested}
use Rattle.payloads.specs.Value.{Fits}
use Rattle.readback.specs.Typed.{DeclaredAs, Typed, Content, contents}
use Rattle.readback.specs.Older.{told}
use Rattle.readback.specs.Encoded.{raws}
use Rattle.readback.specs.Rows.{First, Stand}

-- ---- a message M with fields of four types, with two of them, and with one; the look-ups find M under every path
abbrev typed : (number typ : ℕ) → List ℕ
typed k t = a_field number_tag (0 ∷ 0 ∷ 0 ∷ k ∷ []) ++ a_field type_tag (t ∷ []) ++ a_field label_tag (1 ∷ [])

abbrev a_sheet : List ℕ → List ℕ
a_sheet fields = a_field file_tag (a_field package_tag (112 ∷ []) ++ of_name message_tag 77 fields)

abbrev oldest : List ℕ
oldest = a_sheet (of_name field_tag 97 (typed 1 TYPE_SINT32))

abbrev older : List ℕ
older = a_sheet (of_name field_tag 97 (typed 1 TYPE_SINT32) ++ of_name field_tag 98 (typed 2 TYPE_MESSAGE ++ a_field type_path_tag name_m))

abbrev newer : List ℕ
newer =
    a_sheet (of_name field_tag 97 (typed 1 TYPE_SINT32) ++ of_name field_tag 98 (typed 2 TYPE_MESSAGE ++ a_field type_path_tag name_m)
    ++ of_name field_tag 99 (typed 3 TYPE_STRING) ++ of_name field_tag 100 (typed 4 TYPE_FIXED32))

abbrev place : List ℕ → LookupScope
place s = record { file = 0; message = true; body = span 14 (length s); left = 15 }

abbrev knowing : List ℕ → Lookups
knowing s = record {
  message = λ p. Ok (place s);
  enumeration = (walking s).enumeration;
  extension = (walking s).extension;
}

abbrev m : List ℕ → Message
m s = record { name = name_m; place = place s }

-- ---- the records: -2, two letters, a message with three records, the second an empty message, and 8
abbrev minus_two : ℕ
minus_two = 2 ^ 64 - 2

abbrev rs : Recs
rs =
    number 1 TYPE_SINT32 minus_two
    (bytes 3 TYPE_STRING (ascii "hi")
    (message 2 (number 1 TYPE_SINT32 1 (message 2 nil (number 4 TYPE_FIXED32 7 nil))) (number 4 TYPE_FIXED32 8 nil)))

-- what a sheet sees of them: the words of the rows
words_in : List ℕ → List (List ℕ)
unfolding encode head_of payload varint varint_within little_of zigzag_of wire_of said value_of read_varint read_within little unzigzag_of low32_of
    declaration_of same_bytes tree_of file_in items_in item_in value_in extension_at message_field_at value_at shape_at type_path_at has_type_path walk_by
    leaf_at field_at big_at
words_in s = map words (rows 0 (seen (knowing s) s (m s) rs 0))

abbrev r : (level number typ wire place size low high : ℕ) → List ℕ
r l n t w p k a b = l ∷ n ∷ t ∷ w ∷ p ∷ k ∷ a ∷ b ∷ []

by-newer : words_in newer
    ≡ r 0 1 17 0 1 1 4294967294 4294967295 ∷ r 0 3 9 2 4 2 0 0 ∷ r 0 2 11 2 8 9 0 0 ∷ r 1 1 17 0 9 1 1 0 ∷ r 1 2 11 2 12 0 0 0
    ∷ r 1 4 7 5 13 4 7 0 ∷ r 0 4 7 5 18 4 8 0 ∷ []
unfolding words_in
by-newer = refl

-- the numbers 3 and 4 are unknown
by-older : words_in older
    ≡ r 0 1 17 0 1 1 4294967294 4294967295 ∷ r 0 3 0 2 4 2 0 0 ∷ r 0 2 11 2 8 9 0 0 ∷ r 1 1 17 0 9 1 1 0 ∷ r 1 2 11 2 12 0 0 0
    ∷ r 1 4 0 5 13 4 0 0 ∷ r 0 4 0 5 18 4 0 0 ∷ []
unfolding words_in
by-older = refl

-- the number 2 too, and what it holds is not entered
by-oldest : words_in oldest ≡ r 0 1 17 0 1 1 4294967294 4294967295 ∷ r 0 3 0 2 4 2 0 0 ∷ r 0 2 0 2 8 9 0 0 ∷ r 0 4 0 5 18 4 0 0 ∷ []
unfolding words_in
by-oldest = refl

-- ---- what the records say
abbrev says : (level number typ value : ℕ) → List ℕ → Content
says l n t v bs = record { level = l; number = n; typ = t; value = v; payload = bs }

tell : contents 0 rs
    ≡ says 0 1 17 minus_two (3 ∷ []) ∷ says 0 3 9 0 (ascii "hi") ∷ says 0 2 11 0 (8 ∷ 2 ∷ 18 ∷ 0 ∷ 37 ∷ 7 ∷ 0 ∷ 0 ∷ 0 ∷ [])
    ∷ says 1 1 17 1 (2 ∷ []) ∷ says 1 2 11 0 [] ∷ says 1 4 7 7 (7 ∷ 0 ∷ 0 ∷ 0 ∷ []) ∷ says 0 4 7 8 (8 ∷ 0 ∷ 0 ∷ 0 ∷ []) ∷ []
unfolding encode head_of payload varint varint_within little_of zigzag_of wire_of low32_of
tell = refl

-- ---- what one who reads under a sheet is told of them
tells : List ℕ → List Content
unfolding encode head_of payload varint varint_within little_of zigzag_of wire_of low32_of declaration_of same_bytes tree_of file_in items_in item_in
    value_in extension_at message_field_at value_at shape_at type_path_at has_type_path walk_by leaf_at field_at big_at
tells s = told (knowing s) s (m s) 0 rs

abbrev letters : List ℕ
letters = ascii "hi"

abbrev held : List ℕ
held = 8 ∷ 2 ∷ 18 ∷ 0 ∷ 37 ∷ 7 ∷ 0 ∷ 0 ∷ 0 ∷ []

-- all that they say
told-newer : tells newer ≡ contents 0 rs
unfolding tells encode head_of payload varint varint_within little_of zigzag_of wire_of low32_of
told-newer = refl

-- the numbers 3 and 4 are unknown, at both levels: their payloads stay, types and values go
told-older : tells older
    ≡ says 0 1 17 minus_two (3 ∷ []) ∷ says 0 3 0 0 letters ∷ says 0 2 11 0 held ∷ says 1 1 17 1 (2 ∷ []) ∷ says 1 2 11 0 []
    ∷ says 1 4 0 0 (7 ∷ 0 ∷ 0 ∷ 0 ∷ []) ∷ says 0 4 0 0 (8 ∷ 0 ∷ 0 ∷ 0 ∷ []) ∷ []
unfolding tells
told-older = refl

-- the number 2 too, and what it holds is left out
told-oldest : tells oldest
    ≡ says 0 1 17 minus_two (3 ∷ []) ∷ says 0 3 0 0 letters ∷ says 0 2 0 0 held ∷ says 0 4 0 0 (8 ∷ 0 ∷ 0 ∷ 0 ∷ []) ∷ []
unfolding tells
told-oldest = refl

-- ---- the newer sheet does type them
abbrev Is : Option Declaration → (typ : ℕ) → Type 0
Is None t = ⊥
Is (Some d) t = d.shape.typ ≡ t

module _ (n t : ℕ) where
  declared-as : (o : Option Declaration) → declared newer (m newer) n ≡ o → Is o t → DeclaredAs newer (m newer) n t
  declared-as None q e = absurd e
  declared-as (Some d) q e = record { by = d; declares = q; typ = e }

  known : Is (declared newer (m newer) n) t → DeclaredAs newer (m newer) n t
  known = declared-as (declared newer (m newer) n) refl

newer-types : Typed (knowing newer) newer (m newer) rs
unfolding Fits declaration_of tree_of file_in items_in item_in value_in extension_at message_field_at value_at shape_at type_path_at has_type_path walk_by
    leaf_at field_at big_at same_bytes declared-as known
newer-types = (
  known 1 17 refl,
  inr (omega arith, omega arith),
  (
    known 3 9 refl,
    λ e. omega arith,
    (
      known 2 11 refl,
      record {
        place = place newer;
        found = refl;
        inside = (
          known 1 17 refl,
          inl (omega arith),
          (
            known 2 11 refl,
            record { place = place newer; found = refl; inside = tt },
            (known 4 7 refl, omega arith, tt),
          ),
        );
      },
      (known 4 7 refl, omega arith, tt),
    ),
  ),
)

-- ---- what the bytes are by Encoding: seven records by the newer sheet, of which four are at the outermost level, with their payloads
written : encode rs
    ≡ 8 ∷ 3 ∷ 26 ∷ 2 ∷ 104 ∷ 105 ∷ 18 ∷ 9 ∷ 8 ∷ 2 ∷ 18 ∷ 0 ∷ 37 ∷ 7 ∷ 0 ∷ 0 ∷ 0 ∷ 37 ∷ 8 ∷ 0 ∷ 0 ∷ 0 ∷ []
unfolding encode head_of payload varint varint_within little_of zigzag_of wire_of low32_of
written = refl

abbrev is : (number wire : ℕ) → List ℕ → Raw
is n w bs = record { number = n; wire = w; payload = bs }

outermost : raws (encode rs) (seen (knowing newer) newer (m newer) rs 0)
    ≡ is 1 0 (3 ∷ []) ∷ is 3 2 (ascii "hi") ∷ is 2 2 (8 ∷ 2 ∷ 18 ∷ 0 ∷ 37 ∷ 7 ∷ 0 ∷ 0 ∷ 0 ∷ []) ∷ is 4 5 (8 ∷ 0 ∷ 0 ∷ 0 ∷ []) ∷ []
unfolding encode head_of payload varint varint_within little_of zigzag_of wire_of low32_of declaration_of same_bytes tree_of file_in items_in item_in
    value_in extension_at message_field_at value_at shape_at type_path_at has_type_path walk_by leaf_at field_at big_at
outermost = refl

-- ---- rows that do not stand as those of a listing: a row a level deeper behind one that is no message
abbrev at : (level typ place size : ℕ) → Row
at l t p k =
    record { level = l; entry = record { number = 1; typ = t; wire = 2; place = p; size = k; value = 0; by = None } }

head-of : (P : Row → Type 0) (x : Row) (xs ys : List Row) → xs ≡ [] → x ∷ [] ≡ xs ++ ys → First P ys → P x
head-of P x xs ys e q f = let same : ys ≡ x ∷ [] = sym (ap (λ zs. zs ++ ys) e) ∙ sym q in rw same at f

string-entered : Stand (at 0 TYPE_STRING 2 9 ∷ at 1 TYPE_SINT32 3 1 ∷ []) → ⊥
string-entered s =
    let e = s.0 in
    let empty : e.inside ≡ [] = e.entered λ h. omega arith in
    let shallow : 1 ≤ 0 = head-of (λ y. y.level ≤ 0) (at 1 TYPE_SINT32 3 1) e.inside e.rest empty e.is e.out
    in omega arith

-- ---- levels: an empty message asks for one more
abbrev reads : ℕ → Recs → Listed
reads d x = reading (knowing newer) newer d (m newer) 0 (encode x)

one-level : nested (message 2 nil nil) ≡ 1
one-level = refl

one-refused : reads 1 (message 2 nil nil) ≡ refused BeyondLimit
unfolding reading records_from item payload_at tag_good encode head_of varint varint_within wire_of said value_of read_varint read_within
    declaration_of tree_of file_in items_in item_in value_in extension_at message_field_at value_at shape_at type_path_at has_type_path walk_by leaf_at
    field_at big_at same_bytes
one-refused = refl

two-read : reads 2 (message 2 nil nil) ≡ listed (seen (knowing newer) newer (m newer) (message 2 nil nil) 0)
unfolding reading records_from item payload_at tag_good encode head_of varint varint_within wire_of said value_of read_varint read_within
    declaration_of tree_of file_in items_in item_in value_in extension_at message_field_at value_at shape_at type_path_at has_type_path walk_by leaf_at
    field_at big_at same_bytes
two-read = refl
