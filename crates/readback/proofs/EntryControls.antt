-- Closed cases of the records of option bytes, which the checker computes: of each rule cases that hold, cases at its border, and cases
-- that are refused. The expected words and replies come from a second implementation of 01, and of a few cases from a reading by hand.
-- Assumes nothing.
use Rattle.std.specs.Prelude.{◌≡◌, refl, true, false, List, [], ◌∷◌, ◌++◌, map, ℕ, zero, suc, ◌+◌, ◌-◌, ◌*◌, ltb, length, Err, Ok, Result}
use Rattle.basis.specs.First.{told, only_if}
use Prim.Native.String.{String}
use Rattle.limits.specs.Figures.{most_messages}
use Rattle.octets.specs.Octets.{big_at, same_bytes}
use Rattle.octets.specs.Ascii.{ascii}
use Rattle.reply.specs.declared.Refusal.TheVariants.{MessageNotFound, MessageFoundMoreThanOnce}
use Rattle.reply.specs.Reply.{number}
use Rattle.field.specs.Field.{field_at}
use Rattle.field.specs.Leaf.{span, leaf_at}
use Rattle.field.specs.Walk.{walk_by}
use Rattle.types.specs.Types.{wire_of}
use Rattle.varint.specs.Varint.{read_within, read_varint}
use Rattle.wire.specs.Tag.{tag_good}
use Rattle.wire.specs.Fixed.{little}
use Rattle.wire.specs.Numbers.{unzigzag_of, low32_of, widen32_of}
use Rattle.payloads.specs.Extent.{payload_at}
use Rattle.payloads.specs.Value.{said, value_of}
use Rattle.sheet.specs.Table.{file_tag, message_tag, extension_tag, field_tag, package_tag, extendee_tag, number_tag, type_tag, label_tag}
use Rattle.sheet.specs.Table.{type_path_tag}
use Rattle.sheet.specs.Declaration.{has_type_path, type_path_at, shape_at, extension_at, message_field_at, value_at}
use Rattle.sheet.specs.Tree.{value_in, item_in, items_in, file_in, tree_of}
use Rattle.scope.specs.Scope.{Scope, holding, down}
use Rattle.scope.proofs.Sample.{a_field, of_name}
use Rattle.numbers.specs.Number.{declaration_of}
use Rattle.lookups.specs.Lookups.{Lookups, walking}
use Rattle.entries.specs.Tree.{rows, words_of}
use Rattle.entries.specs.Item.{item}
use Rattle.entries.specs.Reading.{records_from, reading, Under, under, refused_by, records_of}
use Rattle.reply.specs.declared.Refusal.{Refusal}
use Rattle.scope.specs.declared.lookup.LookupScope.{LookupScope}

-- ---- one sheet for all, of names of one letter: a message F of options, a message M of values, and the extensions of F
abbrev typed : (number typ : ℕ) → List ℕ
typed k t = a_field number_tag (0 ∷ 0 ∷ 0 ∷ k ∷ []) ++ a_field type_tag (t ∷ []) ++ a_field label_tag (1 ∷ [])

abbrev leads_to : (number typ : ℕ) → String → List ℕ
leads_to k t p = typed k t ++ a_field type_path_tag (ascii p)

abbrev field : List ℕ → List ℕ
field shape = of_name field_tag 102 shape

abbrev extends : String → List ℕ → List ℕ
extends m shape = of_name extension_tag 120 (a_field extendee_tag (ascii m) ++ shape)

abbrev file : List ℕ → List ℕ
file body = a_field file_tag (a_field package_tag (ascii "o") ++ body)

abbrev messages : List ℕ
messages =
    file (of_name message_tag 70 (field (typed 1 9) ++ field (typed 3 8))
    ++ of_name message_tag 77 (field (typed 1 5) ++ field (leads_to 2 11 "o.M") ++ field (typed 3 17)))

abbrev sheet : List ℕ
sheet =
    messages
    ++ file (extends "o.F" (leads_to 10 11 "o.M") ++ extends "o.F" (leads_to 11 11 "o.N") ++ extends "o.F" (typed 14 5)
    ++ extends "o.F" (typed 15 17) ++ extends "o.F" (typed 16 15) ++ extends "o.F" (typed 17 1))
    ++ file (extends "o.F" (leads_to 18 14 "o.N") ++ extends "o.F" (typed 19 13) ++ extends "o.F" (leads_to 21 10 "o.M")
    ++ extends "o.F" (leads_to 22 11 "o.T") ++ extends "o.F" (typed 1 13) ++ extends "o.F" (typed 20 18))
    ++ file (extends "o.M" (leads_to 4 11 "o.M") ++ extends "o.F" (typed 14 13))

-- ---- look-ups that know F and M, and that T is declared twice
abbrev first : Scope
first = holding sheet (record { file = 0; message = false; body = span 7 (length messages); left = most_messages })

abbrev named : (letter : ℕ) → Result LookupScope Refusal
named x = told (Err MessageNotFound) (λ c. Ok c.place) (down sheet (x ∷ []) first)

abbrev knowing : Lookups
knowing = record {
  message = λ p.
      only_if (same_bytes p (ascii "o.F")) (named 70)
      (only_if (same_bytes p (ascii "o.M")) (named 77)
      (only_if (same_bytes p (ascii "o.T")) (Err MessageFoundMoreThanOnce) (Err MessageNotFound)));
  enumeration = (walking sheet).enumeration;
  extension = (walking sheet).extension;
}

-- ---- what is asked, and what is said: the words of the rows, or the reply's number
data Says : Type 0 where
  gives : List ℕ → Says
  refused : (reply : ℕ) → Says

record Case : Type 0 where
  pub type : String
  pub bytes : List ℕ
  pub says : Says

-- the bytes that a text of hexadecimal digits, in capitals, stands for
abbrev digit : ℕ → ℕ
digit c = elim (ltb c 65) [ true ↦ c - 48 | false ↦ c - 55 ]

abbrev hex_of : List ℕ → List ℕ
hex_of [] = []
hex_of (c ∷ []) = []
hex_of (c ∷ d ∷ cs) = (digit c * 16 + digit d) ∷ hex_of cs

abbrev lists : String → String → Says → Case
lists t h a = record { type = t; bytes = hex_of (ascii h); says = a }

abbrev r : (level number typ wire place size low high : ℕ) → List ℕ
r l n t w p k a b = l ∷ n ∷ t ∷ w ∷ p ∷ k ∷ a ∷ b ∷ []

abbrev says_of : Under → Says
says_of (under m t) = gives (words_of (rows 0 t))
says_of (refused_by w) = refused (number w)

asked : String → List ℕ → Says
unfolding records_of reading records_from item payload_at said value_of declaration_of read_varint read_within tag_good little unzigzag_of low32_of
    widen32_of wire_of same_bytes tree_of file_in items_in item_in value_in extension_at message_field_at value_at shape_at type_path_at has_type_path
    walk_by leaf_at field_at big_at
asked t bs = says_of (records_of knowing sheet (ascii t) bs)

cases : List Case
cases =
    -- VARINT: bool, any bit set, an overlong one
    lists "o.F" "188080808002" (gives (r 0 3 8 0 1 5 1 0))
    -- VARINT: int32, the low 32 bits, widened by sign; of two extensions the first in the bytes
    ∷ lists "o.F" "70FFFFFFFF0F" (gives (r 0 14 5 0 1 5 4294967295 4294967295))
    -- VARINT: a tag and a value that are overlong
    ∷ lists "o.F" "98818000878000" (gives (r 0 19 13 0 4 3 7 0))
    -- VARINT: ten bytes, and uint32 keeps the low 32 bits
    ∷ lists "o.F" "9801FFFFFFFFFFFFFFFFFF01" (gives (r 0 19 13 0 2 10 4294967295 0))
    -- sint32, -2; sint64, the least
    ∷ lists "o.F" "7803A001FFFFFFFFFFFFFFFFFF01" (gives (r 0 15 17 0 1 1 4294967294 4294967295 ++ r 0 20 18 0 4 10 0 2147483648))
    -- sint32, the low 32 bits before zigzag is undone
    ∷ lists "o.F" "788180808010" (gives (r 0 15 17 0 1 5 4294967295 4294967295))
    -- enum as int32, its type path not looked up
    ∷ lists "o.F" "9001FFFFFFFFFFFFFFFFFF01" (gives (r 0 18 14 0 2 10 4294967295 4294967295))
    -- I32: sfixed32; I64: double
    ∷ lists "o.F" "8501FEFFFFFF8901000000000000F03F" (gives (r 0 16 15 5 2 4 4294967294 4294967295 ++ r 0 17 1 1 8 8 0 1072693248))
    -- LEN: a string, of a field before an extension of its number
    ∷ lists "o.F" "0A026869" (gives (r 0 1 9 2 2 2 0 0))
    -- a message, one inside it, and what follows
    ∷ lists "o.F" "520808011202180308027003"
    (gives (r 0 10 11 2 2 8 0 0 ++ r 1 1 5 0 3 1 1 0 ++ r 1 2 11 2 6 2 0 0 ++ r 2 3 17 0 7 1 4294967294 4294967295 ++ r 1 1 5 0 9 1 2 0
    ++ r 0 14 5 0 11 1 3 0))
    -- inside a message its own numbers count
    ∷ lists "o.F" "520418011805" (gives (r 0 10 11 2 2 4 0 0 ++ r 1 3 17 0 3 1 4294967295 4294967295 ++ r 1 3 17 0 5 1 4294967293 4294967295))
    -- unknown numbers, of each wire type, not entered
    ∷ lists "o.F" "C00C07C20C020801C50C01020304C10C0102030405060708"
    (gives (r 0 200 0 0 2 1 0 0 ++ r 0 200 0 2 6 2 0 0 ++ r 0 200 0 5 10 4 0 0 ++ r 0 200 0 1 16 8 0 0))
    -- an empty message, and no bytes
    ∷ lists "o.F" "5200" (gives (r 0 10 11 2 2 0 0 0))
    ∷ lists "o.F" "" (gives [])
    -- 18, a cut record
    ∷ lists "o.F" "70017080" (refused 18)
    -- 18, after a message: a tag without a payload
    ∷ lists "o.F" "5202080170" (refused 18)
    -- 18, a length that overruns its message, though not the bytes
    ∷ lists "o.F" "520312050870018001" (refused 18)
    -- 18, an eleventh byte
    ∷ lists "o.F" "708080808080808080808001" (refused 18)
    -- 18, a tenth byte above 1
    ∷ lists "o.F" "70FFFFFFFFFFFFFFFFFF02" (refused 18)
    -- 18, wire type 3, of a known group
    ∷ lists "o.F" "AB01" (refused 18)
    -- 19, a known group on another wire type
    ∷ lists "o.F" "A80101" (refused 19)
    -- 18, number 0
    ∷ lists "o.F" "0001" (refused 18)
    -- the largest number, and 18, a number past the range
    ∷ lists "o.F" "F8FFFFFF0F05" (gives (r 0 536870911 0 0 5 1 0 0))
    ∷ lists "o.F" "808080801000" (refused 18)
    -- 19, before the payload is read
    ∷ lists "o.F" "72FF" (refused 19)
    -- 7, a dangling type path
    ∷ lists "o.F" "70015A00" (refused 7)
    -- 18 before 7
    ∷ lists "o.F" "5A01" (refused 18)
    -- 8
    ∷ lists "o.F" "B20100" (refused 8)
    -- the first fault from the front: of what a message holds before what follows it
    ∷ lists "o.F" "520112B20100" (refused 18)
    ∷ lists "o.F" "B20100520112" (refused 8)
    -- 7, of the options type
    ∷ lists "o.G" "" (refused 7)
    -- 8, of the options type
    ∷ lists "o.T" "FF" (refused 8)
    ∷ []

cases-are : map (λ (x : Case). asked x.type x.bytes) cases ≡ map (λ (x : Case). x.says) cases
unfolding asked cases
cases-are = refl

-- ---- levels: so many messages, each inside the one before
abbrev nest : ℕ → List ℕ
nest zero = []
nest (suc k) = 0x12 ∷ 2 * k ∷ nest k

abbrev count_of : Says → ℕ
count_of (gives ws) = length ws
count_of (refused w) = 0

-- at level 30 it may be empty; "a known message at level 31 is 3"
level-30 : count_of (asked "o.F" (0x52 ∷ 60 ∷ nest 30)) ≡ 248
unfolding asked
level-30 = refl

level-31 : asked "o.F" (0x52 ∷ 62 ∷ nest 31) ≡ refused 3
unfolding asked
level-31 = refl
