-- Closed cases of builtins, which the checker computes: of each rule one that holds, one at its border, one just past it.
-- Assumes nothing.
use Rattle.std.specs.Prelude.{◌≡◌, refl, true, false, List, [], ◌∷◌, ◌++◌, map, ℕ, length, None, Some, Err, Ok, Result, Option}
use lib.ListN.{replicate}
use Rattle.octets.specs.Octets.{same_bytes, big_at}
use Rattle.octets.specs.Ascii.{ascii}
use Rattle.reply.specs.declared.Refusal.TheVariants.{BuiltinOptionNotFound, BuiltinOptionPointsToNonSingularField, StrLitDecodeError}
use Rattle.field.specs.Field.{field_at}
use Rattle.field.specs.Leaf.{span, leaf_at}
use Rattle.field.specs.Walk.{walk_by}
use Rattle.utf8.specs.Utf8.{is_scalar, utf8, point_of, stands, lead_of, utf8_from, is_utf8}
use Rattle.wire.specs.Numbers.{widen32_of}
use Rattle.types.specs.Types.{TYPE_INT32, TYPE_BOOL, TYPE_STRING, TYPE_BYTES, TYPE_ENUM}
use Rattle.sheet.specs.declared.declaration.Shape.{Shape}
use Rattle.sheet.specs.Declaration.{value_at}
use Rattle.sheet.specs.Tree.{value_in, items_in}
use Rattle.scope.proofs.Sample.{value}
use Rattle.request.specs.declared.constant.Constant.{Constant}
use Rattle.request.specs.declared.constant.Constant.TheVariants.{Bool as BoolOf, Integer, Text, Ident}
use Rattle.request.specs.Tree.{unnamed, Constants, none as no_constant, scalar, message, list}
use Rattle.records.specs.declared.Body.TheVariants.{Bits, Bytes}
use Rattle.lookups.specs.Lookups.{Lookups, walking}
use Rattle.scalars.specs.Scalars.{is_small, is_signed, is_integer, most_of, pattern_of}
use Rattle.scalars.specs.Scalars.{unsupported, integer_on, string_on, bool_on, ident_on, scalar_on}
use Rattle.builtins.specs.declared.Built.{Built}
use Rattle.builtins.specs.Builtins.{field_options, is_skipped, builtin_on, builtin_field, builtin_of, built}
use Rattle.records.specs.declared.Body.{Body}
use Rattle.reply.specs.declared.Refusal.{Refusal}

-- an enum of a = 1 and b = 3, the one that any path names; a request of the bytes C3, A9 and the names `b` and `c`
abbrev sheet : List ℕ
sheet = value 97 1 ++ value 98 3

abbrev request : List ℕ
request = 195 ∷ 169 ∷ 98 ∷ 99 ∷ []

abbrev one-enum : Lookups
one-enum = record {
  message = (walking []).message;
  enumeration = λ p. Ok (span 0 (length sheet));
  extension = (walking []).extension;
}

abbrev shape : (label typ : ℕ) → Shape
shape l t = record { number = 3; typ = t; label = l; path = span 0 0 }

abbrev single : Constant → Constants
single c = scalar unnamed c no_constant

-- ---- the two names, on that options type alone
skipped :
    map (is_skipped field_options) (ascii "default" ∷ ascii "json_name" ∷ ascii "deprecated" ∷ ascii "json_names" ∷ [])
    ++ map (λ m. is_skipped m (ascii "default")) (ascii "google.protobuf.MessageOptions" ∷ ascii ".google.protobuf.FieldOptions" ∷ [])
    ≡ true ∷ true ∷ false ∷ false ∷ false ∷ false ∷ []
unfolding is_skipped same_bytes
skipped = refl

-- ---- constants on types: what fits, and a scalar that fits its type where a builtin has none such
unfoldable on : ℕ → Constants → Result Body Refusal
unfolding scalar_on bool_on string_on ident_on integer_on is_integer is_small is_signed most_of pattern_of widen32_of is_scalar utf8 point_of stands
    lead_of utf8_from is_utf8 value_in value_at leaf_at walk_by field_at same_bytes big_at
on t c = builtin_on one-enum sheet request (shape 1 t) c

fitting :
    on TYPE_BOOL (single (BoolOf true)) ∷ on TYPE_STRING (single (Text (span 0 2))) ∷ on TYPE_ENUM (single (Ident (span 2 3))) ∷ []
    ≡ Ok (Bits 1) ∷ Ok (Bytes (span 0 2)) ∷ Ok (Bits 3) ∷ []
unfolding on
fitting = refl

no_text : on TYPE_STRING (single (Text (span 0 1))) ≡ Err StrLitDecodeError
unfolding on
no_text = refl

misfits :
    on TYPE_ENUM (single (Ident (span 3 4)))
    ∷ on TYPE_BOOL (single (Integer false 1))
    ∷ on TYPE_INT32 (single (Integer false 1))
    ∷ on TYPE_BYTES (single (Text (span 0 2)))
    ∷ on TYPE_BOOL (message unnamed no_constant no_constant)
    ∷ on TYPE_BOOL (list unnamed (single (BoolOf true)) no_constant)
    ∷ on TYPE_BOOL no_constant
    ∷ []
    ≡ replicate 7 unsupported
unfolding on
misfits = refl

-- ---- the field: none, of each label, and a repeated one whose constant doesn't fit
unfoldable at : (label typ : ℕ) → Result (Option Built) Refusal
unfolding scalar_on bool_on
at l t =
    builtin_field one-enum sheet request (single (BoolOf true)) (Some (record { name = span 0 0; extendee = span 0 0; shape = shape l t }))

fields :
    builtin_field one-enum sheet request no_constant None ∷ at 1 TYPE_BOOL ∷ at 2 TYPE_BOOL ∷ at 3 TYPE_BOOL ∷ at 3 TYPE_STRING ∷ []
    ≡ Err BuiltinOptionNotFound ∷ Ok (Some (built (shape 1 TYPE_BOOL) (Bits 1))) ∷ Ok (Some (built (shape 2 TYPE_BOOL) (Bits 1)))
    ∷ Err BuiltinOptionPointsToNonSingularField ∷ Err BuiltinOptionPointsToNonSingularField ∷ []
unfolding at
fields = refl

-- ---- skipped with any constant, where there is no such field
unfoldable of : (message : List ℕ) → Result (Option Built) Refusal
unfolding builtin_of is_skipped same_bytes items_in walk_by field_at
of m = builtin_of one-enum [] request (record { name = m; place = record { file = 0; message = true; body = span 0 0; left = 1 } })
    (ascii "default") no_constant

messages : map of (field_options ∷ ascii "google.protobuf.FileOptions" ∷ []) ≡ Ok None ∷ Err BuiltinOptionNotFound ∷ []
unfolding of
messages = refl
