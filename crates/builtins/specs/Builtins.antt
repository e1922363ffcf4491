-- Builtins, from 01's "Option steps": "A single direct part is a builtin."
--
--            field_options ==  the full name of the options type on which two names are skipped
--           is_skipped m n <=> the name n is one of them, and m that type
--          builtin_on h c ==  the constant c on a builtin of the shape h
--             built h b ==  the body b on the field of the shape h
--          built_of h x ==  what comes of it
--      builtin_of m n c ==  the constant c on the builtin of the name n of the message m
--       built_recs r b ==  the record of a builtin that is set
--
-- Assumes nothing.
use Rattle.std.specs.Prelude.{Bool, true, false, ◌&&◌, ◌||◌, List, [], ◌∷◌, ℕ, eqb, Option, None, Some, Err, Ok, Result}
use Rattle.octets.specs.Octets.{same_bytes}
use Rattle.octets.specs.Ascii.{ascii}
use Rattle.reply.specs.declared.Refusal.TheVariants.{BuiltinOptionNotFound, BuiltinOptionPointsToNonSingularField}
use Rattle.reply.specs.declared.Refusal.TheVariants.{UnsupportedExtensionType}
use Rattle.types.specs.Types.{is_any, TYPE_BOOL, TYPE_STRING, TYPE_ENUM}
use Rattle.sheet.specs.declared.declaration.Shape.{Shape}
use Rattle.sheet.specs.declared.declaration.Declaration.{Declaration}
use Rattle.request.specs.Tree.{Constants, none as no_constant, scalar, message, list}
use Rattle.records.specs.Records.{Recs, nil, record_of}
use Rattle.lookups.specs.Lookups.{Lookups, Message, field_named}
use Rattle.scalars.specs.Scalars.{scalar_on, unsupported}
use Rattle.builtins.specs.declared.Built.{Built}
use Rattle.records.specs.declared.Body.{Body}
use Rattle.reply.specs.declared.Refusal.{Refusal}

-- descriptor.proto's label LABEL_REPEATED
abbrev pub repeated : ℕ
repeated = 3

abbrev pub field_options : List ℕ
field_options = ascii "google.protobuf.FieldOptions"

-- "On google.protobuf.FieldOptions, `default` and `json_name` are skipped with any constant." [BUILTIN-1]
unfoldable pub is_skipped : (message name : List ℕ) → Bool
is_skipped m n = same_bytes m field_options && (same_bytes n (ascii "default") || same_bytes n (ascii "json_name"))

abbrev pub built : Shape → Body → Built
built h b = record { shape = h; body = b }

abbrev pub built_of : Shape → Result Body Refusal → Result (Option Built) Refusal
built_of h (Err w) = Err w
built_of h (Ok b) = Ok (Some (built h b))

module _ (L : Lookups) (s r : List ℕ) where
  -- "be bool, enum or string with a matching constant; a misfit or unlisted enum name is 12, a string not UTF-8 is 15" [BUILTIN-4,
  -- BUILTIN-5, BUILTIN-6]
  abbrev pub builtin_on : Shape → Constants → Result Body Refusal
  builtin_on h no_constant = unsupported
  builtin_on h (scalar n c rest) = elim (is_any h.typ (TYPE_BOOL ∷ TYPE_ENUM ∷ TYPE_STRING ∷ [])) [
    | true ↦ scalar_on L s r UnsupportedExtensionType h c
    | false ↦ unsupported
  ]
  builtin_on h (list n inside rest) = unsupported
  builtin_on h (message n inside rest) = unsupported

  -- "Else the field must exist, not be repeated" [BUILTIN-2, BUILTIN-3]
  abbrev pub builtin_field : Constants → Option Declaration → Result (Option Built) Refusal
  builtin_field c None = Err BuiltinOptionNotFound
  builtin_field c (Some d) = elim (eqb d.shape.label repeated) [
    | true ↦ Err BuiltinOptionPointsToNonSingularField
    | false ↦ built_of d.shape (builtin_on d.shape c)
  ]

  unfoldable pub builtin_of : Message → (name : List ℕ) → Constants → Result (Option Built) Refusal
  builtin_of m n c = elim (is_skipped m.name n) [
    | true ↦ Ok None
    | false ↦ builtin_field c (field_named s n m.place)
  ]

abbrev pub built_recs : (request : List ℕ) → Result (Option Built) Refusal → Recs
built_recs r (Ok None) = nil
built_recs r (Ok (Some x)) = record_of r x.shape x.body
built_recs r (Err w) = nil
