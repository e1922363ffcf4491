-- When a sheet is clean. 01: "Clean: no two of all messages, enums and extensions share a full name, nor two fields of a message or values of
-- an enum a name; no number is declared twice for one message, extensions counted; every extendee and type path names exactly one
-- declaration of its kind."
--
--      names_one s k t <=> the text t is the full name of exactly one declaration of the tag k
--       clean_name s b <=> no other declaration has its full name
--         members_of w ==  the names of a message's fields, or of an enum's values
--      named_once s ns <=> no two of these names are the same text
--      same_number x y <=> the two declare one number for one message
--          path_kind t ==  the tag of what the type path of the type t names
--       clean_path s d <=> the type path of the declaration, where its type has one, names one declaration of its kind
--   clean_extendee s w <=> where it is an extension, its extendee names one message
--     clean_number s x <=> the number is declared once for its message, and its type path is clean
--         clean_at s b <=> all of this holds of the declaration b
--             clean s <=> it holds of all that the sheet declares
--
-- Assumes nothing.
use Rattle.std.specs.Prelude.{Bool, true, ◌&&◌, List, [], map, ℕ, eqb}
use Rattle.basis.specs.First.{only_if}
use Rattle.basis.specs.Count.{once, every}
use Rattle.octets.specs.Octets.{same_bytes}
use Rattle.field.specs.declared.Span.{Span}
use Rattle.field.specs.Leaf.{text, is_text}
use Rattle.types.specs.Types.{TYPE_ENUM}
use Rattle.sheet.specs.declared.declaration.Declaration.{Declaration}
use Rattle.sheet.specs.Declaration.{has_type_path}
use Rattle.sheet.specs.Table.{message_tag, enum_tag}
use Rattle.sheet.specs.Members.{fields_of}
use Rattle.names.specs.Names.{What, message, enumeration, extension, Named, every_declared, any_kind, of_kind, bears}
use Rattle.names.specs.Numbers.{Number, numbers_of, every_number}

abbrev pub names_one : (s : List ℕ) (kind : ℕ) (text : List ℕ) → Bool
names_one s k t = once (λ b. of_kind k b && bears t b) (every_declared s)

-- "no two of all messages, enums and extensions share a full name" [CLEAN-2]
abbrev pub clean_name : (s : List ℕ) → Named → Bool
clean_name s b = names_one s any_kind b.name

-- "nor two fields of a message or values of an enum a name" [CLEAN-3]
abbrev pub members_of : What → List Span
members_of (message c) = map (λ d. d.name) (fields_of c.items)
members_of (enumeration e) = map (λ v. v.name) e.values
members_of (extension d) = []

abbrev pub named_once : (s : List ℕ) → List Span → Bool
named_once s ns = every (λ n. once (is_text s (text s n)) ns) ns

-- "no number is declared twice for one message, extensions counted" [CLEAN-4]
abbrev pub same_number : (x y : Number) → Bool
same_number x y = same_bytes x.for y.for && eqb x.by.shape.number y.by.shape.number

-- "every extendee and type path names exactly one declaration of its kind": types 10 and 11 name a message, 14 an enum [CLEAN-5]
abbrev pub path_kind : (typ : ℕ) → ℕ
path_kind t = only_if (eqb t TYPE_ENUM) enum_tag message_tag

abbrev pub clean_path : (s : List ℕ) → Declaration → Bool
clean_path s d = only_if (has_type_path d.shape.typ) (names_one s (path_kind d.shape.typ) (text s d.shape.path)) true

abbrev pub clean_extendee : (s : List ℕ) → What → Bool
clean_extendee s (message c) = true
clean_extendee s (enumeration e) = true
clean_extendee s (extension d) = names_one s message_tag (text s d.extendee)

abbrev pub clean_number : (s : List ℕ) → Number → Bool
clean_number s x = once (same_number x) (every_number s) && clean_path s x.by

abbrev pub clean_at : (s : List ℕ) → Named → Bool
clean_at s b =
    clean_name s b && named_once s (members_of b.what) && clean_extendee s b.what && every (clean_number s) (numbers_of s b)

unfoldable pub clean : (s : List ℕ) → Bool
clean s = every (clean_at s) (every_declared s)
