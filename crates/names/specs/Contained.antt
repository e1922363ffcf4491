-- When a sheet, the older, is contained in another, the newer. 01: "Contained: each message and enum of the older is in the newer; each
-- number declared for a message there has the same name, type and type path." Labels, enum values, and where an extension stands may differ.
--
--   s is the older sheet, t the newer
--
--         is_in t k n <=> the newer declares something by the tag k under the full name n
--     kept_name t n w <=> a message or an enum of the older, of the full name n, is in the newer
--      alike s t d e <=> the declarations d of the older and e of the newer have one number, name, type and type path
--   kept_number s t x <=> the newer declares a number for that message alike
--       kept_at s t b <=> both hold of the declaration b of the older
--      contained s t <=> they hold of all that the older declares
--
-- Assumes nothing.
use Rattle.std.specs.Prelude.{Bool, true, ◌&&◌, List, ℕ, eqb}
use Rattle.basis.specs.Count.{any, every}
use Rattle.octets.specs.Octets.{same_bytes}
use Rattle.field.specs.Leaf.{text}
use Rattle.sheet.specs.declared.declaration.Declaration.{Declaration}
use Rattle.sheet.specs.Table.{message_tag, enum_tag}
use Rattle.names.specs.Names.{What, message, enumeration, extension, Named, every_declared, of_kind, bears}
use Rattle.names.specs.Numbers.{Number, numbers_of, every_number}

abbrev pub is_in : (t : List ℕ) (kind : ℕ) (name : List ℕ) → Bool
is_in t k n = any (λ b. of_kind k b && bears n b) (every_declared t)

-- "each message and enum of the older is in the newer", by full name [CONTAIN-1]
abbrev pub kept_name : (t name : List ℕ) → What → Bool
kept_name t n (message c) = is_in t message_tag n
kept_name t n (enumeration e) = is_in t enum_tag n
kept_name t n (extension d) = true

-- "the same name, type and type path" [CONTAIN-1, CONTAIN-2]
abbrev pub alike : (s t : List ℕ) (d e : Declaration) → Bool
alike s t d e =
    eqb d.shape.number e.shape.number && eqb d.shape.typ e.shape.typ && same_bytes (text s d.name) (text t e.name)
    && same_bytes (text s d.shape.path) (text t e.shape.path)

-- "each number declared for a message there"; of sheets that are not clean likewise, whatever else the newer declares [CONTAIN-1, CONTAIN-3]
abbrev pub kept_number : (s t : List ℕ) → Number → Bool
kept_number s t x = any (λ y. same_bytes x.for y.for && alike s t x.by y.by) (every_number t)

abbrev pub kept_at : (s t : List ℕ) → Named → Bool
kept_at s t b = kept_name t b.name b.what && every (kept_number s t) (numbers_of s b)

unfoldable pub contained : (older newer : List ℕ) → Bool
contained s t = every (kept_at s t) (every_declared s)
