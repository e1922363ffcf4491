-- Closed cases of the tree, which the checker computes: P1's sheet with every place, the empty sheet, a message that holds
-- another, a field and an enum, cuts at the end of a sheet and of a file, what is no declaration, messages as deep as 01 allows and deeper.
-- Assumes nothing.
use Rattle.std.specs.Prelude.{◌≡◌, refl, List, [], ◌∷◌, ◌++◌, ℕ, zero, suc, ◌+◌, ◌*◌}
use Rattle.octets.specs.Octets.{big_at}
use Rattle.field.specs.Field.{field_at}
use Rattle.field.specs.Leaf.{span, leaf_at}
use Rattle.field.specs.Walk.{walk_by}
use Rattle.sheet.specs.Declaration.{has_type_path, type_path_at, shape, shape_at, extension_at, message_field_at, value_at}
use Rattle.sheet.specs.Tree.{Items, none, message, extension, enumeration, field, File, file_with}
use Rattle.sheet.specs.Tree.{value_in, item_in, items_in, file_in, tree_of}

unfoldable pub tree : List ℕ → List File
unfolding tree_of file_in items_in item_in value_in extension_at message_field_at value_at shape_at type_path_at has_type_path walk_by leaf_at field_at big_at
tree s = tree_of s

-- ---- P1: package p, extension x of o.F, number 5, type 13, label 1; package o, message F
abbrev pub p1 : List ℕ
p1 =
    0x01 ∷ 0 ∷ 0x20 ∷ 0x10 ∷ 0 ∷ 1 ∷ 0x70
    ∷ 0x03 ∷ 0 ∷ 0x19 ∷ 0x11 ∷ 0 ∷ 1 ∷ 0x78 ∷ 0x12 ∷ 0 ∷ 3 ∷ 0x6F ∷ 0x2E ∷ 0x46
    ∷ 0x13 ∷ 0 ∷ 4 ∷ 0 ∷ 0 ∷ 0 ∷ 5 ∷ 0x14 ∷ 0 ∷ 1 ∷ 0x0D ∷ 0x15 ∷ 0 ∷ 1 ∷ 1
    ∷ 0x01 ∷ 0 ∷ 0x0B ∷ 0x10 ∷ 0 ∷ 1 ∷ 0x6F
    ∷ 0x02 ∷ 0 ∷ 4 ∷ 0x11 ∷ 0 ∷ 1 ∷ 0x46 ∷ []

abbrev p1-tree : List File
p1-tree =
    record {
      package_name = span 6 7;
      body = span 7 35;
      items = extension (record { name = span 13 14; extendee = span 17 20; shape = shape 5 13 1 (span 0 0) }) none;
    }
    ∷ record { package_name = span 41 42; body = span 42 49; items = message (span 48 49) (span 49 49) none none }
    ∷ []

p1-whole : tree p1 ≡ p1-tree
unfolding tree
p1-whole = refl

-- ---- nothing
empty-whole : tree [] ≡ []
unfolding tree
empty-whole = refl

-- ---- no package name; message M with message N, field f, and enum E with the values a = 0 and b = -1
abbrev pub inside : List ℕ
inside =
    0x01 ∷ 0 ∷ 0x4A ∷ 0x10 ∷ 0 ∷ 0
    ∷ 0x02 ∷ 0 ∷ 0x44 ∷ 0x11 ∷ 0 ∷ 1 ∷ 0x4D
    ∷ 0x02 ∷ 0 ∷ 4 ∷ 0x11 ∷ 0 ∷ 1 ∷ 0x4E
    ∷ 0x05 ∷ 0 ∷ 0x13 ∷ 0x11 ∷ 0 ∷ 1 ∷ 0x66 ∷ 0x13 ∷ 0 ∷ 4 ∷ 0 ∷ 0 ∷ 0 ∷ 1 ∷ 0x14 ∷ 0 ∷ 1 ∷ 0x0D ∷ 0x15 ∷ 0 ∷ 1 ∷ 1
    ∷ 0x04 ∷ 0 ∷ 0x20 ∷ 0x11 ∷ 0 ∷ 1 ∷ 0x45
    ∷ 0x06 ∷ 0 ∷ 0x0B ∷ 0x11 ∷ 0 ∷ 1 ∷ 0x61 ∷ 0x17 ∷ 0 ∷ 4 ∷ 0 ∷ 0 ∷ 0 ∷ 0
    ∷ 0x06 ∷ 0 ∷ 0x0B ∷ 0x11 ∷ 0 ∷ 1 ∷ 0x62 ∷ 0x17 ∷ 0 ∷ 4 ∷ 0xFF ∷ 0xFF ∷ 0xFF ∷ 0xFF ∷ []

abbrev inside-items : Items
inside-items =
    message (span 19 20) (span 20 20) none
    (field (record { name = span 26 27; extendee = span 0 0; shape = shape 1 13 1 (span 0 0) })
    (enumeration (span 48 49) (span 49 77)
    (record { name = span 55 56; number = 0 } ∷ record { name = span 69 70; number = 0xFFFFFFFF } ∷ []) none))

inside-whole : tree inside ≡ file_with (span 6 6) (span 6 77) (message (span 12 13) (span 13 77) inside-items none) ∷ []
unfolding tree
inside-whole = refl

-- ---- a payload that is cut at the end of the sheet: what stands before it is there
cut-sheet : tree (p1 ++ (0x01 ∷ 0 ∷ 4 ∷ 0x10 ∷ 0 ∷ 0 ∷ [])) ≡ p1-tree
unfolding tree
cut-sheet = refl

-- a header that is cut at the end of the first file: what stands before it and the second file are there
abbrev cut_inside : List ℕ
cut_inside =
    0x01 ∷ 0 ∷ 0x0C ∷ 0x10 ∷ 0 ∷ 0 ∷ 0x02 ∷ 0 ∷ 4 ∷ 0x11 ∷ 0 ∷ 1 ∷ 0x4D ∷ 0x02 ∷ 0
    ∷ 0x01 ∷ 0 ∷ 3 ∷ 0x10 ∷ 0 ∷ 0 ∷ []

cut-file : tree cut_inside
    ≡ file_with (span 6 6) (span 6 15) (message (span 12 13) (span 13 13) none none) ∷ file_with (span 21 21) (span 21 21) none ∷ []
unfolding tree
cut-file = refl

-- ---- a message with no name, a field with no shape and a tag of no declaration are left out, and what follows them is there
abbrev pub odd : List ℕ
odd =
    0x01 ∷ 0 ∷ 0x17 ∷ 0x10 ∷ 0 ∷ 0
    ∷ 0x02 ∷ 0 ∷ 0 ∷ 0x05 ∷ 0 ∷ 4 ∷ 0x11 ∷ 0 ∷ 1 ∷ 0x66 ∷ 0x07 ∷ 0 ∷ 0
    ∷ 0x02 ∷ 0 ∷ 4 ∷ 0x11 ∷ 0 ∷ 1 ∷ 0x4D ∷ []

left_out : tree odd ≡ file_with (span 6 6) (span 6 26) (message (span 25 26) (span 26 26) none none) ∷ []
unfolding tree
left_out = refl

-- ---- n messages, each in the one before
abbrev pub within : ℕ → List ℕ
within zero = []
within (suc n) = 0x02 ∷ 0 ∷ (4 + 7 * n) ∷ 0x11 ∷ 0 ∷ 1 ∷ 0x4D ∷ within n

abbrev pub deep : ℕ → List ℕ
deep n = 0x01 ∷ 0 ∷ (3 + 7 * n) ∷ 0x10 ∷ 0 ∷ 0 ∷ within n
