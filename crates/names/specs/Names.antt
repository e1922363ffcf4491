-- Every message, enum and extension of a sheet, with its full name, in the order of the bytes. A full name is the package of the file, the
-- names of the messages around, and its own, joined by dots.
--
--                 What ==  a message, an enum or an extension
--                Named ==  a full name, and what bears it
--             inside n ==  what stands in a full name before the name of what the message n holds: n and a dot
--          file_front p ==  what stands there before the name of what a file of the package p holds
--   declared_in s f c i ==  what the items i of the scope c declare, at every depth, f standing before their names
--    declared_by s k fs ==  what the files declare, the k-th file first
--      every_declared s ==  what the sheet declares
--              tag_of w ==  the tag by which it is declared
--           of_kind k b <=> it is declared by the tag k; of any_kind all are
--            bears t b <=> its full name is the text t
--
-- Assumes nothing.
use Rattle.std.specs.Prelude.{Bool, ◌||◌, List, [], ◌∷◌, ◌++◌, ℕ, ◌+◌, eqb}
use Rattle.octets.specs.Octets.{same_bytes}
use Rattle.field.specs.Leaf.{text}
use Rattle.path.specs.Path.{dot}
use Rattle.sheet.specs.declared.declaration.Declaration.{Declaration}
use Rattle.sheet.specs.Table.{message_tag, extension_tag, enum_tag}
use Rattle.sheet.specs.Tree as tree
use Rattle.sheet.specs.Tree.{Items, File, tree_of}
use Rattle.sheet.specs.Members.{Enumeration}
use Rattle.scope.specs.Scope.{Scope, file_scope, message_scope}

pub data What : Type 0 where
  message : Scope → What
  enumeration : Enumeration → What
  extension : Declaration → What

pub record Named : Type 0 where
  pub name : List ℕ
  pub what : What

abbrev pub inside : (name : List ℕ) → List ℕ
inside n = n ++ dot ∷ []

-- the empty package has no dot behind it
abbrev pub file_front : (name : List ℕ) → List ℕ
file_front [] = []
file_front (c ∷ cs) = inside (c ∷ cs)

module _ (s : List ℕ) where
  -- 01, Clean: "all messages, enums and extensions" [CLEAN-2]
  abbrev pub declared_in : (front : List ℕ) → Scope → Items → List Named
  declared_in f c tree.none = []
  declared_in f c (tree.message n b i r) =
      record { name = f ++ text s n; what = message (message_scope c (record { name = n; body = b; inside = i })) }
      ∷ (declared_in (inside (f ++ text s n)) (message_scope c (record { name = n; body = b; inside = i })) i ++ declared_in f c r)
  declared_in f c (tree.extension d r) = record { name = f ++ text s d.name; what = extension d } ∷ declared_in f c r
  declared_in f c (tree.enumeration n b vs r) =
      record { name = f ++ text s n; what = enumeration (record { name = n; body = b; values = vs }) } ∷ declared_in f c r
  declared_in f c (tree.field d r) = declared_in f c r

  abbrev pub declared_by : (index : ℕ) → List File → List Named
  declared_by k [] = []
  declared_by k (f ∷ fs) = declared_in (file_front (text s f.package_name)) (file_scope k f) f.items ++ declared_by (k + 1) fs

  unfoldable pub every_declared : List Named
  every_declared = declared_by 0 (tree_of s)

-- ---- what is asked of one
abbrev pub tag_of : What → ℕ
tag_of (message c) = message_tag
tag_of (enumeration e) = enum_tag
tag_of (extension d) = extension_tag

abbrev pub any_kind : ℕ
any_kind = 0

abbrev pub of_kind : (kind : ℕ) → Named → Bool
of_kind k b = eqb k any_kind || eqb k (tag_of b.what)

abbrev pub bears : (text : List ℕ) → Named → Bool
bears t b = same_bytes t b.name
