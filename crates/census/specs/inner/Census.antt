-- How many declarations of a sheet bear a full name, and how many numbers that are declared for the message that bears it are like one, as
-- the code counts both: over the tree, with how each scope stands to that name.
--
--              bearing k m bs ==  how many of the declarations bs, of the kind k, bear the full name m
--            numbered m l o s ==  how many numbers that the sheet s declares for the message m are like that of l
--                 AskedOf o x <-> what is asked is of the sheet o, where it is of one
--                 Reaches m w <-> the place at which the full name m goes on, where there is one, is one of it
--                onward m w n ==  how a declaration of the name n, in a scope that stands w to the full name m, stands to that
--                 file_way m p ==  how a file of the package p stands to the full name m
--                  wanted k g <=> a declaration by the tag g is of the kind k
--                   own x g w ==  1 where a declaration by the tag g that stands w to the full name is asked for by its name; else 0
--                     named i ==  the name of the first of the items i, where that is an enum or an extension
--              open_to x w a e ==  up to where the bytes from a to e may hold what counts, in a scope that stands w to the full name
--  extension_asked m x o s w d ==  1 where the extension d, in a scope that stands w to the full name m, is asked for; else 0
--        field_asked x o s w d ==  the same of a field
--      items_asked m x o s w i ==  how many are asked for among the items i of a scope that stands w to the full name, at every depth
--       files_asked m x o s fs ==  how many the files have
--
-- Assumes nothing.
use Rattle.std.specs.Prelude.{Bool, ◌&&◌, ◌||◌, List, [], ◌∷◌, ℕ, suc, ◌+◌, ◌≤◌, eqb, length, drop, None, Some, Option}
use Rattle.basis.specs.First.{only_if}
use Rattle.basis.specs.Count.{count}
use Rattle.octets.specs.Octets.{same_bytes}
use Rattle.field.specs.Leaf.{text}
use Rattle.sheet.specs.declared.declaration.Declaration.{Declaration}
use Rattle.sheet.specs.Table.{message_tag, extension_tag, enum_tag}
use Rattle.sheet.specs.Tree as tree
use Rattle.sheet.specs.Tree.{Items, File}
use Rattle.names.specs.Names.{Named, any_kind, of_kind, bears}
use Rattle.names.specs.Numbers.{every_number}
use Rattle.names.specs.inner.Leads.{leads_at}
use Rattle.likeness.specs.declared.Like.{Like}
use Rattle.likeness.specs.declared.Way.{Way}
use Rattle.likeness.specs.declared.Way.TheVariants.{Own, Within, Off}
use Rattle.likeness.specs.inner.Likes.{Placed, is_like, field_likes, extension_likes}
use Rattle.census.specs.declared.Asked.{Asked}
use Rattle.census.specs.declared.Asked.TheVariants.{Bearers, Numbers}
use Rattle.field.specs.declared.Span.{Span}

abbrev pub bearing : (kind : ℕ) (text : List ℕ) → List Named → ℕ
bearing k m bs = count (λ b. of_kind k b && bears m b) bs

abbrev pub numbered : (message : List ℕ) → Like → (o s : List ℕ) → ℕ
numbered m l o s = count (λ y. same_bytes m y.for && is_like l o s y.by) (every_number s)

-- ---- as the code counts
pub data AskedOf (o : List ℕ) : Asked → Type 0 where
  asked-bearers : (k : ℕ) → AskedOf o (Bearers k)
  asked-numbers : (l : Like) → Placed o l → AskedOf o (Numbers l)

-- a place of the full name is one of it
pub data Reaches (m : List ℕ) : Way → Type 0 where
  reaches-own : Reaches m Own
  reaches-within : (at : ℕ) → at ≤ length m → Reaches m (Within at)
  reaches-off : Reaches m Off

-- how a declaration of the name n in a scope that stands so stands to the full name m
unfoldable pub onward : (m : List ℕ) → Way → (name : List ℕ) → Way
onward m Own n = Off
onward m Off n = Off
onward m (Within at) n =
    only_if (same_bytes (drop at m) n) Own (only_if (leads_at m at n) (Within (suc (at + length n))) Off)

-- a package: the full name stands in the file from behind it and a dot on, from the start where it is empty
unfoldable pub file_way : (m name : List ℕ) → Way
file_way m [] = Within 0
file_way m (c ∷ cs) = only_if (leads_at m 0 (c ∷ cs)) (Within (suc (length (c ∷ cs)))) Off

abbrev pub wanted : (kind tag : ℕ) → Bool
wanted k g = eqb k any_kind || eqb k g

abbrev pub own : Asked → (tag : ℕ) → Way → ℕ
own (Bearers k) g Own = only_if (wanted k g) 1 0
own (Bearers k) g (Within at) = 0
own (Bearers k) g Off = 0
own (Numbers l) g w = 0

abbrev pub named : Items → Option Span
named tree.none = None
named (tree.message n b i r) = None
named (tree.extension d r) = Some d.name
named (tree.enumeration n b vs r) = Some n
named (tree.field d r) = None

-- what a message holds bears no name that does not go on in it
abbrev pub open_to : Asked → Way → (from to : ℕ) → ℕ
open_to (Bearers k) Own a e = a
open_to (Bearers k) (Within at) a e = e
open_to (Bearers k) Off a e = a
open_to (Numbers l) w a e = e

abbrev pub extension_asked : (m : List ℕ) → Asked → (o s : List ℕ) → Way → Declaration → ℕ
extension_asked m (Bearers k) o s w d = own (Bearers k) extension_tag (onward m w (text s d.name))
extension_asked m (Numbers l) o s w d = extension_likes m l o s d

abbrev pub field_asked : Asked → (o s : List ℕ) → Way → Declaration → ℕ
field_asked (Bearers k) o s w d = 0
field_asked (Numbers l) o s w d = field_likes l o s w d

module _ (m : List ℕ) (x : Asked) (o s : List ℕ) where
  abbrev pub items_asked : Way → Items → ℕ
  items_asked w tree.none = 0
  items_asked w (tree.message n b i r) =
      own x message_tag (onward m w (text s n)) + items_asked (onward m w (text s n)) i + items_asked w r
  items_asked w (tree.extension d r) = extension_asked m x o s w d + items_asked w r
  items_asked w (tree.enumeration n b vs r) = own x enum_tag (onward m w (text s n)) + items_asked w r
  items_asked w (tree.field d r) = field_asked x o s w d + items_asked w r

  abbrev pub files_asked : List File → ℕ
  files_asked [] = 0
  files_asked (f ∷ fs) = items_asked (file_way m (text s f.package_name)) f.items + files_asked fs
