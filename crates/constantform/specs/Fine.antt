-- What the tree of a fine constant is like.
--
--        good_name s l <=> a pair's name is what 01 allows
--       good_value s c <=> a constant that holds no others is one, and an identifier is what 01 allows
--   good_constants s c <=> so it is of the constants, at every depth
--           count_of c ==  how many constants follow one another, at the first level
--            kind_of t ==  the tag t, but one for signed and unsigned integers
--       constant_tag c ==  the tag of a constant, of integers as above
--        with_name l r ==  the tag of a pair's name, where it has one, before the tags r
--      constant_tags c ==  the tags of the constants that follow one another and of their names, at the first level, in order
--
-- Assumes nothing.
use Rattle.std.specs.Prelude.{Bool, true, false, ◌&&◌, List, [], ◌∷◌, ℕ, ◌+◌, eqb}
use Rattle.ident.specs.Ident.{is_ident}
use Rattle.path.specs.Path.{is_rel_path}
use Rattle.field.specs.Leaf.{text}
use Rattle.request.specs.declared.constant.Constant.{Constant}
use Rattle.request.specs.declared.constant.Constant.TheVariants.{Bool as BoolOf, Integer, Float, NotANumber}
use Rattle.request.specs.declared.constant.Constant.TheVariants.{Text, Ident, Message, List as ListOf}
use Rattle.request.specs.Table.{bool_tag, unsigned_tag, signed_tag, float_tag, string_tag, ident_tag, message_constant_tag}
use Rattle.request.specs.Table.{pair_field_tag, pair_extension_tag, pair_url_tag, list_tag}
use Rattle.request.specs.Tree.{PairName, unnamed, by_field, by_extension, by_url, Constants, none, scalar, message, list}
use Rattle.constantform.specs.Leaves.{is_url}

abbrev pub good_name : (s : List ℕ) → PairName → Bool
good_name s unnamed = true
good_name s (by_field p) = is_ident (text s p)
good_name s (by_extension p) = is_rel_path (text s p)
good_name s (by_url p) = is_url (text s p)

abbrev pub good_value : (s : List ℕ) → Constant → Bool
good_value s (BoolOf b) = true
good_value s (Integer m n) = true
good_value s (Float x) = true
good_value s (NotANumber b) = true
good_value s (Text p) = true
good_value s (Ident p) = is_ident (text s p)
good_value s (Message p) = false
good_value s (ListOf p) = false

abbrev pub good_constants : (s : List ℕ) → Constants → Bool
good_constants s none = true
good_constants s (scalar l c r) = good_name s l && good_value s c && good_constants s r
good_constants s (message l i r) = good_name s l && good_constants s i && good_constants s r
good_constants s (list l i r) = good_name s l && good_constants s i && good_constants s r

abbrev pub count_of : Constants → ℕ
count_of none = 0
count_of (scalar l c r) = 1 + count_of r
count_of (message l i r) = 1 + count_of r
count_of (list l i r) = 1 + count_of r

-- the tree has an integer's sign, not which of the two tags it had
abbrev pub kind_of : (tag : ℕ) → ℕ
kind_of t = elim (eqb t signed_tag) [ true ↦ unsigned_tag | false ↦ t ]

abbrev pub constant_tag : Constant → ℕ
constant_tag (BoolOf b) = bool_tag
constant_tag (Integer m n) = unsigned_tag
constant_tag (Float x) = float_tag
constant_tag (NotANumber b) = float_tag
constant_tag (Text p) = string_tag
constant_tag (Ident p) = ident_tag
constant_tag (Message p) = message_constant_tag
constant_tag (ListOf p) = list_tag

abbrev pub with_name : PairName → (tags : List ℕ) → List ℕ
with_name unnamed r = r
with_name (by_field p) r = pair_field_tag ∷ r
with_name (by_extension p) r = pair_extension_tag ∷ r
with_name (by_url p) r = pair_url_tag ∷ r

abbrev pub constant_tags : Constants → List ℕ
constant_tags none = []
constant_tags (scalar l c r) = with_name l (constant_tag c ∷ constant_tags r)
constant_tags (message l i r) = with_name l (message_constant_tag ∷ constant_tags r)
constant_tags (list l i r) = with_name l (list_tag ∷ constant_tags r)
