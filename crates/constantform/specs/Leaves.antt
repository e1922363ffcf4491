-- What the leaves of a request may hold, by their tags, from 01's "Sheet and request". All of it is form (01, Replies: "all other figures
-- are form (1 or 2)").
--
--        is_constant t <=> t is the tag of a constant
--           is_bool bs <=> the bytes are a bool
--            is_url bs <=> the bytes are a type URL
--     good_scalar t bs <=> the bytes are the payload of a constant of the tag t that is no message and no list
--   good_pair_name t bs <=> the bytes are the payload of a pair's name of the tag t
--       good_part x bs <=> the bytes are the payload of a part, of an extension part where x holds
--
-- Assumes nothing.
use Rattle.std.specs.Prelude.{Bool, true, false, ◌&&◌, ◌||◌, List, ℕ, eqb, leb, length, get_or}
use Rattle.limits.specs.Figures.{most_url}
use Rattle.ident.specs.Ident.{is_ident}
use Rattle.path.specs.Path.{is_rel_path, is_path}
use Rattle.request.specs.Table.{bool_tag, unsigned_tag, signed_tag, float_tag, string_tag, ident_tag, message_constant_tag}
use Rattle.request.specs.Table.{pair_field_tag, pair_extension_tag, pair_url_tag, list_tag}

-- 20 to 26, and 2A
unfoldable pub is_constant : (tag : ℕ) → Bool
is_constant t = leb bool_tag t && leb t message_constant_tag || eqb t list_tag

-- "20 bool (one byte, 0 or 1)" [FORM-4]
unfoldable pub is_bool : List ℕ → Bool
is_bool bs = eqb (length bs) 1 && leb (get_or bs 0 0) 1

-- "29 type URL of 1 to 255 bytes" [FORM-4, NAME-6]
unfoldable pub is_url : List ℕ → Bool
is_url bs = leb 1 (length bs) && leb (length bs) most_url

-- "21 unsigned, 22 signed (8 bytes each); 23 a float constant, eight bytes, its f64 bits; 24 string, already unescaped; 25 identifier"
-- [FORM-4, FORM-12, LIMIT-3]
unfoldable pub good_scalar : (tag : ℕ) (bytes : List ℕ) → Bool
good_scalar t bs = elim (eqb t bool_tag) [
  | true ↦ is_bool bs
  | false ↦ elim (eqb t string_tag) [
    | true ↦ true
    | false ↦ elim (eqb t ident_tag) [
      | true ↦ is_ident bs
      | false ↦ (eqb t unsigned_tag || eqb t signed_tag || eqb t float_tag) && eqb (length bs) 8
    ]
  ]
]

-- "a name (27 field, 28 extension path, 29 type URL ..)"; "only 1B may lead with a dot" [FORM-4, NAME-3]
unfoldable pub good_pair_name : (tag : ℕ) (bytes : List ℕ) → Bool
good_pair_name t bs = elim (eqb t pair_field_tag) [
  | true ↦ is_ident bs
  | false ↦ elim (eqb t pair_extension_tag) [
    | true ↦ is_rel_path bs
    | false ↦ elim (eqb t pair_url_tag) [ true ↦ is_url bs | false ↦ false ]
  ]
]

-- "1A direct part, 1B extension part" [FORM-3, NAME-3]
unfoldable pub good_part : (extension : Bool) (bytes : List ℕ) → Bool
good_part extension bs = elim extension [ true ↦ is_path bs | false ↦ is_ident bs ]
