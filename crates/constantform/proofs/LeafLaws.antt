-- The leaves of a request: the ways through `is_constant`, `is_bool`, `is_url`, `good_scalar`, `good_pair_name` and `good_part`.
-- Assumes nothing.
use Rattle.std.specs.Prelude.{◌≡◌, refl, Bool, true, false, ◌&&◌, ◌||◌, List, ℕ, eqb, leb, length, get_or}
use Rattle.basis.proofs.Kit.{eq-eqb, ne_eqb}
use Rattle.limits.specs.Figures.{most_url}
use Rattle.ident.specs.Ident.{is_ident}
use Rattle.path.specs.Path.{is_rel_path, is_path}
use Rattle.request.specs.Table.{bool_tag, unsigned_tag, signed_tag, float_tag, string_tag, ident_tag, message_constant_tag}
use Rattle.request.specs.Table.{pair_field_tag, pair_extension_tag, pair_url_tag, list_tag}
use Rattle.constantform.specs.Leaves.{is_constant, is_bool, is_url, good_scalar, good_pair_name, good_part}

pub constant_tag : (t : ℕ) → (leb bool_tag t && leb t message_constant_tag || eqb t list_tag) ≡ is_constant t
unfolding is_constant
constant_tag t = refl

-- ---- is_bool
module _ (bs : List ℕ) where
  pub bool-size : (length bs ≡ 1 → ⊥) → false ≡ is_bool bs
  unfolding is_bool
  bool-size n = simp (is_bool, ne_eqb (length bs) 1 n)

  pub bool-byte : length bs ≡ 1 → leb (get_or bs 0 0) 1 ≡ is_bool bs
  unfolding is_bool
  bool-byte h = simp (is_bool, eq-eqb (length bs) 1 h)

pub ruleset bool_laws = (bool-size, bool-byte)

pub url_size : (bs : List ℕ) → (leb 1 (length bs) && leb (length bs) most_url) ≡ is_url bs
unfolding is_url
url_size bs = refl

-- ---- good_scalar
module _ (t : ℕ) (bs : List ℕ) where
  pub scalar-bool : t ≡ bool_tag → (r : Bool) → r ≡ is_bool bs → r ≡ good_scalar t bs
  unfolding good_scalar
  scalar-bool h r q = rw h q

  pub scalar-string : t ≡ string_tag → true ≡ good_scalar t bs
  unfolding good_scalar
  scalar-string h = rw h

  pub scalar-ident : t ≡ ident_tag → (r : Bool) → r ≡ is_ident bs → r ≡ good_scalar t bs
  unfolding good_scalar
  scalar-ident h r q = rw h q

  module _ (b : t ≡ bool_tag → ⊥) (s : t ≡ string_tag → ⊥) (i : t ≡ ident_tag → ⊥) where
    pub scalar-number : (eqb t unsigned_tag || eqb t signed_tag || eqb t float_tag) ≡ true → eqb (length bs) 8 ≡ good_scalar t bs
    unfolding good_scalar
    scalar-number h = simp (good_scalar, ne_eqb t bool_tag b, ne_eqb t string_tag s, ne_eqb t ident_tag i, h)

    pub scalar-other : (eqb t unsigned_tag || eqb t signed_tag || eqb t float_tag) ≡ false → false ≡ good_scalar t bs
    unfolding good_scalar
    scalar-other h = simp (good_scalar, ne_eqb t bool_tag b, ne_eqb t string_tag s, ne_eqb t ident_tag i, h)

pub ruleset scalar_laws = (scalar-bool, scalar-string, scalar-ident, scalar-number, scalar-other)

-- ---- good_pair_name
module _ (t : ℕ) (bs : List ℕ) where
  pub pair-name-field : t ≡ pair_field_tag → (r : Bool) → r ≡ is_ident bs → r ≡ good_pair_name t bs
  unfolding good_pair_name
  pair-name-field h r q = rw h q

  pub pair-name-extension : t ≡ pair_extension_tag → (r : Bool) → r ≡ is_rel_path bs → r ≡ good_pair_name t bs
  unfolding good_pair_name
  pair-name-extension h r q = rw h q

  pub pair-name-url : t ≡ pair_url_tag → (r : Bool) → r ≡ is_url bs → r ≡ good_pair_name t bs
  unfolding good_pair_name
  pair-name-url h r q = rw h q

  pub pair-name-other : (t ≡ pair_field_tag → ⊥) → (t ≡ pair_extension_tag → ⊥) → (t ≡ pair_url_tag → ⊥) → false ≡ good_pair_name t bs
  unfolding good_pair_name
  pair-name-other f x u = simp (good_pair_name, ne_eqb t pair_field_tag f, ne_eqb t pair_extension_tag x, ne_eqb t pair_url_tag u)

pub ruleset pair_name_laws = (pair-name-field, pair-name-extension, pair-name-url, pair-name-other)

-- ---- good_part
module _ (x : Bool) (bs : List ℕ) where
  pub part-path : x ≡ true → (r : Bool) → r ≡ is_path bs → r ≡ good_part x bs
  unfolding good_part
  part-path h r q = rw h q

  pub part-ident : x ≡ false → (r : Bool) → r ≡ is_ident bs → r ≡ good_part x bs
  unfolding good_part
  part-ident h r q = rw h q

pub ruleset part_leaf_laws = (part-path, part-ident)
