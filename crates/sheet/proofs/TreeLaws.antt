-- The laws of a sheet's tree: what a list of fields holds opens at its first field, and what one field holds goes by its tag. They are for
-- whoever walks over a sheet: the counts here, and the search to come.
-- Assumes nothing.
use Rattle.std.specs.Prelude.{◌≡◌, refl, List, [], ◌∷◌, ℕ, zero, suc, ◌-◌, ◌≤◌, ◌<◌, length, None, Some, Option}
use Rattle.basis.specs.Kit.{ap}
use Rattle.basis.proofs.Kit.{arith, ne_eqb}
use Rattle.limits.specs.Figures.{most_messages}
use Rattle.field.specs.Field.{field_at}
use Rattle.field.specs.Leaf.{span, any_bytes, leaf_at}
use Rattle.field.specs.Walk.{walk}
use Rattle.field.proofs.WalkLaws.{walk-done, walk-cut, walk_step}
use Rattle.sheet.specs.declared.declaration.Declaration.{Declaration}
use Rattle.sheet.specs.declared.declaration.Value.{Value}
use Rattle.sheet.specs.Table.{file_tag, message_tag, extension_tag, enum_tag, field_tag, value_tag, package_tag, name_tag}
use Rattle.sheet.specs.Declaration.{extension_at, message_field_at, value_at}
use Rattle.sheet.specs.Tree.{Items, none, message, extension, enumeration, field, File}
use Rattle.sheet.specs.Tree.{file_with, value_in, values_in, enum_in, item_in, message_in, items_in, file_in, files_in, tree_of}
use Rattle.field.specs.declared.Field.{Field}
use Rattle.field.specs.declared.Span.{Span}

-- ---- the values of an enum: none at the end or where the rest is cut, else what the first field is and what stands after it
module _ (s : List ℕ) (i to : ℕ) where
  pub values-end : to ≤ i → values_in s (walk s i to) ≡ []
  values-end h = ap (values_in s) (walk-done s i to h)

  module _ (h : i < to) (r : Option Field) (q : r ≡ field_at s i to) where
    pub values-cut : r ≡ None → values_in s (walk s i to) ≡ []
    values-cut g = ap (values_in s) (walk-cut s i to h r q g)

    pub values-step : (f : Field) → r ≡ Some f → values_in s (walk s i to) ≡ value_in s f.tag f.from f.to (values_in s (walk s f.to to))
    values-step f g = ap (values_in s) (walk_step s i to h r q f g)

module _ (s : List ℕ) (t a e : ℕ) (rest : List Value) where
  pub value-other : (t ≡ value_tag → ⊥) → value_in s t a e rest ≡ rest
  unfolding value_in
  value-other n = simp (value_in, ne_eqb t value_tag n)

  module _ (h : t ≡ value_tag) (r : Option Value) (q : r ≡ value_at s a e) where
    pub value_none : r ≡ None → value_in s t a e rest ≡ rest
    unfolding value_in
    value_none g = rw (h, ← q, g)

    pub value-some : (v : Value) → r ≡ Some v → value_in s t a e rest ≡ v ∷ rest
    unfolding value_in
    value-some v g = rw (h, ← q, g)

-- ---- what a file or a message holds, with d levels of messages left
module _ (d : ℕ) (s : List ℕ) (i to : ℕ) where
  pub items-end : to ≤ i → items_in d s (walk s i to) ≡ none
  unfolding items_in
  items-end h = ap (items_in d s) (walk-done s i to h)

  module _ (h : i < to) (r : Option Field) (q : r ≡ field_at s i to) where
    pub items-cut : r ≡ None → items_in d s (walk s i to) ≡ none
    unfolding items_in
    items-cut g = ap (items_in d s) (walk-cut s i to h r q g)

    pub items-step : (f : Field) → r ≡ Some f
        → items_in d s (walk s i to) ≡ item_in (message_in d s) s f.tag f.from f.to (items_in d s (walk s f.to to))
    unfolding items_in
    items-step f g = ap (items_in d s) (walk_step s i to h r q f g)

module _ (inner : ℕ → ℕ → Items → Items) (s : List ℕ) (t a e : ℕ) (rest : Items) where
  pub item-message : t ≡ message_tag → item_in inner s t a e rest ≡ inner a e rest
  unfolding item_in
  item-message h = rw h

  module _ (h : t ≡ extension_tag) (r : Option Declaration) (q : r ≡ extension_at s a e) where
    pub item-no-extension : r ≡ None → item_in inner s t a e rest ≡ rest
    unfolding item_in
    item-no-extension g = rw (h, ← q, g)

    pub item-extension : (x : Declaration) → r ≡ Some x → item_in inner s t a e rest ≡ extension x rest
    unfolding item_in
    item-extension x g = rw (h, ← q, g)

  pub item-enum : t ≡ enum_tag → item_in inner s t a e rest ≡ enum_in s a e rest
  unfolding item_in
  item-enum h = rw h

  module _ (h : t ≡ field_tag) (r : Option Declaration) (q : r ≡ message_field_at s a e) where
    pub item-no-field : r ≡ None → item_in inner s t a e rest ≡ rest
    unfolding item_in
    item-no-field g = rw (h, ← q, g)

    pub item-field : (x : Declaration) → r ≡ Some x → item_in inner s t a e rest ≡ field x rest
    unfolding item_in
    item-field x g = rw (h, ← q, g)

  pub item-other : (t ≡ message_tag → ⊥) → (t ≡ extension_tag → ⊥) → (t ≡ enum_tag → ⊥) → (t ≡ field_tag → ⊥) → item_in inner s t a e rest ≡ rest
  unfolding item_in
  item-other x y z w = simp (item_in, ne_eqb t message_tag x, ne_eqb t extension_tag y, ne_eqb t enum_tag z, ne_eqb t field_tag w)

-- an enum
module _ (s : List ℕ) (a e : ℕ) (rest : Items) (r : Option Span) (q : r ≡ leaf_at name_tag any_bytes s a e) where
  pub enum-unnamed : r ≡ None → enum_in s a e rest ≡ rest
  enum-unnamed g = rw (← q, g)

  pub enum-named : (p : Span) → r ≡ Some p → enum_in s a e rest ≡ enumeration p (span p.to e) (values_in s (walk s p.to e)) rest
  enum-named p g = rw (← q, g)

-- a message: with no level left it is left out
pub message-beyond : (d : ℕ) (s : List ℕ) (a e : ℕ) (rest : Items) → d ≡ 0 → message_in d s a e rest ≡ rest
message-beyond d s a e rest h = rw h

pub message-unnamed : (d : ℕ) (s : List ℕ) (a e : ℕ) (rest : Items) (r : Option Span) → r ≡ leaf_at name_tag any_bytes s a e → r ≡ None
    → message_in d s a e rest ≡ rest
message-unnamed zero s a e rest r q g = refl
message-unnamed (suc d) s a e rest r q g = rw (← q, g)

pub message-named : (d : ℕ) (s : List ℕ) (a e : ℕ) (rest : Items) → (d ≡ 0 → ⊥)
    → (r : Option Span) → r ≡ leaf_at name_tag any_bytes s a e → (u : Span) → r ≡ Some u
    → message_in d s a e rest ≡ message u (span u.to e) (items_in (d - 1) s (walk s u.to e)) rest
unfolding items_in
message-named zero s a e rest z r q u g = absurd (z refl)
message-named (suc d) s a e rest z r q u g = let p : suc d - 1 ≡ d = omega arith in rw (p, ← q, g)

-- ---- the files of a sheet
pub tree-files : (s : List ℕ) → tree_of s ≡ files_in s (walk s 0 (length s))
unfolding tree_of
tree-files s = refl

module _ (s : List ℕ) (i to : ℕ) where
  pub files-end : to ≤ i → files_in s (walk s i to) ≡ []
  files-end h = ap (files_in s) (walk-done s i to h)

  module _ (h : i < to) (r : Option Field) (q : r ≡ field_at s i to) where
    pub files-cut : r ≡ None → files_in s (walk s i to) ≡ []
    files-cut g = ap (files_in s) (walk-cut s i to h r q g)

    pub files-step : (f : Field) → r ≡ Some f → files_in s (walk s i to) ≡ file_in s f.tag f.from f.to (files_in s (walk s f.to to))
    files-step f g = ap (files_in s) (walk_step s i to h r q f g)

module _ (s : List ℕ) (t a e : ℕ) (rest : List File) where
  pub file-other : (t ≡ file_tag → ⊥) → file_in s t a e rest ≡ rest
  unfolding file_in
  file-other n = simp (file_in, ne_eqb t file_tag n)

  module _ (h : t ≡ file_tag) (r : Option Span) (q : r ≡ leaf_at package_tag any_bytes s a e) where
    pub file-unnamed : r ≡ None → file_in s t a e rest ≡ rest
    unfolding file_in
    file-unnamed g = rw (h, ← q, g)

    pub file-named : (p : Span) → r ≡ Some p
        → file_in s t a e rest ≡ file_with p (span p.to e) (items_in most_messages s (walk s p.to e)) ∷ rest
    unfolding file_in
    file-named p g = rw (h, ← q, g)
