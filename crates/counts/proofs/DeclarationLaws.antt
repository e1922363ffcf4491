-- The laws of counting: what a field holds and what follows it are counted apart, so that siblings are added up, and what each function
-- that counts comes to, with the bounds by which no sum wraps.
-- Assumes nothing.
use Rattle.std.specs.Prelude.{◌≡◌, refl, Bool, true, false, List, [], ◌∷◌, ℕ, zero, suc, ◌+◌, ◌-◌, ◌*◌, ◌≤◌, eqb, length, None, Some, Option}
use Rattle.basis.specs.Kit.{ap, ◌∙◌}
use Rattle.basis.proofs.Kit.{arith, eq-eqb, ne_eqb, w64, Fits}
use native.Mathlib.Nat.{le_refl, mul-le-mul_right}
use mir.Facts.{Fits-le}
use Rattle.limits.specs.Figures.{most_messages}
use Rattle.field.specs.Leaf.{span, any_bytes, on_leaf, leaf_at}
use Rattle.field.specs.Walk.{Walk, done, cut, step, walk}
use Rattle.field.proofs.LeafLaws.{leaf-bounds, leaf_inside}
use Rattle.sheet.specs.declared.declaration.Declaration.{Declaration}
use Rattle.sheet.specs.declared.declaration.Value.{Value}
use Rattle.sheet.specs.Table.{file_tag, message_tag, extension_tag, enum_tag, field_tag, value_tag, package_tag, name_tag}
use Rattle.sheet.specs.Declaration.{extension_at, message_field_at, value_at}
use Rattle.sheet.specs.Tree.{Items, none, message, enumeration, File, value_onto, value_in, values_in, enum_in, extension_in, field_in}
use Rattle.sheet.specs.Tree.{item_in, message_in, items_with, items_in, file_in, files_in, tree_of}
use Rattle.counts.specs.Declarations.{one, items_hold, files_hold}
use Rattle.counts.specs.inner.Fields.{declared_count, value_count, item_count, file_count}
use Rattle.field.proofs.Tally.{total}
use Rattle.field.specs.declared.fields.Fields.{Fields}
use Rattle.field.proofs.InFields.{TallyIn, tally-in-start, tally-in-next, tally_in_laws}
use Rattle.sheet.proofs.TreeLaws.{value-other, value_none, value-some, enum-unnamed, enum-named}
use Rattle.sheet.proofs.TreeLaws.{message-beyond, message-unnamed, message-named}
use Rattle.sheet.proofs.TreeLaws.{item-message, item-extension, item-no-extension, item-enum, item-field, item-no-field, item-other}
use Rattle.sheet.proofs.TreeLaws.{file-other, file-unnamed, file-named, tree-files}
use Rattle.field.specs.declared.Span.{Span}

-- ---- a field, and what follows it
module _ (s : List ℕ) (t a e : ℕ) where
  pub value-adds : (rest : List Value) → length (value_in s t a e rest) ≡ length (value_in s t a e []) + length rest
  unfolding value_in
  value-adds rest = go (eqb t value_tag) (value_at s a e)
    where
      go : (b : Bool) (v : Option Value)
          → length {A = Value} (elim b [ true ↦ value_onto v rest | false ↦ rest ])
          ≡ length {A = Value} (elim b [ true ↦ value_onto v [] | false ↦ [] ]) + length rest
      go true None = omega arith
      go true (Some v) = omega arith
      go false v = omega arith

  pub file-adds : (k : ℕ) (rest : List File) → files_hold k (file_in s t a e rest) ≡ files_hold k (file_in s t a e []) + files_hold k rest
  unfolding file_in
  file-adds k rest = go (eqb t file_tag) (leaf_at package_tag any_bytes s a e)
    where
      file : ℕ → ℕ → List File → List File
      file n m r = record { package_name = span n m; body = span m e; items = items_in most_messages s (walk s m e) } ∷ r

      go : (b : Bool) (l : Option Span)
          → files_hold k (elim b [ true ↦ on_leaf rest l (λ p. file p.from p.to rest) | false ↦ rest ])
          ≡ files_hold k (elim b [ true ↦ on_leaf [] l (λ q. file q.from q.to []) | false ↦ [] ]) + files_hold k rest
      go true None = omega arith
      go true (Some place) = omega arith
      go false l = omega arith

enum-adds : (k : ℕ) (s : List ℕ) (a e : ℕ) (rest : Items) → items_hold k (enum_in s a e rest) ≡ items_hold k (enum_in s a e none) + items_hold k rest
enum-adds k s a e rest = go (leaf_at name_tag any_bytes s a e)
  where
    go : (l : Option Span)
        → items_hold k (on_leaf rest l λ p. enumeration p (span p.to e) (values_in s (walk s p.to e)) rest)
        ≡ items_hold k (on_leaf none l λ q. enumeration q (span q.to e) (values_in s (walk s q.to e)) none) + items_hold k rest
    go None = omega arith
    go (Some it) = omega arith

-- a reader of messages, after which what follows is counted apart too
abbrev pub Adds : ℕ → (ℕ → ℕ → Items → Items) → Type 0
Adds k inner = (a e : ℕ) (rest : Items) → items_hold k (inner a e rest) ≡ items_hold k (inner a e none) + items_hold k rest

pub message-adds : (k d : ℕ) (s : List ℕ) → Adds k (message_in d s)
message-adds k zero s a e rest = omega arith
message-adds k (suc d) s a e rest = go (leaf_at name_tag any_bytes s a e)
  where
    go : (l : Option Span)
        → items_hold k (on_leaf rest l λ p. message p (span p.to e) (items_with (message_in d s) s (walk s p.to e)) rest)
        ≡ items_hold k (on_leaf none l λ q. message q (span q.to e) (items_with (message_in d s) s (walk s q.to e)) none) + items_hold k rest
    go None = omega arith
    go (Some it1) = omega arith

pub item-adds : (k : ℕ) (inner : ℕ → ℕ → Items → Items) → Adds k inner → (s : List ℕ) (t a e : ℕ) (rest : Items)
    → items_hold k (item_in inner s t a e rest) ≡ items_hold k (item_in inner s t a e none) + items_hold k rest
unfolding item_in
item-adds k inner i s t a e rest =
    go (eqb t message_tag) (eqb t extension_tag) (eqb t enum_tag) (eqb t field_tag) (extension_at s a e) (message_field_at s a e)
  where
    item : Bool → Bool → Bool → Bool → Option Declaration → Option Declaration → Items → Items
    item b b' b'' b''' x y r = elim b [
      | true ↦ inner a e r
      | false ↦ elim b' [
        | true ↦ extension_in x r
        | false ↦ elim b'' [ true ↦ enum_in s a e r | false ↦ elim b''' [ true ↦ field_in y r | false ↦ r ] ]
      ]
    ]

    go : (b b' b'' b''' : Bool) (x y : Option Declaration) → items_hold k (item b b' b'' b''' x y rest) ≡ items_hold k (item b b' b'' b''' x y none) + items_hold k rest
    go true b' b'' b''' x y = i a e rest
    go false true b'' b''' None y = omega arith
    go false true b'' b''' (Some x) y = omega arith
    go false false true b''' x y = enum-adds k s a e rest
    go false false false true x None = omega arith
    go false false false true x (Some y) = omega arith
    go false false false false x y = omega arith

-- ---- so the fields between two places are added up
values-total : (s : List ℕ) (w : Walk) → length (values_in s w) ≡ total (value_count s) w
values-total s done = refl
values-total s cut = refl
values-total s (step t a e w) = value-adds s t a e (values_in s w) ∙ ap (λ n. value_count s t a e + n) (values-total s w)

items-total : (k d : ℕ) (s : List ℕ) (w : Walk) → items_hold k (items_in d s w) ≡ total (item_count k d s) w
unfolding items_in
items-total k d s done = refl
items-total k d s cut = refl
items-total k d s (step t a e w) =
    item-adds k (message_in d s) (message-adds k d s) s t a e (items_in d s w) ∙ ap (λ n. item_count k d s t a e + n) (items-total k d s w)

files-total : (k : ℕ) (s : List ℕ) (w : Walk) → files_hold k (files_in s w) ≡ total (file_count k s) w
files-total k s done = refl
files-total k s cut = refl
files-total k s (step t a e w) = file-adds s t a e k (files_in s w) ∙ ap (λ n. file_count k s t a e + n) (files-total k s w)

-- ---- how the loops start
module _ (s : List ℕ) (from to : ℕ) (h : from ≤ to) (g : to ≤ length s) where
  module _ (it : Fields) (b : it.bytes.now ≡ s) (i : it.at ≡ from) (n : it.end ≡ to) where
    pub values-start : TallyIn (length (values_in s (walk s from to))) (total (value_count s)) s from to 0 it
    values-start = tally-in-start _ (total (value_count s)) s from to it (values-total s (walk s from to)) b i n h g

    pub items-start : (k d : ℕ) → TallyIn (items_hold k (items_in d s (walk s from to))) (total (item_count k d s)) s from to 0 it
    items-start k d = tally-in-start _ (total (item_count k d s)) s from to it (items-total k d s (walk s from to)) b i n h g

pub files-start : (k : ℕ) (s : List ℕ) (it : Fields) → it.bytes.now ≡ s → it.at ≡ 0 → it.end ≡ length s
    → TallyIn (files_hold k (tree_of s)) (total (file_count k s)) s 0 (length s) 0 it
files-start k s it b i n =
    rw (tree-files s)
    (tally-in-start _ (total (file_count k s)) s 0 (length s) it (files-total k s (walk s 0 (length s))) b i n (omega arith) (omega arith))

-- ---- one tag, one declaration, one value
module _ (k t : ℕ) where
  pub one_same : k ≡ t → 1 ≡ one k t
  one_same h = simp (one, eq-eqb k t h)

  pub one-other : (k ≡ t → ⊥) → 0 ≡ one k t
  one-other h = simp (one, ne_eqb k t h)

  module _ (d : Option Declaration) where
    pub declared-count-none : d ≡ None → 0 ≡ declared_count d k t
    declared-count-none g = rw g

    pub declared-count-some : (x : Declaration) → d ≡ Some x → (n : ℕ) → n ≡ one k t → n ≡ declared_count d k t
    declared-count-some x g n p = rw g p

pub ruleset one_laws = (one_same, one-other)

pub ruleset declared_count_laws = (declared-count-none, declared-count-some)

module _ (s : List ℕ) (t a e : ℕ) where
  pub value-count-other : (t ≡ value_tag → ⊥) → 0 ≡ value_count s t a e
  value-count-other n = rw (value-other s t a e [] n)

  module _ (h : t ≡ value_tag) (r : Option Value) (q : r ≡ value_at s a e) where
    pub value-count-none : r ≡ None → 0 ≡ value_count s t a e
    value-count-none g = rw (value_none s t a e [] h r q g)

    pub value-count-some : (v : Value) → r ≡ Some v → 1 ≡ value_count s t a e
    value-count-some v g = rw (value-some s t a e [] h r q v g)

pub ruleset value_count_laws = (value-count-other, value-count-none, value-count-some)

pub few-one : (n m : ℕ) → n ≤ 1 → n ≤ m + 1
few-one n m h = omega arith

pub ruleset values_count_laws = (values-start, few-one, tally_in_laws, tally-in-next)

-- ---- what has a name or a package: itself, x, and what it holds, y
module _ (k : ℕ) (s : List ℕ) (a e : ℕ) (r : Option Span) (q : r ≡ leaf_at k any_bytes s a e) (u : Span) (g : r ≡ Some u) (x y : ℕ) where
  pub holder-few : x ≤ 1 → y ≤ e - u.to → x + y ≤ e - a + 1
  holder-few p o = let b = leaf-bounds k any_bytes s a e r q u g in omega (arith, b.starts, b.ordered, b.inside)

  pub holder-fits : x ≤ 1 → y ≤ e - u.to → Fits w64 e → Fits w64 (x + y)
  holder-fits p o = let b = leaf-bounds k any_bytes s a e r q u g in Fits-le (omega (arith, b.starts, b.ordered, b.inside))

-- none or all of z
module _ (y z : ℕ) (h : y ≤ 1) where
  pub part-few : (l : ℕ) → z ≤ l → y * z ≤ l
  part-few l g = omega (arith, mul-le-mul_right z h)

  pub part-fits : Fits w64 z → Fits w64 (y * z)
  part-fits = Fits-le (part-few z (le_refl z))

pub ruleset holder_laws = (holder-few, holder-fits, leaf_inside)

module _ (k : ℕ) (s : List ℕ) (a e : ℕ) (r : Option Span) (q : r ≡ leaf_at name_tag any_bytes s a e) where
  pub enum-count-unnamed : r ≡ None → 0 ≡ items_hold k (enum_in s a e none)
  enum-count-unnamed g = rw (enum-unnamed s a e none r q g)

  pub enum-count-named : (u : Span) → r ≡ Some u → (x y z : ℕ) → x ≡ one k enum_tag → y ≡ one k value_tag
      → z ≡ length (values_in s (walk s u.to e)) → x + y * z ≡ items_hold k (enum_in s a e none)
  enum-count-named u g x y z p o l = rw (enum-named s a e none r q u g, p, o, l) (omega arith)

  module _ (d : ℕ) where
    pub message-count-unnamed : r ≡ None → 0 ≡ items_hold k (message_in d s a e none)
    message-count-unnamed g = rw (message-unnamed d s a e none r q g)

    pub message-count-named : (d ≡ 0 → ⊥) → (u : Span) → r ≡ Some u → (x y : ℕ) → x ≡ one k message_tag
        → y ≡ items_hold k (items_in (d - 1) s (walk s u.to e)) → x + y ≡ items_hold k (message_in d s a e none)
    message-count-named z u g x y p o = rw (message-named d s a e none z r q u g, p, o) (omega arith)

pub message-count-beyond : (k d : ℕ) (s : List ℕ) (a e : ℕ) → d ≡ 0 → 0 ≡ items_hold k (message_in d s a e none)
message-count-beyond k d s a e h = rw (message-beyond d s a e none h)

pub ruleset enum_count_laws = (enum-count-unnamed, enum-count-named, part-few, part-fits, holder_laws)

pub ruleset message_count_laws = (message-count-beyond, message-count-unnamed, message-count-named, holder_laws)

-- ---- a field of a file or a message
module _ (k d : ℕ) (s : List ℕ) (t a e n : ℕ) where
  pub item-count-message : t ≡ message_tag → n ≡ items_hold k (message_in d s a e none) → n ≡ item_count k d s t a e
  item-count-message h p = rw (item-message (message_in d s) s t a e none h) p

  pub item-count-extension : t ≡ extension_tag → (r : Option Declaration) → r ≡ extension_at s a e → n ≡ declared_count r k t → n ≡ item_count k d s t a e
  item-count-extension h None q p = rw (item-no-extension (message_in d s) s t a e none h None q refl) p
  item-count-extension h (Some x) q p =
      rw (item-extension (message_in d s) s t a e none h (Some x) q x refl) (p ∙ rw h (omega arith))

  pub item-count-enum : t ≡ enum_tag → n ≡ items_hold k (enum_in s a e none) → n ≡ item_count k d s t a e
  item-count-enum h p = rw (item-enum (message_in d s) s t a e none h) p

  pub item-count-field : t ≡ field_tag → (r : Option Declaration) → r ≡ message_field_at s a e → n ≡ declared_count r k t → n ≡ item_count k d s t a e
  item-count-field h None q p = rw (item-no-field (message_in d s) s t a e none h None q refl) p
  item-count-field h (Some x) q p =
      rw (item-field (message_in d s) s t a e none h (Some x) q x refl) (p ∙ rw h (omega arith))

pub item-count-other : (k d : ℕ) (s : List ℕ) (t a e : ℕ)
    → (t ≡ message_tag → ⊥) → (t ≡ extension_tag → ⊥) → (t ≡ enum_tag → ⊥) → (t ≡ field_tag → ⊥) → 0 ≡ item_count k d s t a e
item-count-other k d s t a e x y z w = rw (item-other (message_in d s) s t a e none x y z w)

pub ruleset item_count_laws = (item-count-message, item-count-extension, item-count-enum, item-count-field, item-count-other)

pub ruleset items_count_laws = (items-start, tally_in_laws, tally-in-next)

-- ---- a field of a sheet
module _ (k : ℕ) (s : List ℕ) (t a e : ℕ) where
  pub file-count-other : (t ≡ file_tag → ⊥) → 0 ≡ file_count k s t a e
  file-count-other h = rw (file-other s t a e [] h)

  module _ (h : t ≡ file_tag) (r : Option Span) (q : r ≡ leaf_at package_tag any_bytes s a e) where
    pub file-count-unnamed : r ≡ None → 0 ≡ file_count k s t a e
    file-count-unnamed g = rw (file-unnamed s t a e [] h r q g)

    pub file-count-named : (u : Span) → r ≡ Some u → (x y : ℕ) → x ≡ one k file_tag → y ≡ items_hold k (items_in most_messages s (walk s u.to e))
        → x + y ≡ file_count k s t a e
    file-count-named u g x y p o = rw (file-named s t a e [] h r q u g, p, o) (omega arith)

pub ruleset file_count_laws = (file-count-other, file-count-unnamed, file-count-named, holder_laws)

pub ruleset files_count_laws = (files-start, tally_in_laws, tally-in-next)
