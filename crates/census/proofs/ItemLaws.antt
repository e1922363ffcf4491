-- The laws of counting over the sheet: what a field holds and what follows it are counted apart, so that siblings are added up, and what
-- each function that walks comes to, with the bounds by which no sum wraps.
--
--   item_asked m x o s w d t a e == how many are asked for in a field of a scope that stands w to the full name m, with d levels left
--       file_asked m x o s t a e == how many are in a field of a sheet
--
-- Assumes nothing.
use Rattle.std.specs.Prelude.{◌≡◌, refl, Bool, true, false, ◌&&◌, List, [], ℕ, ◌+◌, ◌-◌, ◌*◌, ◌≤◌, ◌<◌, eqb, ltb, length, None, Some, Option}
use Rattle.basis.specs.Kit.{ap, ◌∙◌}
use Rattle.basis.proofs.Kit.{arith, not-true, not-false, w64, Fits}
use Rattle.basis.proofs.Never.{never}
use mathlib.Core.Bool.{not}
use borrow.Author.Tests.{ltb-true, ltb-false, eqb-true}
use mir.Facts.{Fits-le}
use Rattle.limits.specs.Figures.{most_messages}
use Rattle.octets.specs.Octets.{part}
use Rattle.field.specs.Leaf.{any_bytes, leaf_at}
use Rattle.field.specs.Walk.{Walk, done, cut, step, walk}
use Rattle.field.proofs.LeafLaws.{leaf-bounds, leaf_inside, leaf-ordered, leaf-within}
use Rattle.field.proofs.Tally.{total}
use Rattle.field.specs.declared.fields.Fields.{Fields}
use Rattle.field.proofs.InFields.{TallyIn, tally-in-start, tally-in-next, tally_in_laws}
use Rattle.sheet.specs.Table.{file_tag, message_tag, package_tag, name_tag}
use Rattle.sheet.specs.Tree.{Items, none, File, item_in, message_in, items_in, file_in, files_in, tree_of}
use Rattle.sheet.proofs.TreeLaws.{item-message, message-unnamed, message-named}
use Rattle.sheet.proofs.TreeLaws.{file-other, file-unnamed, file-named, tree-files}
use Rattle.sheet.proofs.MemberLaws.{item-cases, file-cases}
use Rattle.sheet.proofs.ShapeLaws.{Placed as Lying}
use Rattle.names.specs.Names.{every_declared}
use Rattle.scope.specs.inner.Steps.{item_at, file_at}
use Rattle.likeness.specs.declared.Like.{Like}
use Rattle.likeness.specs.declared.Way.{Way}
use Rattle.likeness.specs.declared.Way.TheVariants.{Own, Within, Off}
use Rattle.census.specs.declared.Asked.{Asked}
use Rattle.census.specs.declared.Asked.TheVariants.{Bearers, Numbers}
use Rattle.census.specs.inner.Census.{bearing, numbered, asked-bearers, asked-numbers, onward, file_way, own, open_to}
use Rattle.census.specs.inner.Census.{items_asked, files_asked}
use Rattle.census.proofs.BearersLaws.{bearers-is, open-whole}
use Rattle.census.proofs.NumbersLaws.{numbered_is}
use Rattle.census.proofs.OtherLaws.{none-few}
use Rattle.field.specs.declared.Span.{Span}

abbrev pub item_asked : (m : List ℕ) (x : Asked) (o s : List ℕ) (w : Way) (left tag from to : ℕ) → ℕ
item_asked m x o s w d t a e = items_asked m x o s w (item_at d s t a e)

abbrev pub file_asked : (m : List ℕ) (x : Asked) (o s : List ℕ) (tag from to : ℕ) → ℕ
file_asked m x o s t a e = files_asked m x o s (file_at s t a e)

-- ---- open_to
module _ (x : Asked) (w : Way) (a e : ℕ) where
  pub open-numbers : (l : Like) → x ≡ Numbers l → e ≡ open_to x w a e
  open-numbers l h = rw h

  module _ (k : ℕ) (h : x ≡ Bearers k) where
    pub open_own : w ≡ Own → a ≡ open_to x w a e
    open_own z = rw (h, z)

    pub open-within : (at : ℕ) → w ≡ Within at → e ≡ open_to x w a e
    open-within at z = rw (h, z)

    pub open-off : w ≡ Off → a ≡ open_to x w a e
    open-off z = rw (h, z)

pub ruleset open_laws = (open-numbers, open_own, open-within, open-off)

open-bounds : (x : Asked) (w : Way) (a e : ℕ) → a ≤ e → Lying e a (open_to x w a e)
open-bounds (Bearers k) Own a e h = record { ordered = omega arith; inside = h }
open-bounds (Bearers k) (Within at) a e h = record { ordered = h; inside = omega arith }
open-bounds (Bearers k) Off a e h = record { ordered = omega arith; inside = h }
open-bounds (Numbers l) w a e h = record { ordered = h; inside = omega arith }

-- ---- a field, and what follows it
module _ (m : List ℕ) (x : Asked) (o s : List ℕ) where
  item-adds : (w : Way) (d t a e : ℕ) (rest : Items)
      → items_asked m x o s w (item_in (message_in d s) s t a e rest) ≡ item_asked m x o s w d t a e + items_asked m x o s w rest
  item-adds w d t a e rest =
      item-cases (λ f. items_asked m x o s w (f rest) ≡ items_asked m x o s w (f none) + items_asked m x o s w rest) s a e (omega arith) d t
      (λ _ _ n _. omega arith) (λ _ y _. omega arith) (λ _ n _. omega arith) (λ _ y _. omega arith)

  items-total : (w : Way) (d : ℕ) (k : Walk) → items_asked m x o s w (items_in d s k) ≡ total (item_asked m x o s w d) k
  unfolding items_in
  items-total w d done = refl
  items-total w d cut = refl
  items-total w d (step t a e k) =
      item-adds w d t a e (items_in d s k) ∙ ap (λ n. item_asked m x o s w d t a e + n) (items-total w d k)

  file-adds : (t a e : ℕ) (rest : List File)
      → files_asked m x o s (file_in s t a e rest) ≡ file_asked m x o s t a e + files_asked m x o s rest
  file-adds t a e rest =
      file-cases (λ f. files_asked m x o s (f rest) ≡ files_asked m x o s (f []) + files_asked m x o s rest) s t a e (omega arith)
      λ n _. omega arith

  files-total : (k : Walk) → files_asked m x o s (files_in s k) ≡ total (file_asked m x o s) k
  files-total done = refl
  files-total cut = refl
  files-total (step t a e k) = file-adds t a e (files_in s k) ∙ ap (λ n. file_asked m x o s t a e + n) (files-total k)

  -- ---- how the loops start
  pub items-start : (w : Way) (d a e u : ℕ) → u ≡ open_to x w a e → a ≤ e → e ≤ length s
      → (it : Fields) → it.bytes.now ≡ s → it.at ≡ a → it.end ≡ u
      → TallyIn (items_asked m x o s w (items_in d s (walk s a u))) (total (item_asked m x o s w d)) s a u 0 it
  items-start w d a e u q h k it b i n =
      let z = open-bounds x w a e h in
      tally-in-start _ (total (item_asked m x o s w d)) s a u it (items-total w d (walk s a u)) b i n
      (omega (arith, z.ordered)) (omega (arith, z.inside))

  pub files-start : (it : Fields) → it.bytes.now ≡ s → it.at ≡ 0 → it.end ≡ length s
      → TallyIn (files_asked m x o s (tree_of s)) (total (file_asked m x o s)) s 0 (length s) 0 it
  files-start it b i n =
      tally-in-start _ (total (file_asked m x o s)) s 0 (length s) it
      (ap (files_asked m x o s) (tree-files s) ∙ files-total (walk s 0 (length s))) b i n (omega arith) (omega arith)

-- ---- in_item
pub few-one : (y k : ℕ) → y ≤ 1 → y ≤ k + 1
few-one y k h = omega arith

-- a message with no level left is passed over, as what is none
level-other : (d : ℕ) (s : List ℕ) (t a e : ℕ) → (eqb t message_tag && ltb 0 d) ≡ false → item_at 0 s t a e ≡ item_at d s t a e
unfolding item_in
level-other d s t a e h = go (eqb t message_tag) refl h
  where
    go : (b : Bool) → eqb t message_tag ≡ b → (b && ltb 0 d) ≡ false → item_at 0 s t a e ≡ item_at d s t a e
    go false q h = simp (item_in, q)
    go true q h = let z : d ≡ 0 = omega (arith, ltb-false 0 d h) in rw z

module _ (d t : ℕ) (h : not (eqb t message_tag && ltb 0 d) ≡ false) where
  pub level-left : 1 ≤ d
  level-left = go (eqb t message_tag) (not-false (eqb t message_tag && ltb 0 d) h)
    where
      go : (b : Bool) → (b && ltb 0 d) ≡ true → 1 ≤ d
      go true h = ltb-true 0 d h
      go false h = never cc

  pub level-falls : (k : ℕ) → 2 * d ≡ k → 2 * (d - 1) + 1 < k
  level-falls k q = omega (arith, level-left)

module _ (m : List ℕ) (x : Asked) (o s : List ℕ) (w : Way) (d t a e : ℕ) where
  pub in-item-other : (eqb t message_tag && ltb 0 d) ≡ false → (y : ℕ) → y ≡ items_asked m x o s w (item_at 0 s t a e)
      → y ≡ items_asked m x o s w (item_at d s t a e)
  in-item-other h y p = p ∙ ap (items_asked m x o s w) (level-other d s t a e h)

  module _ (h : (eqb t message_tag && ltb 0 d) ≡ true) (r : Option Span) (q : r ≡ leaf_at name_tag any_bytes s a e) where
    is-message : t ≡ message_tag
    is-message = go (eqb t message_tag) refl h
      where
        go : (b : Bool) → eqb t message_tag ≡ b → (b && ltb 0 d) ≡ true → t ≡ message_tag
        go true q h = eqb-true t message_tag q
        go false q h = never cc

    pub in-item-unnamed : r ≡ None → 0 ≡ items_asked m x o s w (item_at d s t a e)
    in-item-unnamed g = rw (item-message (message_in d s) s t a e none is-message, message-unnamed d s a e none r q g)

    pub in-item-named : (l : Span) → r ≡ Some l → (v : Way) → v ≡ onward m w (part s l.from l.to)
        → (y : ℕ) → y ≡ own x message_tag v → (u : ℕ) → u ≡ items_asked m x o s v (items_in (d - 1) s (walk s l.to e))
        → y + u ≡ items_asked m x o s w (item_at d s t a e)
    in-item-named l g v k y p u p' =
        let z : d ≡ 0 → ⊥ = λ z. omega (arith, level-left d t (rw h)) in
        rw (item-message (message_in d s) s t a e none is-message, message-named d s a e none z r q l g, p, p', k) (omega arith)

-- a message itself, and what it holds
module _ (s : List ℕ) (a e : ℕ) (r : Option Span) (q : r ≡ leaf_at name_tag any_bytes s a e) (p : Span) (g : r ≡ Some p) (y u : ℕ) (h : y ≤ 1)
    (k : u ≤ e - p.to) where
  pub message-few : y + u ≤ e - a + 1
  message-few = let x = leaf-bounds name_tag any_bytes s a e r q p g in omega (arith, x.starts, x.ordered, x.inside)

  pub message-fits : Fits w64 e → Fits w64 (y + u)
  message-fits = let x = leaf-bounds name_tag any_bytes s a e r q p g in Fits-le (omega (arith, x.starts, x.ordered, x.inside))

pub ruleset in_item_laws = (
  in-item-other,
  in-item-unnamed,
  in-item-named,
  level-left,
  level-falls,
  message-few,
  message-fits,
  none-few,
  few-one,
  leaf_inside,
  leaf-ordered,
  leaf-within,
  not-true,
  not-false,
)

-- ---- in_items
pub open-counts : (m : List ℕ) (x : Asked) (o s : List ℕ) (w : Way) (d a e u : ℕ) → u ≡ open_to x w a e
    → (y : ℕ) → y ≡ items_asked m x o s w (items_in d s (walk s a u)) → y ≡ items_asked m x o s w (items_in d s (walk s a e))
open-counts m x o s w d a e u q y p = rw q at p ∙ open-whole m x o s w d a e

pub open-few : (x : Asked) (w : Way) (a e u : ℕ) → u ≡ open_to x w a e → a ≤ e → (y : ℕ) → y ≤ u - a → y ≤ e - a
open-few x w a e u q h y p = let z = open-bounds x w a e h in omega (arith, z.inside, q)

pub ruleset in_items_laws = (items-start, open-counts, open-few, tally_in_laws, tally-in-next)

-- ---- in_file
-- what stands after a package counts for no more than its bytes
pub file-few : (s : List ℕ) (a e : ℕ) (r : Option Span) → r ≡ leaf_at package_tag any_bytes s a e → (p : Span) → r ≡ Some p
    → (y : ℕ) → y ≤ e - p.to → y ≤ e - a + 1
file-few s a e r q p g y h =
    let x = leaf-bounds package_tag any_bytes s a e r q p g in omega (arith, x.starts, x.ordered, x.inside)

module _ (m : List ℕ) (x : Asked) (o s : List ℕ) (t a e : ℕ) where
  pub in-file-other : (t ≡ file_tag → ⊥) → 0 ≡ files_asked m x o s (file_at s t a e)
  in-file-other h = rw (file-other s t a e [] h)

  module _ (h : t ≡ file_tag) (r : Option Span) (q : r ≡ leaf_at package_tag any_bytes s a e) where
    pub in-file-unnamed : r ≡ None → 0 ≡ files_asked m x o s (file_at s t a e)
    in-file-unnamed g = rw (file-unnamed s t a e [] h r q g)

    pub in-file-named : (l : Span) → r ≡ Some l → (v : Way) → v ≡ file_way m (part s l.from l.to)
        → (y : ℕ) → y ≡ items_asked m x o s v (items_in most_messages s (walk s l.to e)) → y ≡ files_asked m x o s (file_at s t a e)
    in-file-named l g v u y p = rw (file-named s t a e [] h r q l g, p, u) (omega arith)

pub ruleset in_file_laws = (in-file-other, in-file-unnamed, in-file-named, none-few, file-few, leaf_inside, leaf-ordered, leaf-within)

-- ---- in_files
pub ruleset in_files_laws = (files-start, tally_in_laws, tally-in-next)

-- ---- bearers and numbered
pub bearers-counts : (k : ℕ) (m o s : List ℕ) (y : ℕ) → y ≡ files_asked m (Bearers k) o s (tree_of s) → y ≡ bearing k m (every_declared s)
bearers-counts k m o s y p = p ∙ bearers-is k m o s

pub ruleset bearers_laws = (bearers-counts, asked-bearers)

pub numbered-counts : (m : List ℕ) (l : Like) (o s : List ℕ) (y : ℕ) → y ≡ files_asked m (Numbers l) o s (tree_of s) → y ≡ numbered m l o s
numbered-counts m l o s y p = p ∙ numbered_is m l o s

pub ruleset numbered_laws = (numbered-counts, asked-numbers)
