-- Where the parts of a sheet's tree lie: every place in it is one of the sheet, at every depth, and there are fewer files than bytes.
--
--       Lying s i <-> the declarations among the items, and the bodies of messages and enums, lie in s, at every depth
--   FileLies s f <-> the file's body lies in s, and its items are what stands there
--   Filed s fs   <-> so do all of the files
--
-- Assumes nothing.
use Rattle.std.specs.Prelude.{◌≡◌, refl, List, [], ◌∷◌, ℕ, zero, suc, ◌-◌, ◌≤◌, length, Some}
use Rattle.basis.specs.Kit.{sym}
use Rattle.basis.proofs.Kit.{arith}
use Rattle.limits.specs.Figures.{most_messages}
use Rattle.field.specs.declared.Span.{Span}
use Rattle.field.specs.Leaf.{span, any_bytes, leaf_at, Lies}
use Rattle.field.specs.Walk.{walk}
use Rattle.field.proofs.LeafLaws.{leaf_inside}
use Rattle.field.proofs.WalkLaws.{walk-holds}
use Rattle.sheet.specs.declared.declaration.Declaration.{Declaration}
use Rattle.sheet.specs.declared.declaration.Value.{Value}
use Rattle.sheet.specs.Table.{package_tag, name_tag}
use Rattle.sheet.specs.Tree.{Items, none, message, extension, enumeration, field, item_in, message_in, items_in}
use Rattle.sheet.specs.Tree.{File, files_in, tree_of}
use Rattle.sheet.proofs.PlaceLaws.{Places, extension-places, field-places}
use Rattle.sheet.proofs.MemberLaws.{item-cases, file-cases}

-- ---- items
pub places-within : (end to : ℕ) (d : Declaration) → Places end d → end ≤ to → Places to d
places-within end to d p h =
    record {
      name = record { ordered = p.name.ordered; inside = omega (arith, p.name.inside) };
      extendee = record { ordered = p.extendee.ordered; inside = omega (arith, p.extendee.inside) };
      path = record { ordered = p.path.ordered; inside = omega (arith, p.path.inside) };
    }

pub data Lying (s : List ℕ) : Items → Type 0 where
  lying_none : Lying s none
  lying-message : {n b : Span} {i r : Items} → Lies b s → Lying s i → Lying s r → Lying s (message n b i r)
  lying-extension : {d : Declaration} {r : Items} → Places (length s) d → Lying s r → Lying s (extension d r)
  lying-enum : {n b : Span} {vs : List Value} {r : Items} → Lies b s → Lying s r → Lying s (enumeration n b vs r)
  lying-field : {d : Declaration} {r : Items} → Places (length s) d → Lying s r → Lying s (field d r)

module _ (d : ℕ) (s : List ℕ) (t a e : ℕ) (rest : Items) (h : e ≤ length s) (k : Lying s rest) where
  body-lies : (g : ℕ) (q : Span) → leaf_at g any_bytes s a e ≡ Some q → Lies (span q.to e) s
  body-lies g q p = (leaf_inside g any_bytes s a e (Some q) (sym p) q refl, h)

  item-lies : ((d ≡ 0 → ⊥) → (at : ℕ) → Lying s (items_in (d - 1) s (walk s at e))) → Lying s (item_in (message_in d s) s t a e rest)
  item-lies inner =
      item-cases (λ f. Lying s (f rest)) s a e k d t
      (λ _ z n p. lying-message (body-lies name_tag n p) (inner z n.to) k)
      (λ _ x p. lying-extension (places-within e (length s) x (extension-places s a e x (sym p)) h) k)
      (λ _ n p. lying-enum (body-lies name_tag n p) k)
      (λ _ x p. lying-field (places-within e (length s) x (field-places s a e x (sym p)) h) k)

-- at one depth, where it is so at the next
level-lies : (d : ℕ) (s : List ℕ) (at end : ℕ) → end ≤ length s
    → ((d ≡ 0 → ⊥) → (at end : ℕ) → end ≤ length s → Lying s (items_in (d - 1) s (walk s at end)))
    → Lying s (items_in d s (walk s at end))
unfolding items_in
level-lies d s at end h inner =
    walk-holds s end (λ _ w. Lying s (items_in d s w)) (λ _. lying_none) (λ _. lying_none)
    (λ _ t a e w b k. let g : e ≤ length s = omega (arith, b.inside) in item-lies d s t a e (items_in d s w) g k λ z at. inner z at e g) at

pub items_lie : (d : ℕ) (s : List ℕ) (at end : ℕ) → end ≤ length s → Lying s (items_in d s (walk s at end))
items_lie zero s at end h = level-lies zero s at end h λ z. absurd (z refl)
items_lie (suc d) s at end h =
    level-lies (suc d) s at end h λ _ at end g. let same : suc d - 1 ≡ d = omega arith in rw same (items_lie d s at end g)

-- ---- files
pub record FileLies (s : List ℕ) (f : File) : Type 0 where
  pub ordered : f.body.from ≤ f.body.to
  pub within : f.body.to ≤ length s
  pub held : f.items ≡ items_in most_messages s (walk s f.body.from f.body.to)

pub data Filed (s : List ℕ) : List File → Type 0 where
  filed-none : Filed s []
  filed-one : {f : File} {fs : List File} → FileLies s f → Filed s fs → Filed s (f ∷ fs)

pub files-lie : (s : List ℕ) (at end : ℕ) → end ≤ length s → Filed s (files_in s (walk s at end))
files-lie s at end h =
    walk-holds s end (λ _ w. Filed s (files_in s w)) (λ _. filed-none) (λ _. filed-none)
    (λ _ t a e w b k. file-cases (λ f. Filed s (f (files_in s w))) s t a e k λ n p.
    filed-one
    (record {
      ordered = leaf_inside package_tag any_bytes s a e (Some n) (sym p) n refl;
      within = omega (arith, b.inside);
      held = refl;
    })
    k)
    at

pub tree-lies : (s : List ℕ) → Filed s (tree_of s)
unfolding tree_of
tree-lies s = files-lie s 0 (length s) (omega arith)

-- each file takes more than a byte
pub files-few : (s : List ℕ) (at end : ℕ) → length (files_in s (walk s at end)) ≤ end - at
files-few s at end =
    walk-holds s end (λ at w. length (files_in s w) ≤ end - at) (λ at. omega arith) (λ at. omega arith)
    (λ at t a e w b k.
    let x = b.starts in
    let y = b.ordered in
    let z = b.inside in
    file-cases (λ f. length (f (files_in s w)) ≤ end - at) s t a e (omega arith) λ n p. omega arith)
    at

pub tree-few : (s : List ℕ) → length (tree_of s) ≤ length s
unfolding tree_of
tree-few s = omega (arith, files-few s 0 (length s))
