-- Where that stands which a sheet declares: a message holds what stands at its place, an enum its values, and all places are of the sheet.
--
--   Stands s w <-> it is so of w
--
-- Assumes nothing.
use Rattle.std.specs.Prelude.{◌≡◌, refl, List, ℕ, zero, suc, ◌+◌, ◌-◌, ◌≤◌, length, Some}
use Rattle.basis.specs.Kit.{sym}
use mathlib.Core.Path.{subst}
use Rattle.basis.proofs.Kit.{arith}
use Rattle.basis.proofs.FirstLaws.{Every, none_of, one_of, every_append}
use Rattle.limits.specs.Figures.{most_messages}
use Rattle.field.specs.Leaf.{span, any_bytes, leaf_at, text, Lies}
use Rattle.field.specs.Walk.{walk}
use Rattle.field.proofs.LeafLaws.{leaf_inside}
use Rattle.field.proofs.WalkLaws.{walk-holds}
use Rattle.sheet.specs.Table.{name_tag}
use Rattle.sheet.specs.Tree.{Items, item_in, message_in, items_in, values_in, File}
use Rattle.sheet.proofs.PlaceLaws.{Places, extension-places}
use Rattle.sheet.proofs.MemberLaws.{item-cases}
use Rattle.sheet.proofs.LyingLaws.{places-within, Filed, filed-none, filed-one, tree-lies}
use Rattle.scope.specs.Scope.{Scope, file_scope}
use Rattle.names.specs.Names.{What, message, enumeration, extension, Named, file_front, declared_in, declared_by, every_declared}
use Rattle.field.specs.declared.Span.{Span}

abbrev pub Stands : (s : List ℕ) → What → Type 0
Stands s (message c) =
    Lies c.place.body s × (c.items ≡ items_in c.place.left s (walk s c.place.body.from c.place.body.to))
Stands s (enumeration e) = Lies e.body s × (e.values ≡ values_in s (walk s e.body.from e.body.to))
Stands s (extension d) = Places (length s) d

abbrev All : (s : List ℕ) → List Named → Type 0
All s bs = Every (λ b. Stands s b.what) bs

module _ (d : ℕ) (s f : List ℕ) (c : Scope) (same : c.place.left ≡ d) (t a e : ℕ) (rest : Items) (h : e ≤ length s)
    (k : All s (declared_in s f c rest)) where
  body-lies : (q : Span) → leaf_at name_tag any_bytes s a e ≡ Some q → Lies (span q.to e) s
  body-lies q p = (leaf_inside name_tag any_bytes s a e (Some q) (sym p) q refl, h)

  item-stands : ((d ≡ 0 → ⊥) → (f : List ℕ) (c : Scope) → c.place.left ≡ d - 1 → (at : ℕ)
      → All s (declared_in s f c (items_in (d - 1) s (walk s at e))))
      → All s (declared_in s f c (item_in (message_in d s) s t a e rest))
  item-stands inner =
      item-cases (λ g. All s (declared_in s f c (g rest))) s a e k d t
      (λ _ z n p. one_of (body-lies n p, rw same refl) (every_append _ (inner z _ _ (rw same refl) n.to) k))
      (λ _ x p. one_of (places-within e (length s) x (extension-places s a e x (sym p)) h) k)
      (λ _ n p. one_of (body-lies n p, refl) k)
      (λ _ x p. k)

-- at one depth, where it is so at the next
level-stands : (d : ℕ) (s f : List ℕ) (c : Scope) → c.place.left ≡ d → (at end : ℕ) → end ≤ length s
    → ((d ≡ 0 → ⊥) → (f : List ℕ) (c : Scope) → c.place.left ≡ d - 1 → (at end : ℕ) → end ≤ length s
    → All s (declared_in s f c (items_in (d - 1) s (walk s at end))))
    → All s (declared_in s f c (items_in d s (walk s at end)))
unfolding items_in
level-stands d s f c same at end h inner =
    walk-holds s end (λ _ w. All s (declared_in s f c (items_in d s w))) (λ _. none_of) (λ _. none_of)
    (λ _ t a e w b k. let g : e ≤ length s = omega (arith, b.inside) in
    item-stands d s f c same t a e (items_in d s w) g k λ z f c q at. inner z f c q at e g) at

items-stand : (d : ℕ) (s f : List ℕ) (c : Scope) → c.place.left ≡ d → (at end : ℕ) → end ≤ length s
    → All s (declared_in s f c (items_in d s (walk s at end)))
items-stand zero s f c same at end h = level-stands zero s f c same at end h λ z. absurd (z refl)
items-stand (suc d) s f c same at end h =
    level-stands (suc d) s f c same at end h λ _ f c q at end g.
    let u : suc d - 1 ≡ d = omega arith in rw u (items-stand d s f c (rw u at q) at end g)

files-stand : (s : List ℕ) {fs : List File} → Filed s fs → (k : ℕ) → All s (declared_by s k fs)
files-stand s filed-none k = none_of
files-stand s (filed-one {f} q r) k =
    let front = file_front (text s f.package_name) in
    let here : All s (declared_in s front (file_scope k f) f.items) =
    subst (λ i. All s (declared_in s front (file_scope k f) i)) (sym q.held)
    (items-stand most_messages s front (file_scope k f) refl f.body.from f.body.to q.within) in
    every_append _ here (files-stand s r (k + 1))

-- ==== the statement
pub all-stand : (s : List ℕ) → Every (λ b. Stands s b.what) (every_declared s)
unfolding every_declared
all-stand s = files-stand s (tree-lies s) 0
