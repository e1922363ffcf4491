-- A sheet declares fewer messages, enums and extensions than it has bytes.
-- Assumes nothing.
use Rattle.std.specs.Prelude.{◌≡◌, refl, List, ◌∷◌, ◌++◌, ℕ, zero, suc, ◌+◌, ◌-◌, ◌≤◌, ◌<◌, length, Some}
use Rattle.basis.specs.Kit.{sym}
use Rattle.basis.proofs.Kit.{arith}
use lib.ListN.{length-append}
use Rattle.limits.specs.Figures.{most_messages}
use Rattle.field.specs.Leaf.{span, any_bytes, text}
use Rattle.field.specs.Walk.{walk}
use Rattle.field.proofs.LeafLaws.{leaf-bounds}
use Rattle.field.proofs.WalkLaws.{walk-holds}
use Rattle.sheet.specs.Table.{name_tag, package_tag}
use Rattle.sheet.specs.Tree.{Items, item_in, message_in, items_in, file_with, files_in, tree_of}
use Rattle.sheet.proofs.MemberLaws.{item-cases, file-cases}
use Rattle.scope.specs.Scope.{Scope, file_scope, message_scope}
use Rattle.names.specs.Names.{Named, message, inside, file_front, declared_in, declared_by, every_declared}

both-few : (xs ys : List Named) (m e end : ℕ) → m ≤ e → e ≤ end → length xs ≤ e - m → length ys ≤ end - e → length (xs ++ ys) ≤ end - m
both-few xs ys m e end h g x y = rw (length-append xs ys) (omega arith)

one_more : (b : Named) (xs : List Named) (at m end : ℕ) → at < m → m ≤ end → length xs ≤ end - m → length (b ∷ xs) ≤ end - at
one_more b xs at m end h g x = omega arith

module _ (d : ℕ) (s f : List ℕ) (c : Scope) (at end t a e : ℕ) (rest : Items) (x : at < a) (y : a ≤ e) (z : e ≤ end)
    (k : length (declared_in s f c rest) ≤ end - e) where
  item-few : ((d ≡ 0 → ⊥) → (f : List ℕ) (c : Scope) (m : ℕ) → length (declared_in s f c (items_in (d - 1) s (walk s m e))) ≤ e - m)
      → length (declared_in s f c (item_in (message_in d s) s t a e rest)) ≤ end - at
  item-few inner =
      item-cases (λ g. length (declared_in s f c (g rest)) ≤ end - at) s a e (omega arith) d t
      (λ _ h n p.
      let l = leaf-bounds name_tag any_bytes s a e (Some n) (sym p) n refl in
      let i = l.inside in
      let j : at < n.to = omega (arith, l.starts, l.ordered) in
      let g = f ++ text s n in
      let x = message_scope c (record { name = n; body = span n.to e; inside = items_in (d - 1) s (walk s n.to e) }) in
      let xs = declared_in s (inside g) x (items_in (d - 1) s (walk s n.to e)) in
      one_more (record { name = g; what = message x }) (xs ++ declared_in s f c rest) at n.to end j (omega arith)
      (both-few xs (declared_in s f c rest) n.to e end i z (inner h (inside g) x n.to) k))
      (λ _ _ _. omega arith)
      (λ _ _ _. omega arith)
      (λ _ _ _. omega arith)

level-few : (d : ℕ) (s f : List ℕ) (c : Scope) (at end : ℕ)
    → ((d ≡ 0 → ⊥) → (f : List ℕ) (c : Scope) (at end : ℕ) → length (declared_in s f c (items_in (d - 1) s (walk s at end))) ≤ end - at)
    → length (declared_in s f c (items_in d s (walk s at end))) ≤ end - at
unfolding items_in
level-few d s f c at end inner =
    walk-holds s end (λ at w. length (declared_in s f c (items_in d s w)) ≤ end - at) (λ at. omega arith) (λ at. omega arith)
    (λ at t a e w b k. item-few d s f c at end t a e (items_in d s w) b.starts b.ordered b.inside k λ z f c m. inner z f c m e) at

items-few : (d : ℕ) (s f : List ℕ) (c : Scope) (at end : ℕ) → length (declared_in s f c (items_in d s (walk s at end))) ≤ end - at
items-few zero s f c at end = level-few zero s f c at end λ z. absurd (z refl)
items-few (suc d) s f c at end =
    level-few (suc d) s f c at end λ _ f c at end. let u : suc d - 1 ≡ d = omega arith in rw u (items-few d s f c at end)

files-few : (s : List ℕ) (at end : ℕ) (k : ℕ) → length (declared_by s k (files_in s (walk s at end))) ≤ end - at
files-few s at end =
    walk-holds s end (λ at w. (k : ℕ) → length (declared_by s k (files_in s w)) ≤ end - at) (λ at k. omega arith) (λ at k. omega arith)
    (λ at t a e w b h k.
    let x = b.starts in
    let y = b.ordered in
    let z = b.inside in
    file-cases (λ f. length (declared_by s k (f (files_in s w))) ≤ end - at) s t a e (omega (arith, h k)) λ n p.
    let l = leaf-bounds package_tag any_bytes s a e (Some n) (sym p) n refl in
    let i = l.inside in
    let j : at ≤ n.to = omega (arith, l.starts, l.ordered) in
    let f = file_with n (span n.to e) (items_in most_messages s (walk s n.to e)) in
    let front = file_front (text s n) in
    let here = both-few (declared_in s front (file_scope k f) f.items) (declared_by s (k + 1) (files_in s w)) n.to e end i z
    (items-few most_messages s front (file_scope k f) n.to e) (h (k + 1)) in
    omega arith)
    at

-- ==== the statement
pub declared-few : (s : List ℕ) → length (every_declared s) ≤ length s
unfolding every_declared tree_of
declared-few s = omega (arith, files-few s 0 (length s) 0)
