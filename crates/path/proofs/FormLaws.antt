-- The tests of a path's form: the laws of `is_rel_path`, `is_rel_or_empty` and `is_path`.
-- Assumes nothing.
use Rattle.std.specs.Prelude.{◌≡◌, refl, Bool, true, false, List, [], ◌∷◌, ℕ, ◌≤◌, ◌<◌, length, drop}
use Rattle.basis.proofs.Kit.{arith}
use borrow.Author.Tests.{le-leb, lt-leb}
use Rattle.limits.specs.Figures.{most_path}
use Rattle.path.specs.Path.{split, components, all_ident, is_rel_path, is_rel_or_empty, rootless, is_path}
use Rattle.path.proofs.PathLaws.{components-split}

module _ (s : List ℕ) where
  pub rel-long : most_path < length s → false ≡ is_rel_path s
  unfolding is_rel_path
  rel-long h = simp (lt-leb (length s) most_path h)

  pub rel-is : length s ≤ most_path → (r : Bool) → r ≡ all_ident (split (drop 0 s)) → r ≡ is_rel_path s
  unfolding is_rel_path
  rel-is h r q = simp (le-leb (length s) most_path h) q

  pub path-long : most_path < length s → false ≡ is_path s
  unfolding is_path
  path-long h = simp (lt-leb (length s) most_path h)

  pub path-is : length s ≤ most_path → (x : List ℕ) → x ≡ rootless s → (r : Bool) → r ≡ all_ident (split (drop 0 x)) → r ≡ is_path s
  unfolding is_path
  path-is h x e r q = simp (le-leb (length s) most_path h, ← e) q

pub empty-yes : (s : List ℕ) → length s ≡ 0 → true ≡ is_rel_or_empty s
unfolding is_rel_or_empty components all_ident
empty-yes [] h = refl
empty-yes (c ∷ cs) h = absurd (omega arith)

pub some-rel : (s : List ℕ) → (length s ≡ 0 → ⊥) → (r : Bool) → r ≡ is_rel_path s → r ≡ is_rel_or_empty s
unfolding is_rel_path is_rel_or_empty
some-rel s h r q = rw (components-split s h) q

pub ruleset form_laws = (rel-long, rel-is, path-long, path-is, empty-yes, some-rel)
