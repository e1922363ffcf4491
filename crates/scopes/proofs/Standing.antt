-- Where the scopes at a path lie: every scope is what stands at its place, which is one of the sheet, and the index of its file is at most
-- the sheet's length.
--
--   Standing s c <-> the scope c is what stands at its place, its place is one of s, and its file is counted no further than s is long
--
-- Assumes nothing.
use Rattle.std.specs.Prelude.{◌≡◌, List, [], ◌∷◌, ◌++◌, ℕ, ◌+◌, ◌≤◌, length, Some}
use Rattle.basis.specs.Kit.{ap}
use Rattle.basis.proofs.Kit.{arith}
use Rattle.path.specs.Path.{Path, spell}
use Rattle.sheet.specs.Tree.{Items, File, tree_of}
use Rattle.sheet.proofs.LyingLaws.{FileLies, Filed, filed-none, filed-one, tree-lies, tree-few}
use Rattle.scope.specs.Scope.{Scope, holding, file_scope}
use Rattle.scope.specs.inner.Answers.{InSheet}
use Rattle.scopes.specs.Scopes.{scope_in, scopes_in, scopes_from, scopes}
use Rattle.basis.proofs.FirstLaws.{Every, none_of, every_append, every-onto}
use Rattle.scopes.proofs.ScopeFiles.{follows, index}
use Rattle.scopes.proofs.PlacedLaws.{Placed, followed-placed}

pub record Standing (s : List ℕ) (c : Scope) : Type 0 where
  pub held : c ≡ holding s c.place
  pub lies : InSheet s c.place
  pub counted : c.place.file ≤ length s

module _ (s : List ℕ) where
  file-placed : (i : ℕ) (f : File) → FileLies s f → Placed s (file_scope i f)
  file-placed i f k =
      record {
        held = ap (λ (x : Items). record { place = (file_scope i f).place; items = x }) k.held;
        lies = record { ordered = k.ordered; within = k.within };
      }

  scope-in-stands : (p : List ℕ) (ns : Path) (i : ℕ) (f : File) → FileLies s f → i ≤ length s
      → (c : Scope) → scope_in s p ns i f ≡ Some c → Standing s c
  scope-in-stands p ns i f k h c q =
      let r = followed-placed s ns (file_scope i f) (file-placed i f k) c (follows s p ns i f c q).1 in
      record { held = r.held; lies = r.lies; counted = rw (index s p ns i f c q) h }

  scopes-in-stand : (p : List ℕ) (ns : Path) (i : ℕ) {fs : List File} → Filed s fs → i + length fs ≤ length s
      → Every (Standing s) (scopes_in s p ns i fs)
  scopes-in-stand p ns i filed-none h = none_of
  scopes-in-stand p ns i (filed-one {f = f} k t) h =
      every-onto (Standing s) (scope_in s p ns i f) (scope-in-stands p ns i f k (omega arith)) (scopes-in-stand p ns (i + 1) t (omega arith))

  scopes-all-stand : (p : List ℕ) (ns : Path) → Every (Standing s) (scopes_in s p ns 0 (tree_of s))
  scopes-all-stand p ns = scopes-in-stand p ns 0 (tree-lies s) (omega (arith, tree-few s))

  scopes-from-stand : (front ns : Path) → Every (Standing s) (scopes_from s front ns)
  scopes-from-stand front [] = scopes-all-stand (spell front) []
  scopes-from-stand front (n ∷ ns) =
      every_append (Standing s) (scopes-all-stand (spell front) (n ∷ ns)) (scopes-from-stand (front ++ n ∷ []) ns)

  pub scopes-stand : (p : Path) → Every (Standing s) (scopes s p)
  unfolding scopes
  scopes-stand p = scopes-from-stand [] p
