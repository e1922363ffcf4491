-- The laws of the scopes that the files of a sheet give: the ways through `start`, `package_at`, `follow` and
-- `scope_at`, what one field of the sheet adds to the scopes at a path, and that a scope that was found is what stands at its place.
--
--  Following v s t at p <-> v is the scope that the names of t from the place `at` on lead to from the one at p
--       file_place i m e ==  the place of the i-th file, whose body is from m up to e
--
-- Assumes nothing.
use Rattle.std.specs.Prelude.{◌≡◌, refl, Bool, true, false, List, ◌∷◌, ℕ, suc, ◌+◌, ◌-◌, ◌*◌, ◌^◌, ◌≤◌, ◌<◌, eqb, length, take, drop, Option, None, Some}
use Rattle.basis.specs.Kit.{ap, ◌∙◌}
use Rattle.basis.proofs.Kit.{arith, ne_eqb, not-true, not-false, w64, Fits}
use native.Mathlib.Nat.{add-zero}
use Rattle.basis.proofs.Never.{never}
use Rattle.limits.specs.Figures.{most_messages}
use Rattle.octets.specs.Octets.{part, same_bytes}
use Rattle.field.specs.Leaf.{span, any_bytes, leaf_at, on_leaf}
use Rattle.field.specs.Walk.{walk}
use Rattle.field.proofs.LeafLaws.{leaf-ordered, leaf_inside}
use Rattle.path.specs.inner.Places.{until_dot, names_from}
use Rattle.path.proofs.Names.{end_after, end-within, names-past, names-next}
use Rattle.sheet.specs.Table.{file_tag, package_tag}
use Rattle.sheet.specs.Tree.{File, file_with, items_in, file_in}
use Rattle.scope.specs.declared.lookup.LookupScope.{LookupScope}
use Rattle.cursor.specs.declared.Cursor.{Cursor}
use Rattle.basis.specs.First.{only_if, onto}
use Rattle.scope.specs.Scope.{Scope, holding, down}
use Rattle.scope.specs.inner.Answers.{InSheet, placed}
use Rattle.scopes.specs.Scopes.{follow, scopes_in}
use Rattle.cursor.specs.inner.Cursor.{start_of, package_at, scope_at, Within}
use Rattle.scopes.proofs.PlacedLaws.{Placed, followed-placed}
use Rattle.scope.proofs.Answers.{placed-nowhere}
use Rattle.scope.proofs.Held.{down-nowhere, down_to, down-to-lies}
use Rattle.field.specs.declared.Span.{Span}

-- ---- start
pub start-bare : (b : Bool) → b ≡ true → ◌≡◌ {A = Cursor} (record { next = 1; at = 0; file = 0 }) (start_of b)
start-bare b h = rw h

pub start-named : (b : Bool) → b ≡ false → ◌≡◌ {A = Cursor} (record { next = 0; at = 0; file = 0 }) (start_of b)
start-named b h = rw h

pub ruleset start_laws = (start-bare, start-named)

-- ---- package_at
module _ (s : List ℕ) (tag a e : ℕ) where
  pub package-other : (tag ≡ file_tag → ⊥) → None ≡ package_at s tag a e
  unfolding package_at
  package-other h = simp (package_at, ne_eqb tag file_tag h)

  pub package-file : tag ≡ file_tag → (l : Option Span) → l ≡ leaf_at package_tag any_bytes s a e → l ≡ package_at s tag a e
  unfolding package_at
  package-file h l q = rw (q, h)

  pub package-within : (l : Option Span) → l ≡ package_at s tag a e → Within l e
  unfolding package_at
  package-within l q = go (eqb tag file_tag) q
    where
      go : (b : Bool) → l ≡ elim b [ true ↦ leaf_at package_tag any_bytes s a e | false ↦ None ] → Within l e
      go true q = record { ordered = leaf-ordered package_tag any_bytes s a e l q; inside = leaf_inside package_tag any_bytes s a e l q }
      go false q = record {
        ordered = λ p g. never cc;
        inside = λ p g. never cc;
      }

  -- it says whether the field is a file, and which
  file-package : (rest : List File) → file_in s tag a e rest
      ≡ on_leaf rest (package_at s tag a e) λ p. file_with p (span p.to e) (items_in most_messages s (walk s p.to e)) ∷ rest
  unfolding file_in package_at
  file-package rest = go (eqb tag file_tag)
    where
      file : Span → List File
      file p = file_with p (span p.to e) (items_in most_messages s (walk s p.to e)) ∷ rest

      go : (b : Bool) → elim b [ true ↦ on_leaf rest (leaf_at package_tag any_bytes s a e) file | false ↦ rest ]
          ≡ on_leaf rest (elim b [ true ↦ leaf_at package_tag any_bytes s a e | false ↦ None ]) file
      go true = refl
      go false = refl

pub ruleset package_laws = (package-other, package-file)

-- what a field adds to the scopes
pub scopes-step : (s t : List ℕ) (next i tag a e : ℕ) (rest : List File) (l : Option Span) → l ≡ package_at s tag a e
    → scopes_in s (take (next - 1) t) (names_from t next) i (file_in s tag a e rest)
    ≡ onto (scope_at s t next i l e) (scopes_in s (take (next - 1) t) (names_from t next) (i + on_leaf 0 l (λ p. 1)) rest)
scopes-step s t next i tag a e rest l q = rw (file-package s tag a e rest, ← q) (go l)
  where
    go : (l : Option Span)
        → scopes_in s (take (next - 1) t) (names_from t next) i
        (on_leaf rest l λ u. file_with u (span u.to e) (items_in most_messages s (walk s u.to e)) ∷ rest)
        ≡ onto (scope_at s t next i l e) (scopes_in s (take (next - 1) t) (names_from t next) (i + on_leaf 0 l (λ p. 1)) rest)
    go None = rw (add-zero i)
    go (Some place) = refl

-- ---- a scope that names lead to
module _ (s : List ℕ) where
  -- so it is the scope at the place that a look-up answers
  placed-to : (o : Option Scope) → ((c : Scope) → o ≡ Some c → Placed s c) → (r : Option LookupScope) → r ≡ placed o
      → (p : LookupScope) → r ≡ Some p → o ≡ Some (holding s p)
  placed-to None k r q p g = never cc
  placed-to (Some c) k r q p g = let u : p ≡ c.place = cc in rw u (ap Some (k c refl).held)

-- ---- follow
pub record Following (v : Option Scope) (s t : List ℕ) (at : ℕ) (p : LookupScope) : Type 0 where
  pub lies : InSheet s p
  pub reached : at ≤ suc (length t)
  pub rest : v ≡ follow s (names_from t at) (holding s p)

pub following-start : (s t : List ℕ) (at : ℕ) (p : LookupScope) → InSheet s p → at ≤ suc (length t)
    → Following (follow s (names_from t at) (holding s p)) s t at p
following-start s t at p h l = record { lies = h; reached = l; rest = refl }

module _ (v : Option Scope) (s t : List ℕ) (at : ℕ) (p : LookupScope) (k : Following v s t at p) where
  pub following-end : length t < at → Some p ≡ placed v
  following-end h = rw (k.rest, names-past t at h)

  module _ (h : at ≤ length t) (e : ℕ) (f : e ≡ at + length (until_dot (drop at t))) (r : Option LookupScope)
      (q : r ≡ placed (down s (part t at e) (holding s p))) where
    pub following-none : r ≡ None → None ≡ placed v
    following-none g = rw (k.rest, names-next t at h e f, down-nowhere s (part t at e) p r q g)

    pub following-next : (x : LookupScope) → r ≡ Some x → Following v s t (e + 1) x
    following-next x g =
        let w = end-within t at e f h in
        record {
          lies = down-to-lies s (part t at e) p r q x g k.lies;
          reached = omega arith;
          rest = k.rest ∙ rw (names-next t at h e f, down_to s (part t at e) p r q x g);
        }

-- the place after a component
pub end_fits : (t : List ℕ) (at e : ℕ) → e ≡ at + length (until_dot (drop at t)) → at ≤ length t → length t * 1 < 2 ^ 63 → Fits w64 (e + 1)
end_fits t at e q h l = record { fits = omega (arith, end-within t at e q h) }

pub ruleset follow_laws = (following-start, following-end, following-none, following-next, end_after, end-within, end_fits)

-- ---- scope_at
abbrev pub file_place : ℕ → ℕ → ℕ → LookupScope
file_place i m e = record { file = i; message = false; body = span m e; left = most_messages }

module _ (s t : List ℕ) (next i : ℕ) (l : Option Span) (e : ℕ) where
  pub scope-none : l ≡ None → None ≡ placed (scope_at s t next i l e)
  scope-none g = rw g

  module _ (q : Span) (g : l ≡ Some q) (x : List ℕ) (f : x ≡ take (next - 1) t) (b : Bool) (y : b ≡ same_bytes x (part s q.from q.to)) where
    scope-open : scope_at s t next i l e ≡ only_if b (follow s (names_from t next) (holding s (file_place i q.to e))) None
    scope-open = rw (g, ← f, ← y)

    pub scope-elsewhere : b ≡ false → None ≡ placed (scope_at s t next i l e)
    scope-elsewhere z = rw (scope-open, z)

    pub scope-followed : b ≡ true → (o : Option LookupScope) → o ≡ placed (follow s (names_from t next) (holding s (file_place i q.to e)))
        → o ≡ placed (scope_at s t next i l e)
    scope-followed z o p = p ∙ rw (scope-open, z)

-- where the package lies
module _ (l : Option Span) (e : ℕ) (w : Within l e) (p : Span) (g : l ≡ Some p) where
  pub within-ordered : p.from ≤ p.to
  within-ordered = w.ordered p g

  pub within-sheet : (s : List ℕ) → e ≤ length s → p.to ≤ length s
  within-sheet s h = omega (arith, w.inside p g)

  pub file-lies : (s : List ℕ) (i : ℕ) → e ≤ length s → InSheet s (file_place i p.to e)
  file-lies s i h = record { ordered = w.inside p g; within = h }

module _ (s t : List ℕ) (next i : ℕ) (l : Option Span) (e : ℕ) (w : Within l e) (h : e ≤ length s) where
  scope-placed : (c : Scope) → scope_at s t next i l e ≡ Some c → Placed s c
  scope-placed c = go l w
    where
      at : (m : ℕ) → m ≤ e → (b : Bool) → only_if b (follow s (names_from t next) (holding s (file_place i m e))) None ≡ Some c → Placed s c
      at m k false q = never cc
      at m k true q =
          let f : InSheet s (file_place i m e) = record { ordered = k; within = h } in
          followed-placed s (names_from t next) (holding s (file_place i m e)) (record { held = refl; lies = f }) c q

      go : (l : Option Span) → Within l e → scope_at s t next i l e ≡ Some c → Placed s c
      go None w q = never cc
      go (Some it) w q = at it.to (w.inside it refl) (same_bytes (take (next - 1) t) (part s it.from it.to)) q

  -- what `scope_at` answers, to its caller
  module _ (r : Option LookupScope) (q : r ≡ placed (scope_at s t next i l e)) where
    pub scope-nowhere : r ≡ None → scope_at s t next i l e ≡ None
    scope-nowhere = placed-nowhere r (scope_at s t next i l e) q

    module _ (p : LookupScope) (g : r ≡ Some p) where
      pub scope-to : scope_at s t next i l e ≡ Some (holding s p)
      scope-to = placed-to s (scope_at s t next i l e) scope-placed r q p g

      pub scope-lies : InSheet s p
      scope-lies = (scope-placed (holding s p) scope-to).lies

pub ruleset scope_laws =
    (scope-none, scope-elsewhere, scope-followed, within-ordered, within-sheet, file-lies, not-true, not-false)
