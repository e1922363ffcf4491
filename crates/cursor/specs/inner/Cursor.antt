-- A walk through the scopes at a path, one after the other: what a cursor has still before it.
--
--             front_at t at ==  the components of t that stand before the place `at`, where one starts
--         wider s front ns ==  the scopes of the files whose package has more components of the path than `front`
--               here s t c ==  the scopes still to come at the cursor c of the path t, of the packages that are tried now
--              ahead s t c ==  all scopes still to come
--                start_of b ==  the cursor before the first scope, of a path with no names where b holds
--      package_at s tag a e ==  the package of a field of the sheet, where that is a file
--   scope_at s t next i l e ==  the scope that a field of the package l and the end e gives, as the i-th file
--               Within l e <-> a leaf's places are in order, and not behind the place e
--             Stands s t c <-> the cursor's places are within the sheet and the text, and a component of the text starts at its `next`
--       Steps L s t c p c' <-> of L, the scopes to come, the next is at the place p, and c' is the cursor behind it
--          Nexts L s t c r <-> r is the next of L, or that there is none
--
-- Assumes nothing.
use Rattle.std.specs.Prelude.{◌≡◌, Bool, true, false, List, [], ◌∷◌, ◌++◌, ℕ, suc, ◌-◌, ◌≤◌, ◌<◌, eqb, length, get_or, take, Option, None, Some}
use Rattle.limits.specs.Figures.{most_messages}
use Rattle.field.specs.Leaf.{span, any_bytes, leaf_at, on_leaf}
use Rattle.field.specs.Walk.{walk}
use Rattle.path.specs.Path.{Path, dot, split}
use Rattle.path.specs.inner.Places.{names_from}
use Rattle.sheet.specs.Table.{file_tag, package_tag}
use Rattle.sheet.specs.Tree.{file_with, items_in, files_in}
use Rattle.scope.specs.declared.lookup.LookupScope.{LookupScope}
use Rattle.scope.specs.Scope.{Scope, holding}
use Rattle.scope.specs.inner.Answers.{InSheet}
use Rattle.cursor.specs.declared.Cursor.{Cursor}
use Rattle.scopes.specs.Scopes.{scope_in, scopes_in, scopes_from}
use Rattle.cursor.specs.declared.Next.{Next}
use Rattle.field.specs.declared.Span.{Span}

unfoldable pub front_at : (t : List ℕ) (at : ℕ) → Path
front_at t at = elim (eqb at 0) [ true ↦ [] | false ↦ split (take (at - 1) t) ]

abbrev pub wider : (s : List ℕ) (front names : Path) → List Scope
wider s front [] = []
wider s front (n ∷ ns) = scopes_from s (front ++ n ∷ []) ns

-- those of the packages that are tried now
abbrev pub here : (s t : List ℕ) → Cursor → List Scope
here s t c = scopes_in s (take (c.next - 1) t) (names_from t c.next) c.file (files_in s (walk s c.at (length s)))

unfoldable pub ahead : (s t : List ℕ) → Cursor → List Scope
ahead s t c = here s t c ++ wider s (front_at t c.next) (names_from t c.next)

abbrev pub next_of : LookupScope → Cursor → Next
next_of p c = record { scope = p; rest = c }

abbrev pub start_of : (bare : Bool) → Cursor
start_of true = record { next = 1; at = 0; file = 0 }
start_of false = record { next = 0; at = 0; file = 0 }

unfoldable pub package_at : (s : List ℕ) (tag from to : ℕ) → Option Span
package_at s tag a e = elim (eqb tag file_tag) [ true ↦ leaf_at package_tag any_bytes s a e | false ↦ None ]

abbrev pub scope_at : (s t : List ℕ) (next index : ℕ) → Option Span → (end : ℕ) → Option Scope
scope_at s t next i l e = on_leaf None l λ p.
    scope_in s (take (next - 1) t) (names_from t next) i (file_with p (span p.to e) (items_in most_messages s (walk s p.to e)))

pub record Within (l : Option Span) (e : ℕ) : Type 0 where
  pub ordered : (p : Span) → l ≡ Some p → p.from ≤ p.to
  pub inside : (p : Span) → l ≡ Some p → p.to ≤ e

pub record Stands (s t : List ℕ) (c : Cursor) : Type 0 where
  pub within : c.at ≤ length s
  pub counted : c.file ≤ c.at
  pub reached : c.next ≤ suc (length t)
  pub starts : 0 < c.next → c.next ≤ length t → get_or t (c.next - 1) 0 ≡ dot

pub record Steps (L : Cursor → List Scope) (s t : List ℕ) (c : Cursor) (p : LookupScope) (c' : Cursor) : Type 0 where
  pub lies : InSheet s p
  pub stands : Stands s t c'
  pub is : L c ≡ holding s p ∷ L c'

pub record Nexts (L : Cursor → List Scope) (s t : List ℕ) (c : Cursor) (r : Option Next) : Type 0 where
  pub some : (n : Next) → r ≡ Some n → Steps L s t c n.scope n.rest
  pub none : r ≡ None → L c ≡ []
