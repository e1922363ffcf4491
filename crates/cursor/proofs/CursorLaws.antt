-- The laws of a walk through the scopes at a path: the ways through `next_here` and `next_scope`, where a walk starts, and what a step
-- tells the loops that make one after the other.
--
--   Onward L s t c c' <-> c' is a cursor that has the same scopes of L before it as c
--
-- Assumes nothing.
use Rattle.std.specs.Prelude.{◌≡◌, refl, Bool, true, false, List, [], ◌∷◌, ◌++◌, ℕ, zero, suc, ◌+◌, ◌-◌, ◌≤◌, ◌<◌, eqb, length, get_or, take, drop, None, Some, Option}
use Rattle.basis.specs.Kit.{sym, ap, ◌∙◌}
use Rattle.basis.proofs.Kit.{arith, ne_eqb}
use mathlib.Core.List.{append-nil}
use borrow.Author.Tests.{eqb-true}
use Rattle.basis.proofs.Never.{never}
use Rattle.octets.specs.Octets.{part}
use Rattle.field.specs.Field.{field_at}
use Rattle.field.specs.Leaf.{on_leaf}
use Rattle.field.specs.Walk.{walk}
use Rattle.field.proofs.FieldLaws.{field-bounds, field-ordered, field-inside}
use Rattle.field.proofs.FieldLaws.{field-within, field-less}
use Rattle.path.specs.Path.{Path, dot, spell, split}
use Rattle.path.specs.inner.Places.{until_dot, names_from}
use Rattle.path.proofs.PathLaws.{spell-split}
use Rattle.path.proofs.Names.{end-within, end-dot, names-past, names-next, front-first, front-more}
use Rattle.sheet.specs.Tree.{files_in, tree_of}
use Rattle.sheet.proofs.TreeLaws.{tree-files, files-end, files-cut, files-step}
use Rattle.scope.specs.declared.lookup.LookupScope.{LookupScope}
use Rattle.cursor.specs.declared.Cursor.{Cursor}
use Rattle.basis.specs.First.{onto}
use Rattle.scope.specs.Scope.{Scope, holding}
use Rattle.scope.specs.inner.Answers.{InSheet, placed}
use Rattle.scopes.specs.Scopes.{scopes_in, scopes_from, scopes}
use Rattle.cursor.specs.inner.Cursor.{front_at, wider, here, ahead, start_of, package_at, scope_at, Within, Stands, Steps, Nexts, next_of}
use Rattle.basis.proofs.FirstLaws.{onto-none, onto-some}
use Rattle.cursor.proofs.ScopesLaws.{end_fits, package-within, scopes-step, scope-nowhere, scope-to, scope-lies}
use Rattle.cursor.specs.declared.Next.{Next}
use Rattle.field.specs.declared.Field.{Field}
use Rattle.field.specs.declared.Span.{Span}

-- ---- what a step tells
module _ (L : Cursor → List Scope) (s t : List ℕ) (c : Cursor) (r : Option Next) (n : Nexts L s t c r) where
  pub nexts-none : r ≡ None → L c ≡ []
  nexts-none g = n.none g

  module _ (m : Next) (g : r ≡ Some m) where
    pub nexts-lies : InSheet s m.scope
    nexts-lies = (n.some m g).lies

    pub nexts-stands : Stands s t m.rest
    nexts-stands = (n.some m g).stands

    pub nexts-is : L c ≡ holding s m.scope ∷ L m.rest
    nexts-is = (n.some m g).is

    pub nexts-less : length (L m.rest) < length (L c)
    nexts-less = rw nexts-is (omega arith)

-- ---- what a step answers
module _ (L : Cursor → List Scope) (s t : List ℕ) (c : Cursor) where
  pub nexts-no-more : L c ≡ [] → Nexts L s t c None
  nexts-no-more e = record { some = λ n q. never cc; none = λ q. e }

  pub nexts-at : (n : Next) → Steps L s t c n.scope n.rest → Nexts L s t c (Some n)
  nexts-at n k = record {
    some = λ m q. let u : m ≡ n = cc in rw u k;
    none = λ q. never cc;
  }

-- ---- the names before a place
front-some : (t : List ℕ) (at : ℕ) → (at ≡ 0 → ⊥) → front_at t at ≡ split (take (at - 1) t)
unfolding front_at
front-some t at h = simp (front_at, ne_eqb at 0 h)

front-spell : (t : List ℕ) (at : ℕ) → spell (front_at t at) ≡ take (at - 1) t
unfolding front_at spell
front-spell t zero = refl
front-spell t (suc n) = rw (front-some t (suc n) (λ z. omega arith)) (spell-split (take (suc n - 1) t))

front-next : (t : List ℕ) (at e : ℕ) → at ≤ length t → (0 < at → at ≤ length t → get_or t (at - 1) 0 ≡ dot)
    → e ≡ at + length (until_dot (drop at t)) → front_at t (e + 1) ≡ front_at t at ++ (part t at e ∷ [])
unfolding front_at
front-next t at e h d q =
    let n : e + 1 - 1 ≡ e = omega arith in
    rw (front-some t (e + 1) (λ z. omega arith), n) (go at h d q)
  where
    go : (at : ℕ) → at ≤ length t → (0 < at → at ≤ length t → get_or t (at - 1) 0 ≡ dot)
        → e ≡ at + length (until_dot (drop at t)) → split (take e t) ≡ front_at t at ++ (part t at e ∷ [])
    go zero h d q = front-first t e q
    go (suc n) h d q = rw (front-some t (suc n) (λ z. omega arith)) (front-more t (suc n) e h (omega arith) (d (omega arith) h) q)

-- ---- all scopes to come
module _ (s t : List ℕ) where
  fresh-from : (front ns : Path) → scopes_in s (spell front) ns 0 (tree_of s) ++ wider s front ns ≡ scopes_from s front ns
  fresh-from front [] = append-nil (scopes_in s (spell front) [] 0 (tree_of s))
  fresh-from front (n ∷ ns) = refl

  -- of a cursor before the first file
  ahead-fresh : (next : ℕ) → ahead s t (record { next = next; at = 0; file = 0 }) ≡ scopes_from s (front_at t next) (names_from t next)
  unfolding ahead
  ahead-fresh next = rw (← tree-files s, ← front-spell t next) (fresh-from (front_at t next) (names_from t next))

  module _ (c : Cursor) (k : here s t c ≡ []) where
    ahead_none : length t < c.next → ahead s t c ≡ []
    unfolding ahead
    ahead_none h = rw (k, names-past t c.next h)

    ahead-next : Stands s t c → c.next ≤ length t → (e : ℕ) → e ≡ c.next + length (until_dot (drop c.next t))
        → ahead s t c ≡ ahead s t (record { next = e + 1; at = 0; file = 0 })
    unfolding ahead
    ahead-next d h e q =
        rw (k, names-next t c.next h e q) (rw (← front-next t c.next e h d.starts q) (sym (ahead-fresh (e + 1))))

  ahead-some : (c : Cursor) (p : LookupScope) (c' : Cursor) → here s t c ≡ holding s p ∷ here s t c' → c'.next ≡ c.next
      → ahead s t c ≡ holding s p ∷ ahead s t c'
  unfolding ahead
  ahead-some c p c' k l = rw k (ap (λ n. holding s p ∷ (here s t c' ++ wider s (front_at t n) (names_from t n))) (sym l))

-- ---- where a walk starts
module _ (s t : List ℕ) where
  stands_of : (b : Bool) → (b ≡ true → length t ≡ 0) → Stands s t (start_of b)
  stands_of true h =
      let none : length t ≡ 0 = h refl in
      record { within = omega arith; counted = omega arith; reached = omega arith; starts = λ x y. absurd (omega arith) }
  stands_of false h =
      record { within = omega arith; counted = omega arith; reached = omega arith; starts = λ x y. absurd (omega arith) }

  -- of a path with no names, and of one with some
  pub ahead-bare : length t ≡ 0 → ahead s t (start_of true) ≡ scopes s (names_from t 1)
  unfolding scopes spell
  ahead-bare h = ahead-fresh s t 1 ∙ rw (names-past t 1 (omega arith), front-spell t 1)

  pub ahead-named : ahead s t (start_of false) ≡ scopes s (names_from t 0)
  unfolding scopes front_at
  ahead-named = ahead-fresh s t 0

  -- as the code asks, of a text that is empty where n is 0: `1 - n` is past its end then
  module _ (n : ℕ) (h : n ≡ 0 → length t ≡ 0) (c : Cursor) (q : c ≡ start_of (eqb n 0)) where
    pub stands-start : Stands s t c
    stands-start = rw q (stands_of (eqb n 0) (λ e. h (eqb-true n 0 e)))

    pub ahead-start : ahead s t c ≡ scopes s (names_from t (1 - n))
    ahead-start = rw q (go n h)
      where
        go : (n : ℕ) → (n ≡ 0 → length t ≡ 0) → ahead s t (start_of (eqb n 0)) ≡ scopes s (names_from t (1 - n))
        go zero h = ahead-bare (h refl)
        go (suc n) h = let z : 1 - suc n ≡ 0 = omega arith in rw (z, ne_eqb (suc n) 0 (λ e. omega arith)) ahead-named

pub ruleset nexts_laws = (nexts-none, nexts-lies, nexts-stands, nexts-is, nexts-less)

-- ---- a cursor that has come further, past files and packages that gave nothing
pub record Onward (L : Cursor → List Scope) (s t : List ℕ) (c c' : Cursor) : Type 0 where
  pub stands : Stands s t c'
  pub rest : L c ≡ L c'

pub onward-start : (L : Cursor → List Scope) (s t : List ℕ) (c : Cursor) → Stands s t c → Onward L s t c c
onward-start L s t c k = record { stands = k; rest = refl }

module _ (L : Cursor → List Scope) (s t : List ℕ) (c c' : Cursor) (k : Onward L s t c c') where
  onward-none : L c' ≡ [] → Nexts L s t c None
  onward-none e = nexts-no-more L s t c (k.rest ∙ e)

  onward-at : (n : Next) → InSheet s n.scope → Stands s t n.rest → L c' ≡ holding s n.scope ∷ L n.rest → Nexts L s t c (Some n)
  onward-at n l d e = nexts-at L s t c n (record { lies = l; stands = d; is = k.rest ∙ e })

-- ---- next_here
module _ (s t : List ℕ) (c : Cursor) (at file : ℕ)
    (k : Onward (here s t) s t c (record { next = c.next; at = at; file = file })) (end : ℕ) (l : end ≡ length s) where
  pub here_end : end ≤ at → Nexts (here s t) s t c None
  here_end h = onward-none (here s t) s t c _ k (rw (files-end s at (length s) (rw (← l) h)))

  module _ (h : at < end) (r : Option Field) (q : r ≡ field_at s at end) where
    pub here-cut : r ≡ None → Nexts (here s t) s t c None
    here-cut g = onward-none (here s t) s t c _ k (rw (files-cut s at (length s) (rw (← l) h) r (rw (← l) q) g))

    module _ (it : Field) (g : r ≡ Some it) (pk : Option Span) (j : pk ≡ package_at s it.tag it.from it.to)
        (n : ℕ) (f : n ≡ on_leaf 0 pk (λ p. 1)) (o : Option LookupScope) (u : o ≡ placed (scope_at s t c.next file pk it.to)) where
      here-open : here s t (record { next = c.next; at = at; file = file })
          ≡ onto (scope_at s t c.next file pk it.to) (here s t (record { next = c.next; at = it.to; file = file + n }))
      here-open =
          rw (
            files-step s at (length s) (rw (← l) h) r (rw (← l) q) it g,
            scopes-step s t c.next file it.tag it.from it.to (files_in s (walk s it.to (length s))) pk j,
            ← f,
          )

      here-stands : n ≤ 1 → Stands s t (record { next = c.next; at = it.to; file = file + n })
      here-stands one =
          let b = field-bounds s at end r q it g in
          record {
            within = omega (arith, b.inside);
            counted = omega (arith, b.starts, b.ordered, k.stands.counted);
            reached = k.stands.reached;
            starts = k.stands.starts;
          }

      here-within : Within pk it.to
      here-within = package-within s it.tag it.from it.to pk j

      here-inside : it.to ≤ length s
      here-inside = omega (arith, field-inside s at end r q it g)

      pub here-next : n ≤ 1 → o ≡ None → Onward (here s t) s t c (record { next = c.next; at = it.to; file = file + n })
      here-next one x = record {
        stands = here-stands one;
        rest = k.rest ∙ here-open ∙ onto-none _ _ (scope-nowhere s t c.next file pk it.to here-within here-inside o u x);
      }

      pub here-at : n ≤ 1 → (p : LookupScope) → o ≡ Some p
          → Nexts (here s t) s t c (Some (next_of p (record { next = c.next; at = it.to; file = file + n })))
      here-at one p x =
          onward-at (here s t) s t c _ k (next_of p _) (scope-lies s t c.next file pk it.to here-within here-inside o u p x) (here-stands one)
          (here-open ∙ onto-some _ _ _ (scope-to s t c.next file pk it.to here-within here-inside o u p x))

-- it stays at its packages
pub level-none : (next : ℕ) (n : Next) → None ≡ Some n → n.rest.next ≡ next
level-none next n g = never cc

pub level-at : (n : Next) (next : ℕ) → n.rest.next ≡ next
    → (m : Next) → Some n ≡ Some m → m.rest.next ≡ next
level-at n next h m g = let u : m ≡ n = cc in rw u h

pub ruleset here_laws =
    (onward-start, here_end, here-cut, here-next, here-at, level-none, level-at, package-within, field-ordered, field-within, field-less)

-- ---- next_scope
module _ (s t : List ℕ) (c₀ c : Cursor) (k : Onward (ahead s t) s t c₀ c) (r : Option Next) (n : Nexts (here s t) s t c r) where
  pub scopes-at : ((m : Next) → r ≡ Some m → m.rest.next ≡ c.next) → (m : Next) → r ≡ Some m
      → Nexts (ahead s t) s t c₀ (Some m)
  scopes-at l m g =
      let st = n.some m g in
      onward-at (ahead s t) s t c₀ c k m st.lies st.stands (ahead-some s t c m.scope m.rest st.is (l m g))

  module _ (g : r ≡ None) where
    pub scopes-end : length t < c.next → Nexts (ahead s t) s t c₀ None
    scopes-end h = onward-none (ahead s t) s t c₀ c k (ahead_none s t c (n.none g) h)

    pub scopes-next : c.next ≤ length t → (e : ℕ) → e ≡ c.next + length (until_dot (drop c.next t))
        → Onward (ahead s t) s t c₀ (record { next = e + 1; at = 0; file = 0 })
    scopes-next h e q =
        let w = end-within t c.next e q h in
        record {
          stands = record {
            within = omega arith;
            counted = omega arith;
            reached = omega arith;
            starts = λ x y. let z : e + 1 - 1 ≡ e = omega arith in rw z (end-dot t c.next e q (omega arith));
          };
          rest = k.rest ∙ ahead-next s t c (n.none g) k.stands h e q;
        }

pub ruleset scopes_laws = (onward-start, scopes-at, scopes-end, scopes-next, end-within, end_fits)
