-- How the rows of every listed reading stand to each other: what is inside a known message directly behind it, a level deeper, and then
-- what lies behind it. The statement stands at the end.
-- Assumes nothing.
use Rattle.std.specs.Prelude.{◌≡◌, refl, List, [], ◌∷◌, ◌++◌, ℕ, suc, ◌+◌, ◌≤◌}
use Rattle.basis.specs.Kit.{ap, ◌∙◌}
use Rattle.basis.specs.Among.{Among, here, there}
use Rattle.basis.proofs.Kit.{arith}
use Rattle.basis.proofs.AmongLaws.{among-nil, among-append-cases}
use mathlib.Core.List.{append-nil, append_assoc}
use native.Mathlib.Nat.{le_refl, le_trans}
use Rattle.types.specs.Types.{TYPE_MESSAGE}
use Rattle.lookups.specs.Lookups.{Lookups, Message}
use Rattle.entries.specs.declared.Entry.{Entry}
use Rattle.entries.specs.declared.Row.{Row}
use Rattle.entries.specs.Tree.{Tree, end, one, held, row, rows}
use Rattle.readback.specs.Seen.{reached_by}
use Rattle.readback.specs.Typed.{DeclaredAs}
use Rattle.readback.specs.Lying.{Lying}
use Rattle.readback.specs.Knows.{KnownBy, type_of, Knows}
use Rattle.readback.specs.Rows.{First, Stand}
use Rattle.readback.proofs.LyingLaws.{rows_lie}

-- no row of a tree stands higher than the tree
rows-level : (l : ℕ) (t : Tree) (y : Row) → Among y (rows l t) → l ≤ y.level
rows-level l end y m = among-nil m
rows-level l (one e t) y here = le_refl l
rows-level l (one e t) y (there m) = rows-level l t y m
rows-level l (held e i t) y here = le_refl l
rows-level l (held e i t) y (there m) =
    among-append-cases (rows (suc l) i) (λ k. omega (arith, rows-level (suc l) i y k)) (rows-level l t y) m

-- the first row of a tree stands at its level
rows-first : (P : Row → Type 0) (l : ℕ) (t : Tree) → ((e : Entry) → P (row l e)) → (xs : List Row) → First P xs → First P (rows l t ++ xs)
rows-first P l end h xs f = f
rows-first P l (one e t) h xs f = h e
rows-first P l (held e i t) h xs f = h e

rows-begin : (P : Row → Type 0) (l : ℕ) (t : Tree) → ((e : Entry) → P (row l e)) → First P (rows l t)
rows-begin P l t h = rw append-nil at (rows-first P l t h [] tt)

first_more : (l : ℕ) (xs : List Row) → First (λ y. y.level ≤ l) xs → First (λ y. y.level ≤ suc l) xs
first_more l [] f = tt
first_more l (x ∷ xs) f = omega (arith, f)

held-typ : (s : List ℕ) (m : Message) (e : Entry) → KnownBy s m e → DeclaredAs s m e.number TYPE_MESSAGE → e.typ ≡ TYPE_MESSAGE
held-typ s m e k a = k.typ ∙ ap type_of a.declares ∙ a.typ

module _ (bs : List ℕ) (L : Lookups) (s : List ℕ) where
  -- the rows of a tree in front of others, which lie behind its end and begin no deeper
  stand-front : (l a b : ℕ) (m : Message) (t : Tree) → Lying bs a b t → Knows L s m t → (xs : List Row)
      → ((y : Row) → Among y xs → b ≤ y.entry.place) → First (λ y. y.level ≤ l) xs → Stand xs → Stand (rows l t ++ xs)
  stand-front l a b m end lie know xs low first st = st
  stand-front l a b m (one e t) lie know xs low first st =
      let ends : e.place + e.size ≤ b = lie.0.inside in (
        record {
          inside = [];
          rest = rows l t ++ xs;
          is = refl;
          within = λ y. among-nil;
          next = tt;
          entered = λ h. refl;
          after = λ y. among-append-cases (rows l t) (λ k. (rows_lie bs l _ b t lie.1 k).behind) (λ k. le_trans ends (low y k));
          out = rows-first (λ y. y.level ≤ l) l t (λ f. le_refl l) xs first;
        },
        stand-front l (e.place + e.size) b m t lie.1 know.2 xs low first st,
      )
  stand-front l a b m (held e i t) lie know xs low first st =
      let ends : e.place + e.size ≤ b = lie.0.inside in
      let later = rows l t ++ xs in
      let after : (y : Row) → Among y later → e.place + e.size ≤ y.entry.place =
      λ y. among-append-cases (rows l t) (λ k. (rows_lie bs l _ b t lie.2 k).behind) (λ k. le_trans ends (low y k)) in
      let out : First (λ y. y.level ≤ l) later = rows-first (λ y. y.level ≤ l) l t (λ f. le_refl l) xs first in
      let n = reached_by s know.1.by know.2.place in
      let rest : Stand later = stand-front l (e.place + e.size) b m t lie.2 know.3 xs low first st in
      let inner : Stand (rows (suc l) i ++ later) =
      stand-front (suc l) e.place (e.place + e.size) n i lie.1 know.2.inside later after (first_more l later out) rest in
      let seam = append_assoc (rows (suc l) i) (rows l t) xs in (
        record {
          inside = rows (suc l) i;
          rest = later;
          is = seam;
          within = λ y k.
              let c = rows_lie bs (suc l) _ _ i lie.1 k in
              record { deeper = rows-level (suc l) i y k; from = c.behind; to = c.inside };
          next = rows-begin (λ y. y.level ≡ suc l) (suc l) i (λ f. refl);
          entered = λ h. absurd (h (held-typ s m e know.0 know.1));
          after = after;
          out = out;
        },
        rw seam inner,
      )

-- ==== the statement
-- What is inside a known message stands directly behind its row and begins one level deeper; then comes what lies behind it, no deeper.
pub rows-stand : (bs : List ℕ) (L : Lookups) (s : List ℕ) (l a b : ℕ) (m : Message) (t : Tree) → Lying bs a b t → Knows L s m t
    → Stand (rows l t)
rows-stand bs L s l a b m t lie know = rw append-nil at (stand-front bs L s l a b m t lie know [] (λ y. among-nil) tt tt)
