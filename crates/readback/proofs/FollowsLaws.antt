-- What a value query reaches is what 01 says that it follows: at each part the last record that the part's declaration lists.
-- Assumes nothing.
use Rattle.std.specs.Prelude.{◌≡◌, refl, Bool, true, false, List, [], ◌∷◌, ℕ, suc, Option, None, Some}
use Rattle.basis.specs.Kit.{ap}
use Rattle.basis.proofs.Never.{never}
use Rattle.sheet.specs.declared.declaration.Declaration.{Declaration}
use Rattle.entries.specs.declared.Entry.{Entry}
use Rattle.entries.specs.declared.Row.{Row}
use Rattle.entries.specs.Tree.{Tree, end, one, held, row}
use Rattle.entries.proofs.Either.{either}
use Rattle.following.specs.Reached.{is_by, listed_by, inside_after, last_after, last_row, reached}
use Rattle.following.specs.Reached as following
use Rattle.readback.specs.Follows.{Unlisted, Last, last_one, last-held, behind-one, behind-held}
use Rattle.readback.specs.Follows.{Follows, follows-last, follows-inside}

module _ (d : Declaration) where
  none-listed : (t : Tree) → Unlisted d t → listed_by d t ≡ end
  none-listed end n = refl
  none-listed (one e t) n = rw (n.0, listed_by) (none-listed t n.1)
  none-listed (held e i t) n = rw (n.0, listed_by) (none-listed t n.1)

  -- the last row, and what the last record holds
  last-row : {t i : Tree} {e : Entry} (o : Option Row) (l : ℕ) → Last d t e i → last_after o l (listed_by d t) ≡ Some (row l e)
  last-row o l (last_one {e} {t} h n) = rw (h, listed_by, none-listed t n)
  last-row o l (last-held {e} {i} {t} h n) = rw (h, listed_by, none-listed t n)
  last-row o l (behind-one {f} {e} {i} {t} k) =
      either (λ u. last_after o l u ≡ Some (row l e)) (is_by d f.by) (one f (listed_by d t)) (listed_by d t)
      (last-row (Some (row l f)) l k) (last-row o l k)
  last-row o l (behind-held {f} {e} {j} {i} {t} k) =
      either (λ u. last_after o l u ≡ Some (row l e)) (is_by d f.by) (held f j (listed_by d t)) (listed_by d t)
      (last-row (Some (row l f)) l k) (last-row o l k)

  last-inside : {t i : Tree} {e : Entry} (a : Tree) → Last d t e i → inside_after a (listed_by d t) ≡ i
  last-inside a (last_one {e} {t} h n) = rw (h, listed_by, none-listed t n)
  last-inside a (last-held {e} {i} {t} h n) = rw (h, listed_by, none-listed t n)
  last-inside a (behind-one {f} {e} {i} {t} k) =
      either (λ u. inside_after a u ≡ i) (is_by d f.by) (one f (listed_by d t)) (listed_by d t) (last-inside end k) (last-inside a k)
  last-inside a (behind-held {f} {e} {j} {i} {t} k) =
      either (λ u. inside_after a u ≡ i) (is_by d f.by) (held f j (listed_by d t)) (listed_by d t) (last-inside j k) (last-inside a k)

  -- there is a last one, or none
  data Sought (t : Tree) : Type 0 where
    found : {e : Entry} {i : Tree} → Last d t e i → Sought t
    nowhere : Unlisted d t → Sought t

  sought : (t : Tree) → Sought t
  sought end = nowhere tt
  sought (one f t) = go (is_by d f.by) refl (sought t)
    where
      go : (b : Bool) → is_by d f.by ≡ b → Sought t → Sought (one f t)
      go b h (found k) = found (behind-one k)
      go true h (nowhere n) = found (last_one h n)
      go false h (nowhere n) = nowhere (h, n)
  sought (held f j t) = go (is_by d f.by) refl (sought t)
    where
      go : (b : Bool) → is_by d f.by ≡ b → Sought t → Sought (held f j t)
      go b h (found k) = found (behind-held k)
      go true h (nowhere n) = found (last-held h n)
      go false h (nowhere n) = nowhere (h, n)

-- nothing is reached where nothing stands
reached-end : (l : ℕ) (ds : List Declaration) → reached following.never l ds end ≡ None
reached-end l [] = refl
reached-end l (d ∷ []) = refl
reached-end l (d ∷ f ∷ ds) = reached-end (suc l) (f ∷ ds)

-- ==== the statements
-- A query reaches the row that 01 follows,
pub follows-reached : {l : ℕ} {ds : List Declaration} {t : Tree} {x : Row} → Follows l ds t x → reached following.never l ds t ≡ Some x
follows-reached (follows-last {l} {d} {t} {i} {e} k) = last-row d None l k
follows-reached (follows-inside {l} {d} {f} {ds} {t} {i} {e} {x} k more) =
    rw (last-inside d end k) (follows-reached more)

-- and no other; where it reaches none, there is none.
pub reached-follows : (ds : List Declaration) (l : ℕ) (t : Tree) (x : Row) → reached following.never l ds t ≡ Some x → Follows l ds t x
reached-follows [] l t x q = never cc
reached-follows (d ∷ []) l t x q = go (sought d t)
  where
    go : Sought d t → Follows l (d ∷ []) t x
    go (found {e} {i} k) = let same : x ≡ row l e = cc (last-row d None l k) in rw same (follows-last k)
    go (nowhere n) = never (cc (ap (last_row l) (none-listed d t n)))
reached-follows (d ∷ f ∷ ds) l t x q = go (sought d t) (reached-follows (f ∷ ds) (suc l))
  where
    go : Sought d t → ((i : Tree) (x : Row) → reached following.never (suc l) (f ∷ ds) i ≡ Some x → Follows (suc l) (f ∷ ds) i x)
        → Follows l (d ∷ f ∷ ds) t x
    go (found {e} {i} k) more = follows-inside k (more i x (rw (last-inside d end k) at q))
    go (nowhere n) more =
        let here = ap (λ u. reached following.never (suc l) (f ∷ ds) (inside_after end u)) (none-listed d t n) in
        never (cc (here, reached-end (suc l) (f ∷ ds)))
