-- What a value query answers: the words of a row of the listing, that of the part's declaration; Absent exactly where nothing is reached or
-- parts are left on a group. The statements stand at the end.
-- Assumes nothing.
use Rattle.std.specs.Prelude.{◌≡◌, refl, Bool, List, [], ◌∷◌, ◌++◌, ℕ, suc, Option, None, Some}
use Rattle.basis.specs.Kit.{sym, ap, ◌∙◌}
use Rattle.basis.specs.Among.{Among, here, there}
use Rattle.basis.proofs.Never.{never}
use Rattle.basis.proofs.AmongLaws.{among-nil, among-append-left, among-append-right, among-append-cases}
use mathlib.Core.List.{append_assoc}
use Rattle.sheet.specs.declared.declaration.Declaration.{Declaration}
use Rattle.entries.specs.declared.Entry.{Entry}
use Rattle.entries.specs.declared.Row.{Row}
use Rattle.entries.specs.Tree.{Tree, end, one, held, append, row, rows, words}
use Rattle.entries.specs.Reading.{Under, under, refused_by, records_of}
use Rattle.entries.proofs.Either.{either}
use Rattle.reply.specs.Outcome.{nothing, give}
use Rattle.lookups.specs.Lookups.{Lookups, Message}
use Rattle.following.specs.Reached.{is_by, listed_by, inside_after, last_inside, joined, last_after, inside, reached}
use Rattle.naming.specs.Name.{Named, names, group, refused_at}
use Rattle.query.specs.Query.{answered, on_named, on_records, query_of}
use Rattle.readback.specs.Follows.{parts_named, Leads, Lacks, on-group, no_record}

-- ---- rows of parts of a tree
among-keep : {x y : Row} {xs ys : List Row} → (Among x xs → Among x ys) → Among x (y ∷ xs) → Among x (y ∷ ys)
among-keep f here = here
among-keep f (there m) = there (f m)

rows_append : (l : ℕ) (t u : Tree) → rows l (append t u) ≡ rows l t ++ rows l u
rows_append l end u = refl
rows_append l (one e t) u = ap (λ rs. row l e ∷ rs) (rows_append l t u)
rows_append l (held e i t) u =
    let more = ap (λ rs. rows (suc l) i ++ rs) (rows_append l t u) in
    ap (λ rs. row l e ∷ rs) (more ∙ sym (append_assoc (rows (suc l) i) (rows l t) (rows l u)))

module _ (x : Row) (l : ℕ) where
  -- what a declaration lists is listed
  listed-among : (d : Declaration) (t : Tree) → Among x (rows l (listed_by d t)) → Among x (rows l t)
  listed-among d end = λ m. m
  listed-among d (one e t) =
      let more = listed-among d t in
      either (λ u. Among x (rows l u) → Among x (rows l (one e t))) (is_by d e.by) (one e (listed_by d t)) (listed_by d t)
      (among-keep more) (λ m. there (more m))
  listed-among d (held e i t) =
      let more : Among x (rows l (listed_by d t)) → Among x (rows (suc l) i ++ rows l t) =
      λ k. among-append-right (rows (suc l) i) (listed-among d t k) in
      either (λ u. Among x (rows l u) → Among x (rows l (held e i t))) (is_by d e.by) (held e i (listed_by d t)) (listed_by d t)
      (among-keep (among-append-cases (rows (suc l) i) (among-append-left (rows l t)) more)) (λ m. there (more m))

  -- what the last record holds, and what they all hold, is listed a level deeper
  after-among : {C : Type 0} (i t : Tree) → (Among x (rows (suc l) i) → C) → (Among x (rows l t) → C)
      → Among x (rows (suc l) (inside_after i t)) → C
  after-among i end f g = f
  after-among i (one e t) f g = after-among end t among-nil (λ m. g (there m))
  after-among i (held e j t) f g =
      after-among j t (λ m. g (there (among-append-left (rows l t) m))) (λ m. g (there (among-append-right (rows (suc l) j) m)))

  joined-among : (t : Tree) → Among x (rows (suc l) (joined t)) → Among x (rows l t)
  joined-among end m = m
  joined-among (one e t) m = there (joined-among t m)
  joined-among (held e i t) m =
      let split : Among x (rows (suc l) i ++ rows (suc l) (joined t)) = rw (rows_append (suc l) i (joined t)) at m in
      let more : Among x (rows (suc l) (joined t)) → Among x (rows (suc l) i ++ rows l t) =
      λ k. among-append-right (rows (suc l) i) (joined-among t k) in
      there (among-append-cases (rows (suc l) i) (among-append-left (rows l t)) more split)

  inside-among : (joins : Declaration → Bool) (d : Declaration) (t : Tree) → Among x (rows (suc l) (inside joins d t)) → Among x (rows l t)
  inside-among joins d t =
      either (λ u. Among x (rows (suc l) u) → Among x (rows l t)) (joins d) (joined (listed_by d t)) (last_inside (listed_by d t))
      (λ m. listed-among d t (joined-among (listed_by d t) m))
      (λ m. listed-among d t (after-among end (listed_by d t) among-nil (λ k. k) m))

  first-among : (e : Entry) (xs : List Row) → Some (row l e) ≡ Some x → Among x (row l e ∷ xs)
  first-among e xs q = let same : x ≡ row l e = cc in rw same here

  last-among : {C : Type 0} (o : Option Row) (t : Tree) → (o ≡ Some x → C) → (Among x (rows l t) → C) → last_after o l t ≡ Some x → C
  last-among o end f g = f
  last-among o (one e t) f g = last-among (Some (row l e)) t (λ q. g (first-among e (rows l t) q)) (λ m. g (there m))
  last-among o (held e i t) f g =
      last-among (Some (row l e)) t (λ q. g (first-among e (rows (suc l) i ++ rows l t) q))
      (λ m. g (there (among-append-right (rows (suc l) i) m)))

module _ (joins : Declaration → Bool) (x : Row) where
  -- The row that a name's declarations lead to is a row of the listing.
  pub reached-listed : (ds : List Declaration) (l : ℕ) (t : Tree) → reached joins l ds t ≡ Some x → Among x (rows l t)
  reached-listed [] l t e = never cc
  reached-listed (d ∷ []) l t e = listed-among x l d t (last-among x l None (listed_by d t) (λ q. never cc) (λ m. m) e)
  reached-listed (d ∷ f ∷ ds) l t e = inside-among x l joins d t (reached-listed (f ∷ ds) (suc l) (inside joins d t) e)

-- ---- the call
module _ (joins : Declaration → Bool) (L : Lookups) (s type q bs : List ℕ) where
  abbrev Answers : List ℕ → Type 0
  Answers ws = (x : Row) × Leads joins L s type q bs x × (ws ≡ words x)

  module _ {m : Message} {t : Tree} (read : records_of L s type bs ≡ under m t) where
    reached-answers : (ws : List ℕ) (ds : List Declaration) → parts_named L s q m ≡ names ds → (o : Option Row) → reached joins 0 ds t ≡ o
        → answered o ≡ give ws → Answers ws
    reached-answers ws ds g None f e = never cc
    reached-answers ws ds g (Some x) f e =
        let same : ws ≡ words x = cc in
        (x, record { message = m; tree = t; read = read; parts = ds; by = g; to = f }, same)

    named-answers : (ws : List ℕ) (n : Named) → parts_named L s q m ≡ n → on_named joins n t ≡ give ws → Answers ws
    named-answers ws (names ds) g e = reached-answers ws ds g (reached joins 0 ds t) refl e
    named-answers ws group g e = never cc
    named-answers ws (refused_at i w) g e = never cc

    reached-lacks : (ds : List Declaration) → parts_named L s q m ≡ names ds → (o : Option Row) → reached joins 0 ds t ≡ o
        → answered o ≡ nothing → Lacks joins L s type q bs
    reached-lacks ds g None f e = no_record read g f
    reached-lacks ds g (Some x) f e = never cc

    named-lacks : (n : Named) → parts_named L s q m ≡ n → on_named joins n t ≡ nothing → Lacks joins L s type q bs
    named-lacks (names ds) g e = reached-lacks ds g (reached joins 0 ds t) refl e
    named-lacks group g e = on-group read g
    named-lacks (refused_at i w) g e = never cc

  -- ==== the statements
  -- What is answered is the words of the row that the name leads to,
  pub query-answers : (ws : List ℕ) → query_of joins L s type q bs ≡ give ws → (x : Row) × Leads joins L s type q bs x × (ws ≡ words x)
  unfolding query_of
  query-answers ws e = go (records_of L s type bs) refl e
    where
      go : (u : Under) → records_of L s type bs ≡ u → on_records joins L s q u ≡ give ws → Answers ws
      go (under m t) r f = named-answers r ws (parts_named L s q m) refl f
      go (refused_by w) r f = never cc

  -- and so it is wherever it leads to one.
  pub leads-query : (x : Row) → Leads joins L s type q bs x → query_of joins L s type q bs ≡ give (words x)
  unfolding query_of
  leads-query x y = rw (y.read, y.by, y.to)

  -- The answer is Absent only where there is none or parts are left on a group,
  pub query-absent : query_of joins L s type q bs ≡ nothing → Lacks joins L s type q bs
  unfolding query_of
  query-absent e = go (records_of L s type bs) refl e
    where
      go : (u : Under) → records_of L s type bs ≡ u → on_records joins L s q u ≡ nothing → Lacks joins L s type q bs
      go (under m t) r f = named-lacks r (parts_named L s q m) refl f
      go (refused_by w) r f = never cc

  -- and wherever that is so.
  pub lacks-query : Lacks joins L s type q bs → query_of joins L s type q bs ≡ nothing
  unfolding query_of
  lacks-query (on-group r g) = rw (r, g)
  lacks-query (no_record r g f) = rw (r, g, f)

  -- The row is one of the listing of the same bytes.
  pub leads-listed : (x : Row) → (y : Leads joins L s type q bs x) → Among x (rows 0 y.tree)
  leads-listed x y = reached-listed joins x y.parts 0 y.tree y.to
