-- Where the records of every listed reading lie, and that their values are what their payloads say. The statements stand at the end.
-- Assumes nothing.
use Rattle.std.specs.Prelude.{◌≡◌, refl, List, [], ◌∷◌, ◌++◌, ℕ, suc, ◌+◌, ◌≤◌, length, take, drop}
use Rattle.basis.specs.Kit.{sym, ap, ◌∙◌}
use Rattle.basis.specs.Among.{Among, here, there, Ordered, next}
use Rattle.basis.proofs.Kit.{arith}
use Rattle.basis.proofs.AmongLaws.{among-nil, among-append-cases, ordered-append}
use mathlib.Core.Path.{subst}
use mathlib.Core.List.{append-nil, append_assoc}
use native.Mathlib.Nat.{zero-add, le_refl, le_trans, le-add_right}
use lib.ListN.{length-drop, take-append-drop}
use lib.Seq.{length-take-le, drop-append-le, drop-drop}
use Rattle.octets.specs.Octets.{part}
use Rattle.payloads.specs.Extent.{Extent}
use Rattle.sheet.specs.declared.declaration.Declaration.{Declaration}
use Rattle.lookups.specs.Lookups.{Lookups, Message}
use Rattle.entries.specs.declared.Entry.{Entry}
use Rattle.entries.specs.declared.Row.{Row}
use Rattle.entries.specs.Tree.{Tree, end, one, held, leaves, row, rows}
use Rattle.entries.specs.Item.{Item, some, into, wrong, entry, item}
use Rattle.entries.specs.Reading.{listed, reading}
use Rattle.readback.specs.Lying.{RecordLies, Lying}
use Rattle.readback.proofs.PlaceLaws.{part_at}
use Rattle.readback.proofs.ReadingSteps.{Reads, reads_end, reads-leaves, reads_held, reading-reads}
use Rattle.readback.proofs.ItemLaws.{fronted-inside, Made, made-wrong, made-unknown, made_plain, made_held, item-made}

-- ---- the bytes xs stand at a place of bs
module _ (bs : List ℕ) (place : ℕ) (xs rest : List ℕ) (h : drop place bs ≡ xs ++ rest) where
  pub behind : (k : ℕ) → k ≤ length xs → drop (place + k) bs ≡ drop k xs ++ rest
  behind k l = sym (drop-drop k place bs) ∙ ap (drop k) h ∙ drop-append-le k xs rest l

  pub inside : (k size : ℕ) → k ≤ length xs → drop (place + k) bs ≡ take size (drop k xs) ++ (drop size (drop k xs) ++ rest)
  inside k size l = behind k l ∙ rw (← append_assoc, take-append-drop)

  pub part-is : (k size : ℕ) → k + size ≤ length xs → part bs (place + k) (place + k + size) ≡ take size (drop k xs)
  part-is k size l =
      let count : length (take size (drop k xs)) ≡ size = length-take-le size (drop k xs) (rw length-drop (omega arith)) in
      rw count at (part_at bs (place + k) (take size (drop k xs)) (drop size (drop k xs) ++ rest) (inside k size (omega arith)))

-- ---- records one behind the other
module _ (bs : List ℕ) where
  lies-wider : {a b c d : ℕ} {e : Entry} → a ≤ b → c ≤ d → RecordLies bs b c e → RecordLies bs a d e
  lies-wider h k y = record { behind = le_trans h y.behind; inside = le_trans y.inside k; says = y.says }

  -- from an earlier place on
  lying-from : (a b c : ℕ) → a ≤ b → (t : Tree) → Lying bs b c t → Lying bs a c t
  lying-from a b c h end l = le_trans h l
  lying-from a b c h (one e t) l = (lies-wider h (le_refl c) l.0, l.1)
  lying-from a b c h (held e i t) l = (lies-wider h (le_refl c) l.0, l.1, l.2)

  lying-ends : (a b : ℕ) (t : Tree) → Lying bs a b t → a ≤ b
  lying-ends a b end l = l
  lying-ends a b (one e t) l = omega (arith, l.0.behind, l.0.inside)
  lying-ends a b (held e i t) l = omega (arith, l.0.behind, l.0.inside)

  lying-leaves : (a b c : ℕ) (es : List Entry) (t : Tree) → Lying bs a b (leaves es end) → Lying bs b c t → Lying bs a c (leaves es t)
  lying-leaves a b c [] t l k = lying-from a b c l t k
  lying-leaves a b c (e ∷ es) t l k =
      let ends : b ≤ c = lying-ends b c t k in (
        lies-wider (le_refl a) ends l.0,
        lying-leaves (e.place + e.size) b c es t l.1 k,
      )

-- ---- one item
module _ (bs : List ℕ) (place : ℕ) (xs rest : List ℕ) (h : drop place bs ≡ xs ++ rest) where
  abbrev ItemLies : Item → Type 0
  ItemLies (wrong w) = Unit {0}
  ItemLies (some es k) = Lying bs place (place + k) (leaves es end) × (k ≤ length xs)
  ItemLies (into e n k size) =
      RecordLies bs place (place + (k + size)) e × (e.place ≡ place + k) × (e.size ≡ size) × (k + size ≤ length xs)

  entry-lies : (L : Lookups) (s : List ℕ) (m : Message) (d : Declaration) (t n : ℕ) (x : Extent) → n + x.before + x.size ≤ length xs
      → (to : ℕ) → place + (n + x.before) + x.size ≤ to → RecordLies bs place to (entry L s m place xs d t n x)
  entry-lies L s m d t n x room to ends = record {
    behind = omega arith;
    inside = ends;
    says = rw (part-is bs place xs rest h (n + x.before) x.size room);
  }

  made-lies : {L : Lookups} {s : List ℕ} {m : Message} {i : Item} → Made L s m place xs i → ItemLies i
  made-lies made-wrong = tt
  made-lies (made-unknown {t} {n} {x} f q) =
      ((record { behind = omega arith; inside = omega arith; says = refl }, omega arith), fronted-inside xs t n x f)
  made-lies {L} {s} {m} (made_plain {t} {n} {x} {d} f q w g) =
      let room = fronted-inside xs t n x f in
      ((entry-lies L s m d t n x room _ (omega arith), omega arith), room)
  made-lies {L} {s} {m} (made_held {t} {n} {x} {d} {p} f q w g u) =
      let room = fronted-inside xs t n x f in
      (entry-lies L s m d t n x room _ (omega arith), refl, refl, room)

  item-lies : (L : Lookups) (s : List ℕ) (m : Message) (i : Item) → item L s m place xs ≡ i → ItemLies i
  item-lies L s m i g = subst ItemLies g (made-lies (item-made L s m place xs))

-- ---- all of them
module _ (bs : List ℕ) (L : Lookups) (s : List ℕ) where
  reads-lie : {m : Message} {place : ℕ} {xs : List ℕ} {t : Tree} → Reads L s m place xs t → (rest : List ℕ) → drop place bs ≡ xs ++ rest
      → Lying bs place (place + length xs) t
  reads-lie reads_end rest h = omega arith
  reads-lie (reads-leaves {m} {place} {xs} {es} {k} {t} g r) rest h =
      let here = item-lies bs place xs rest h L s m (some es k) g in
      let later = reads-lie r rest (behind bs place xs rest h k here.1) in
      let ends : place + k + length (drop k xs) ≡ place + length xs = rw length-drop (omega (arith, here.1)) in
      lying-leaves bs place (place + k) (place + length xs) es t here.0 (rw ends at later)
  reads-lie (reads_held {m} {place} {xs} {e} {n} {k} {size} {i} {t} g j r) rest h =
      let here = item-lies bs place xs rest h L s m (into e n k size) g in
      let room : k + size ≤ length xs = here.3 in
      let later = reads-lie r rest (behind bs place xs rest h (k + size) room) in
      let within = reads-lie j (drop size (drop k xs) ++ rest) (inside bs place xs rest h k size (omega arith)) in
      let count : length (take size (drop k xs)) ≡ size = length-take-le size (drop k xs) (rw length-drop (omega arith)) in
      let ends : place + (k + size) + length (drop (k + size) xs) ≡ place + length xs = rw length-drop (omega arith) in
      let seam : place + (k + size) ≡ place + k + size = omega arith in
      let a = here.0 in (
        record { behind = a.behind; inside = omega (arith, a.inside); says = a.says },
        rw (here.1, here.2) (rw count at within),
        rw (here.1, here.2, ← seam) (rw ends at later),
      )

-- ==== the statements
module _ (bs : List ℕ) where
  -- The records of every reading that is listed lie inside the option bytes, one behind the other, what a message holds inside its payload,
  -- and the value of each is what its payload says.
  pub reading-lies : (L : Lookups) (s : List ℕ) (d : ℕ) (m : Message) (t : Tree) → reading L s d m 0 bs ≡ listed t
      → Lying bs 0 (length bs) t
  reading-lies L s d m t e = rw zero-add at (reads-lie bs L s (reading-reads L s d m 0 bs t e) [] (sym (append-nil bs)))

  -- So does every row,
  pub rows_lie : (l a b : ℕ) (t : Tree) → Lying bs a b t → {r : Row} → Among r (rows l t) → RecordLies bs a b r.entry
  rows_lie l a b end y m = among-nil m
  rows_lie l a b (one e t) y here = y.0
  rows_lie l a b (one e t) y (there m) =
      let low : a ≤ e.place + e.size = omega (arith, y.0.behind) in
      lies-wider bs low (le_refl b) (rows_lie l (e.place + e.size) b t y.1 m)
  rows_lie l a b (held e i t) y here = y.0
  rows_lie l a b (held e i t) y (there m) =
      let low : a ≤ e.place + e.size = omega (arith, y.0.behind) in
      among-append-cases (rows (suc l) i)
      (λ k. lies-wider bs y.0.behind y.0.inside (rows_lie (suc l) e.place (e.place + e.size) i y.1 k))
      (λ k. lies-wider bs low (le_refl b) (rows_lie l (e.place + e.size) b t y.2 k)) m

  -- and the rows are in the order of the bytes.
  pub rows-ordered : (l a b : ℕ) (t : Tree) → Lying bs a b t → Ordered (λ x y. x.entry.place ≤ y.entry.place) (rows l t)
  rows-ordered l a b end y = Ordered.none
  rows-ordered l a b (one e t) y =
      next {x = row l e}
      (λ r m. le_trans (le-add_right _ _) (rows_lie l (e.place + e.size) b t y.1 m).behind)
      (rows-ordered l (e.place + e.size) b t y.1)
  rows-ordered l a b (held e i t) y =
      next {x = row l e}
      (λ r. among-append-cases (rows (suc l) i) (λ k. (within k).behind) (λ k. le_trans (le-add_right _ _) (after k).behind))
      (ordered-append (rows l t) (rows-ordered (suc l) e.place (e.place + e.size) i y.1)
      (rows-ordered l (e.place + e.size) b t y.2)
      (λ p q j k. le_trans (le-add_right _ _) (le_trans (within j).inside (after k).behind)))
    where
      within : {r : Row} → Among r (rows (suc l) i) → RecordLies bs e.place (e.place + e.size) r.entry
      within = rows_lie (suc l) e.place (e.place + e.size) i y.1

      after : {r : Row} → Among r (rows l t) → RecordLies bs (e.place + e.size) b r.entry
      after = rows_lie l (e.place + e.size) b t y.2
