-- A reading that is listed, step by step: each step has the item at the front, and goes on where that ends. What is said of every listed
-- reading is an induction over these steps.
-- Assumes nothing.
use Rattle.std.specs.Prelude.{◌≡◌, refl, List, [], ◌∷◌, ℕ, zero, suc, ◌+◌, ◌≤◌, length, take, drop}
use Rattle.basis.specs.Kit.{sym, ◌∙◌}
use Rattle.basis.proofs.Kit.{arith}
use Rattle.basis.proofs.Never.{never}
use lib.ListN.{length-drop}
use Rattle.lookups.specs.Lookups.{Lookups, Message}
use Rattle.entries.specs.declared.Entry.{Entry}
use Rattle.entries.specs.Tree.{Tree, end, held, leaves}
use Rattle.entries.specs.Item.{Item, some, into, wrong, item}
use Rattle.entries.specs.Reading.{Listed, listed, refused, onward, enclosed, follow, records_from, reading}
use Rattle.entries.proofs.ReadingLaws.{some-takes, into-takes, records-nil, records-step}

pub data Reads (L : Lookups) (s : List ℕ) : Message → ℕ → List ℕ → Tree → Type 0 where
  reads_end : {m : Message} {place : ℕ} → Reads L s m place [] end
  reads-leaves : {m : Message} {place : ℕ} {xs : List ℕ} {es : List Entry} {k : ℕ} {t : Tree} → item L s m place xs ≡ some es k
      → Reads L s m (place + k) (drop k xs) t → Reads L s m place xs (leaves es t)
  reads_held : {m : Message} {place : ℕ} {xs : List ℕ} {e : Entry} {n : Message} {k size : ℕ} {i t : Tree}
      → item L s m place xs ≡ into e n k size → Reads L s n (place + k) (take size (drop k xs)) i
      → Reads L s m (place + (k + size)) (drop (k + size) xs) t → Reads L s m place xs (held e i t)

-- ---- what is listed was made of what is listed
record Onward (f : Tree → Tree) (x : Listed) (t : Tree) : Type 0 where
  pub rest : Tree
  pub is : x ≡ listed rest
  pub made : t ≡ f rest

onward-inv : (f : Tree → Tree) (x : Listed) (t : Tree) → onward f x ≡ listed t → Onward f x t
onward-inv f (listed u) t e = record { rest = u; is = refl; made = cc }
onward-inv f (refused w) t e = never cc

record Enclosed (e : Entry) (y x : Listed) (t : Tree) : Type 0 where
  pub inside : Tree
  pub holds : y ≡ listed inside
  pub rest : Tree
  pub is : x ≡ listed rest
  pub made : t ≡ held e inside rest

enclosed-inv : (e : Entry) (y x : Listed) (t : Tree) → enclosed e y x ≡ listed t → Enclosed e y x t
enclosed-inv e (listed i) x t q =
    let o = onward-inv (held e i) x t q in
    record { inside = i; holds = refl; rest = o.rest; is = o.is; made = o.made }
enclosed-inv e (refused w) x t q = never cc

module _ (L : Lookups) (s : List ℕ) where
  module _ (inner : Message → ℕ → List ℕ → Listed)
      (ih : (m : Message) (place : ℕ) (xs : List ℕ) (t : Tree) → inner m place xs ≡ listed t → Reads L s m place xs t) where
    -- one step, where what is left behind it is read so
    module _ (m : Message) (place : ℕ) (xs : List ℕ) (t : Tree) where
      abbrev next : ℕ → Listed
      next k = records_from L s inner m (place + k) 0 (drop k xs)

      step-reads : ((k : ℕ) → 1 ≤ k → (u : Tree) → next k ≡ listed u → Reads L s m (place + k) (drop k xs) u)
          → (i : Item) → item L s m place xs ≡ i → follow L s inner m place xs next i ≡ listed t → Reads L s m place xs t
      step-reads more (wrong w) g f = never cc
      step-reads more (some es k) g f =
          let o = onward-inv (leaves es) (next k) t f in
          rw o.made (reads-leaves g (more k (some-takes L s m place xs es k g) o.rest o.is))
      step-reads more (into e n k size) g f =
          let body = take size (drop k xs) in
          let o = enclosed-inv e (inner n (place + k) body) (next (k + size)) t f in
          let taken : 1 ≤ k + size = omega (arith, into-takes L s m place xs e n k size g) in
          rw o.made (reads_held g (ih n (place + k) body o.inside o.holds) (more (k + size) taken o.rest o.is))

    none_reads : (m : Message) (place : ℕ) (t : Tree) → records_from L s inner m place 0 [] ≡ listed t → Reads L s m place [] t
    none_reads m place t q = let same : t ≡ end = cc (records-nil L s inner m place 0) in rw same reads_end

    from-reads : (fuel : ℕ) (m : Message) (place : ℕ) (xs : List ℕ) (t : Tree) → length xs ≤ fuel
        → records_from L s inner m place 0 xs ≡ listed t → Reads L s m place xs t
    from-reads zero m place [] t h q = none_reads m place t q
    from-reads zero m place (x ∷ xs) t h q = absurd (omega arith)
    from-reads (suc fuel) m place [] t h q = none_reads m place t q
    from-reads (suc fuel) m place (x ∷ xs) t h q =
        step-reads m place (x ∷ xs) t
        (λ k g u. from-reads fuel m (place + k) (drop k (x ∷ xs)) u (rw length-drop (omega arith)))
        (item L s m place (x ∷ xs)) refl (sym (records-step L s inner m place (x ∷ xs) (omega arith)) ∙ q)

  pub reading-reads : (d : ℕ) (m : Message) (place : ℕ) (xs : List ℕ) (t : Tree) → reading L s d m place xs ≡ listed t
      → Reads L s m place xs t
  unfolding reading
  reading-reads zero m place xs t q = never cc
  reading-reads (suc d) m place xs t q = from-reads (reading L s d) (reading-reads d) (length xs) m place xs t (omega arith) q
