-- The laws of the list of fields that any reader gives, and of `walk`, which is that of `field_at`: the list opens at its first field, and
-- what holds of it by its fields. No law after these speaks of fuel.
--
-- The laws, for a reader `next` with `Reads next`, and the same of `walk`:
--    walk-by-done  walk-done   from the end on there is no field
--     walk-by-cut  walk-cut    before the end, where no whole field stands, the list is cut
--    walk-by-step  walk_step   where one stands, it is that field and the list from its end on
--   walk-by-holds  walk-holds  what holds of no fields and of a cut, and of a field that lies ahead with what holds from its end on, holds
--
-- Assumes nothing.
use Rattle.std.specs.Prelude.{◌≡◌, refl, Bool, true, false, List, ℕ, zero, suc, ◌-◌, ◌≤◌, ◌<◌, ltb, None, Some, Option}
use Rattle.basis.specs.Kit.{ap, ◌∙◌}
use Rattle.basis.proofs.Kit.{arith, lt-ltb, le-ltb}
use borrow.Author.Tests.{ltb-true}
use Rattle.field.specs.Field.{field_at}
use Rattle.field.specs.Walk.{Reader, Walk, done, cut, step, walk_on, walk_for, walk_by, walk}
use Rattle.field.proofs.ReaderLaws.{Ahead, Reads, reads-ahead}
use Rattle.field.proofs.FieldLaws.{field-reads}
use Rattle.field.specs.declared.Field.{Field}

module _ {next : Reader} (reads : Reads next) (s : List ℕ) (end : ℕ) where
  fuel-follow : (n m at : ℕ) → at < end → end - at ≤ suc n → end - at ≤ suc m
      → ((e : ℕ) → end - e ≤ n → end - e ≤ m → walk_for next n s e end ≡ walk_for next m s e end)
      → (f : Option Field) → f ≡ next s at end → walk_on f (λ e. walk_for next n s e end) ≡ walk_on f (λ e. walk_for next m s e end)
  fuel-follow n m at h k l ih None q = refl
  fuel-follow n m at h k l ih (Some found) q =
      let b : Ahead at end found.from found.to = reads-ahead reads s at end (Some found) q found refl in
      ap (step found.tag found.from found.to) (ih found.to (omega (arith, b.starts, b.ordered)) (omega (arith, b.starts, b.ordered)))

  fuel-more : (n m at : ℕ) → end - at ≤ suc n → end - at ≤ suc m
      → ((e : ℕ) → end - e ≤ n → end - e ≤ m → walk_for next n s e end ≡ walk_for next m s e end)
      → (b : Bool) → ltb at end ≡ b
      → ◌≡◌ {A = Walk} (elim b [ true ↦ walk_on (next s at end) (λ e. walk_for next n s e end) | false ↦ done ])
      (elim b [ true ↦ walk_on (next s at end) (λ e. walk_for next m s e end) | false ↦ done ])
  fuel-more n m at k l ih true p = fuel-follow n m at (ltb-true at end p) k l ih (next s at end) refl
  fuel-more n m at k l ih false p = refl

  -- fuel that is enough gives what any other that is enough gives
  walk-fuel : (n m at : ℕ) → end - at ≤ n → end - at ≤ m → walk_for next n s at end ≡ walk_for next m s at end
  walk-fuel zero zero at k l = refl
  walk-fuel zero (suc m) at k l = simp (walk_for, le-ltb at end (omega arith))
  walk-fuel (suc n) zero at k l = simp (walk_for, le-ltb at end (omega arith))
  walk-fuel (suc n) (suc m) at k l = fuel-more n m at k l (walk-fuel n m) (ltb at end) refl

  walk-open : (at : ℕ) → at < end → walk_by next s at end ≡ walk_on (next s at end) (λ e. walk_for next (end - at) s e end)
  unfolding walk_by
  walk-open at h = walk-fuel (end - at) (suc (end - at)) at (omega arith) (omega arith) ∙ simp (walk_for, lt-ltb at end h)

module _ {next : Reader} (reads : Reads next) (s : List ℕ) (at end : ℕ) where
  pub walk-by-done : end ≤ at → walk_by next s at end ≡ done
  unfolding walk_by
  walk-by-done h = walk-fuel reads s end (end - at) zero at (omega arith) (omega arith)

  module _ (h : at < end) (r : Option Field) (q : r ≡ next s at end) where
    pub walk-by-cut : r ≡ None → walk_by next s at end ≡ cut
    walk-by-cut g = rw (walk-open reads s end at h, ← q, g)

    pub walk-by-step : (f : Field) → r ≡ Some f → walk_by next s at end ≡ step f.tag f.from f.to (walk_by next s f.to end)
    unfolding walk_by
    walk-by-step f g =
        let b : Ahead at end f.from f.to = reads-ahead reads s at end r q f g in
        rw (walk-open reads s end at h, ← q, g)
        (ap (step f.tag f.from f.to) (walk-fuel reads s end (end - at) (end - f.to) f.to (omega (arith, b.starts, b.ordered)) (omega arith)))

-- ---- what holds at a place of the fields from there on: each of them lies between the place and the end
module _ {next : Reader} (reads : Reads next) (s : List ℕ) (end : ℕ) (P : ℕ → Walk → Type 0) (on_done : (at : ℕ) → P at done)
    (on_cut : (at : ℕ) → P at cut) (on_step : (at t a e : ℕ) (w : Walk) → Ahead at end a e → P e w → P at (step t a e w)) where
  follow-holds : (n at : ℕ) → ((e : ℕ) → P e (walk_for next n s e end)) → (f : Option Field) → f ≡ next s at end
      → P at (walk_on f (λ e. walk_for next n s e end))
  follow-holds n at ih None q = on_cut at
  follow-holds n at ih (Some here) q =
      on_step at here.tag here.from here.to (walk_for next n s here.to end) (reads-ahead reads s at end (Some here) q here refl) (ih here.to)

  test-holds : (n at : ℕ) → ((e : ℕ) → P e (walk_for next n s e end)) → (b : Bool)
      → P at (elim b [ true ↦ walk_on (next s at end) (λ e. walk_for next n s e end) | false ↦ done ])
  test-holds n at ih true = follow-holds n at ih (next s at end) refl
  test-holds n at ih false = on_done at

  fuel-holds : (n at : ℕ) → P at (walk_for next n s at end)
  fuel-holds zero at = on_done at
  fuel-holds (suc n) at = test-holds n at (fuel-holds n) (ltb at end)

  pub walk-by-holds : (at : ℕ) → P at (walk_by next s at end)
  unfolding walk_by
  walk-by-holds at = fuel-holds (end - at) at

-- ---- the same of `walk`
module _ (s : List ℕ) (at end : ℕ) where
  pub walk-done : end ≤ at → walk s at end ≡ done
  walk-done = walk-by-done field-reads s at end

  module _ (h : at < end) (r : Option Field) (q : r ≡ field_at s at end) where
    pub walk-cut : r ≡ None → walk s at end ≡ cut
    walk-cut = walk-by-cut field-reads s at end h r q

    pub walk_step : (f : Field) → r ≡ Some f → walk s at end ≡ step f.tag f.from f.to (walk s f.to end)
    walk_step = walk-by-step field-reads s at end h r q

pub walk-holds : (s : List ℕ) (end : ℕ) (P : ℕ → Walk → Type 0) → ((at : ℕ) → P at done) → ((at : ℕ) → P at cut)
    → ((at t a e : ℕ) (w : Walk) → Ahead at end a e → P e w → P at (step t a e w)) → (at : ℕ) → P at (walk s at end)
walk-holds = walk-by-holds field-reads
