-- A loop over sibling fields, whatever the reader, that counts: n was counted up to the place i, and what F counts of the fields that are
-- left makes up the whole. No field counts for more than its payload's bytes and one, and its payload starts further on, so the sums fit.
--
--                    counted F n w ==  n, and what F counts of the fields w
--   TallyBy next v F s from to n i <-> n and what F counts of the fields that `next` gives from i on make up v, and n is at most i - from
--          Tally v F s from to n i <-> so it is for the reader `field_at`
--                        total f w ==  the sum of what f gives of each field
--
-- The laws:
--   tally-by-start, tally-start  nothing is counted at the first place
--                     tally-few  what is counted is at most the bytes
--                     tally-end  at the end the count is v
--                     tally-cut  so it is where no whole field stands
--                    tally-fits  with what a field counts for it fits
--                    tally-more  what the field that stands there counts for is added, and the loop goes on from its end
--                    tally-next  likewise, where each field counts for what f gives of it
-- `tally_loop` has those of the turns, for any reader; `tally_laws` all that a loop over the fields of `field_at` needs, but its start.
--
-- Assumes nothing.
use Rattle.std.specs.Prelude.{◌≡◌, List, ℕ, ◌+◌, ◌-◌, ◌≤◌, ◌<◌, length, None, Some, Option}
use Rattle.basis.specs.Kit.{sym, ◌∙◌}
use Rattle.basis.proofs.Kit.{arith, w64, Fits}
use native.Mathlib.Nat.{zero-add, add-zero, add_assoc}
use mir.Facts.{Fits-le}
use Rattle.field.specs.Field.{field_at}
use Rattle.field.specs.Walk.{Reader, Walk, done, cut, step, walk_by, walk}
use Rattle.field.proofs.ReaderLaws.{Reads, reads-ahead}
use Rattle.field.proofs.FieldLaws.{field-reads, field_place_laws}
use Rattle.field.proofs.Rest.{RestBy, rest_end, rest-cut, rest-next}
use Rattle.field.specs.declared.Field.{Field}

abbrev pub counted : (F : Walk → ℕ) (n : ℕ) → Walk → ℕ
counted F n w = n + F w

-- v is the whole, n what is counted of the fields from the place `from` up to the place i
pub record TallyBy (next : Reader) (v : ℕ) (F : Walk → ℕ) (s : List ℕ) (from to n i : ℕ) : Type 0 where
  pub left : RestBy next v (counted F n) s to i
  pub few : n + from ≤ i

abbrev pub Tally : (v : ℕ) (F : Walk → ℕ) (s : List ℕ) (from to n i : ℕ) → Type 0
Tally v F s from to n i = TallyBy field_at v F s from to n i

pub tally-by-start : {next : Reader} → Reads next → (v : ℕ) (F : Walk → ℕ) (s : List ℕ) (from to : ℕ) → v ≡ F (walk_by next s from to)
    → from ≤ to → to ≤ length s → TallyBy next v F s from to 0 from
tally-by-start {next} x v F s from to p h k =
    record {
      left = record { reads = x; within = h; inside = k; rest = p ∙ sym (zero-add (F (walk_by next s from to))) };
      few = omega arith;
    }

pub tally-start : (v : ℕ) (F : Walk → ℕ) (s : List ℕ) (from to : ℕ) → v ≡ F (walk s from to) → from ≤ to → to ≤ length s
    → Tally v F s from to 0 from
tally-start = tally-by-start field-reads

module _ {next : Reader} (v : ℕ) (F : Walk → ℕ) (s : List ℕ) (from to n i : ℕ) (k : TallyBy next v F s from to n i) where
  pub tally-few : n ≤ to - from
  tally-few = omega (arith, k.few, k.left.within)

  pub tally-end : to ≤ i → F done ≡ 0 → n ≡ v
  tally-end h z = sym (rest_end v (counted F n) s to i k.left h ∙ rw z (add-zero n))

  module _ (h : i < to) (r : Option Field) (q : r ≡ next s i to) where
    pub tally-cut : r ≡ None → F cut ≡ 0 → n ≡ v
    tally-cut g z = sym (rest-cut v (counted F n) s to i k.left h r q g ∙ rw z (add-zero n))

    module _ (f : Field) (g : r ≡ Some f) (u : ℕ) where
      pub tally-fits : u ≤ f.to - f.from + 1 → Fits w64 to → Fits w64 (n + u)
      tally-fits b =
          let x = reads-ahead k.left.reads s i to r q f g in
          Fits-le (omega (arith, k.few, x.starts, x.ordered, x.inside))

      -- the field counts for u
      pub tally-more : F (step f.tag f.from f.to (walk_by next s f.to to)) ≡ u + F (walk_by next s f.to to) → u ≤ f.to - f.from + 1
          → TallyBy next v F s from to (n + u) f.to
      tally-more p b =
          let x = reads-ahead k.left.reads s i to r q f g in
          let same = sym (add_assoc n u (F (walk_by next s f.to to))) in
          record {
            left = rest-next v (counted F n) s to i k.left h r q f g (counted F (n + u)) (rw p same);
            few = omega (arith, k.few, x.starts, x.ordered);
          }

-- ---- where each field counts for what f gives of it
abbrev pub total : (f : (tag from to : ℕ) → ℕ) → Walk → ℕ
total f done = 0
total f cut = 0
total f (step t a e w) = f t a e + total f w

pub tally-next : {next : Reader} (v : ℕ) (f : ℕ → ℕ → ℕ → ℕ) (s : List ℕ) (from to n i : ℕ) → TallyBy next v (total f) s from to n i
    → i < to → (r : Option Field) → r ≡ next s i to → (here : Field) → r ≡ Some here
    → (u : ℕ) → u ≡ f here.tag here.from here.to → u ≤ here.to - here.from + 1 → TallyBy next v (total f) s from to (n + u) here.to
tally-next v f s from to n i k h r q here g u p b = tally-more v (total f) s from to n i k h r q here g u (rw p) b

pub ruleset tally_loop = (tally-few, tally-end, tally-cut, tally-fits, tally-next)

pub ruleset tally_laws = (tally_loop, field_place_laws)
