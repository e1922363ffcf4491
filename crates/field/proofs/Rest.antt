-- A loop over sibling fields, whatever the reader: the answer v is what F, a function of fields, gives of those that are left. F may change
-- from turn to turn.
--
--   RestBy next v F s to i <-> at the place i, v is what F gives of the fields that `next` gives from there up to `to`
--          Rest v F s to i <-> so it is for the reader `field_at`
--
-- The laws, for an answer v that is what F gives of what is left:
--   rest-by-start, rest-start  it is so before the first turn, at the place where the fields start
--                    rest_end  at the end v is what F gives of no field
--                    rest-cut  where no whole field stands, v is what F gives of a cut
--                   rest-step  where one stands, v is what F gives of it and of the fields from its end on
--                   rest-next  so v is what G gives of the fields from its end on, if F is G there
-- A search does not put `Rest` together from its parts: each loop states its own start, by `rest-start`.
--
-- Assumes nothing.
use Rattle.std.specs.Prelude.{◌≡◌, refl, List, ℕ, ◌≤◌, ◌<◌, length, None, Some, Option}
use Rattle.basis.specs.Kit.{ap, ◌∙◌}
use Rattle.field.specs.Field.{field_at}
use Rattle.field.specs.Walk.{Reader, Walk, done, cut, step, walk_by, walk}
use Rattle.field.proofs.ReaderLaws.{Reads, reads-inside}
use Rattle.field.proofs.FieldLaws.{field-reads}
use Rattle.field.proofs.WalkLaws.{walk-by-done, walk-by-cut, walk-by-step}
use Rattle.field.specs.declared.Field.{Field}

pub record RestBy {A : Type 0} (next : Reader) (v : A) (F : Walk → A) (s : List ℕ) (to i : ℕ) : Type 0 where
  pub reads : Reads next
  pub within : i ≤ to
  pub inside : to ≤ length s
  pub rest : v ≡ F (walk_by next s i to)

abbrev pub Rest : {A : Type 0} (v : A) (F : Walk → A) (s : List ℕ) (to i : ℕ) → Type 0
Rest v F s to i = RestBy field_at v F s to i

pub rest-by-start : {A : Type 0} {next : Reader} → Reads next → (F : Walk → A) (s : List ℕ) (from to : ℕ) → from ≤ to → to ≤ length s
    → RestBy next (F (walk_by next s from to)) F s to from
rest-by-start p F s from to h k = record { reads = p; within = h; inside = k; rest = refl }

pub rest-start : {A : Type 0} (F : Walk → A) (s : List ℕ) (from to : ℕ) → from ≤ to → to ≤ length s → Rest (F (walk s from to)) F s to from
rest-start = rest-by-start field-reads

module _ {A : Type 0} {next : Reader} (v : A) (F : Walk → A) (s : List ℕ) (to i : ℕ) (k : RestBy next v F s to i) where
  pub rest_end : to ≤ i → v ≡ F done
  rest_end h = k.rest ∙ ap F (walk-by-done k.reads s i to h)

  module _ (h : i < to) (r : Option Field) (q : r ≡ next s i to) where
    pub rest-cut : r ≡ None → v ≡ F cut
    rest-cut g = k.rest ∙ ap F (walk-by-cut k.reads s i to h r q g)

    module _ (f : Field) (g : r ≡ Some f) where
      pub rest-step : v ≡ F (step f.tag f.from f.to (walk_by next s f.to to))
      rest-step = k.rest ∙ ap F (walk-by-step k.reads s i to h r q f g)

      pub rest-next : (G : Walk → A) → F (step f.tag f.from f.to (walk_by next s f.to to)) ≡ G (walk_by next s f.to to) → RestBy next v G s to f.to
      rest-next G p =
          record { reads = k.reads; within = reads-inside k.reads s i to r q f g; inside = k.inside; rest = rest-step ∙ p }
