-- A loop over sibling fields, whatever the reader, that looks for the first of them that answers something: what f answers of each, and
-- `none` where that is nothing. `or` takes the first of two answers that is something.
--
--                       seek none or f w ==  the first answer of the fields w
--   SeekingBy next none or f s from to i <-> at the place i, the fields that are left have the first answer of all that `next` gives
--          Seeking none or f s from to i <-> so it is for the reader `field_at`
--
-- The laws:
--                     seek_is  what is said of a list of fields is what a loop finds there, if it is so field by field
--   seek-by-start, seek-start  at the first place all of them are left
--                    seek-end  at the end the answer is `none`
--                    seek-cut  so it is where no whole field stands
--                    seek_hit  what f answers of the field that stands there is the answer, where that is something
--                   seek-next  where it is nothing, the answer is that of the fields from its end on
-- `seek_loop` has those of the turns, for any reader; `seek_laws` all that a loop over the fields of `field_at` needs.
--
-- Assumes nothing.
use Rattle.std.specs.Prelude.{◌≡◌, List, ℕ, ◌≤◌, ◌<◌, length, None, Some, Option}
use Rattle.basis.specs.Kit.{sym, ap, ◌∙◌}
use Rattle.field.specs.Field.{field_at}
use Rattle.field.specs.Walk.{Reader, Walk, done, cut, step, walk_by}
use Rattle.field.proofs.ReaderLaws.{Reads}
use Rattle.field.proofs.FieldLaws.{field-reads, field_place_laws}
use Rattle.field.proofs.Rest.{RestBy, rest-by-start, rest_end, rest-cut, rest-step, rest-next}
use Rattle.field.specs.declared.Field.{Field}

abbrev pub seek : {A : Type 0} (none : A) (or : A → A → A) (f : (tag from to : ℕ) → A) → Walk → A
seek none or f done = none
seek none or f cut = none
seek none or f (step t a e w) = or (f t a e) (seek none or f w)

-- what is said of a list of fields is what a loop finds there, if it is so field by field
module _ {A : Type 0} (none : A) (or : A → A → A) (f : ℕ → ℕ → ℕ → A) (F : Walk → A) (at_done : F done ≡ none) (at_cut : F cut ≡ none)
    (at_step : (t a e : ℕ) (w : Walk) → F (step t a e w) ≡ or (f t a e) (F w)) where
  pub seek_is : (w : Walk) → F w ≡ seek none or f w
  seek_is done = at_done
  seek_is cut = at_cut
  seek_is (step t a e w) = at_step t a e w ∙ ap (or (f t a e)) (seek_is w)

-- ---- the loop
pub record SeekingBy {A : Type 0} (next : Reader) (none : A) (or : A → A → A) (f : (tag from to : ℕ) → A) (s : List ℕ)
    (from to i : ℕ) : Type 0 where
  pub left : RestBy next (seek none or f (walk_by next s from to)) (seek none or f) s to i

abbrev pub Seeking : {A : Type 0} (none : A) (or : A → A → A) (f : (tag from to : ℕ) → A) (s : List ℕ) (from to i : ℕ) → Type 0
Seeking none or f s from to i = SeekingBy field_at none or f s from to i

pub seek-by-start : {A : Type 0} {next : Reader} → Reads next → (none : A) (or : A → A → A) (f : ℕ → ℕ → ℕ → A) (s : List ℕ) (from to : ℕ)
    → from ≤ to → to ≤ length s → SeekingBy next none or f s from to from
seek-by-start p none or f s from to h k = record { left = rest-by-start p (seek none or f) s from to h k }

pub seek-start : {A : Type 0} (none : A) (or : A → A → A) (f : ℕ → ℕ → ℕ → A) (s : List ℕ) (from to : ℕ) → from ≤ to → to ≤ length s
    → Seeking none or f s from to from
seek-start = seek-by-start field-reads

-- `or` is by cases, so that what is asked of it holds by computation
module _ {A : Type 0} {next : Reader} {none : A} {or : A → A → A} {f : ℕ → ℕ → ℕ → A} {s : List ℕ} {from to i : ℕ}
    (k : SeekingBy next none or f s from to i) where
  pub seek-end : to ≤ i → none ≡ seek none or f (walk_by next s from to)
  seek-end h = sym (rest_end _ (seek none or f) s to i k.left h)

  module _ (h : i < to) (r : Option Field) (q : r ≡ next s i to) where
    pub seek-cut : r ≡ None → none ≡ seek none or f (walk_by next s from to)
    seek-cut g = sym (rest-cut _ (seek none or f) s to i k.left h r q g)

    module _ (here : Field) (g : r ≡ Some here) (u : A) (p : u ≡ f here.tag here.from here.to) where
      pub seek_hit : (x : A) → u ≡ x → ((y : A) → or x y ≡ x) → x ≡ seek none or f (walk_by next s from to)
      seek_hit x y l = sym (rest-step _ (seek none or f) s to i k.left h r q here g ∙ rw (← p, y) (l _))

      pub seek-next : u ≡ none → ((y : A) → or none y ≡ y) → SeekingBy next none or f s from to here.to
      seek-next y l = record { left = rest-next _ (seek none or f) s to i k.left h r q here g (seek none or f) (rw (← p, y) (l _)) }

pub ruleset seek_loop = (seek-end, seek-cut, seek_hit, seek-next)

pub ruleset seek_laws = (seek-start, seek_loop, field_place_laws)
