-- Loops over fields by `for`: the laws of `Rest`, `Seek` and `Tally`, of the walk that a `Fields` is.
--
--                 Over it s to <-> the walk `it` goes over the fields of s up to `to`
--                RestIn v F s to it <-> v is what F gives of the fields that are left of `it`
--   SeekingIn none or f s from to it <-> the fields that are left of `it` have the first answer of all that stand from the place `from` on
--        TallyIn v F s from to n it <-> n and what F counts of the fields that are left of `it` make up v, and n is at most the bytes before
--
-- The laws, of one step `x : Goes it it' o`:
--   over-before, over-read  the walk isn't at its end, and o is the field that stands there
--   over-ordered, over-within  where a whole field w stands, its payload lies in the bytes
--   the others are the laws of these names in `Rest`, `Seek` and `Tally`
-- Assumes nothing.
use Rattle.std.specs.Prelude.{◌≡◌, List, ℕ, ◌+◌, ◌-◌, ◌≤◌, ◌<◌, length, Option, Some, None}
use Rattle.basis.specs.Kit.{◌∙◌}
use Rattle.basis.proofs.Kit.{w64, Fits}
use Rattle.field.specs.declared.Field.{Field}
use Rattle.field.specs.declared.fields.Fields.{Fields}
use Rattle.field.specs.Field.{field_at}
use Rattle.field.specs.Fields.{Goes}
use Rattle.field.specs.Walk.{Walk, done, cut, step, walk}
use Rattle.field.proofs.FieldLaws.{field-ordered, field-within}
use Rattle.field.proofs.Rest.{Rest, rest-start, rest_end, rest-cut, rest-step, rest-next}
use Rattle.field.proofs.Seek.{seek, Seeking, seek-start, seek-end, seek-cut, seek_hit, seek-next}
use Rattle.field.proofs.Tally.{Tally, total, tally-start, tally-few, tally-end, tally-cut, tally-fits, tally-next}

pub record Over (it : Fields) (s : List ℕ) (to : ℕ) : Type 0 where
  pub bytes : it.bytes.now ≡ s
  pub end : it.end ≡ to

module _ {s : List ℕ} {to : ℕ} {it : Fields} (k : Over it s to) (it' : Fields) (o : Option Field) (x : Goes it it' o) where
  pub over-before : it.at < to
  over-before = rw (← k.end) x.before

  pub over-read : o ≡ field_at s it.at to
  over-read = rw (← k.bytes, ← k.end) x.is

  pub over-next : Over it' s to
  over-next = record { bytes = x.bytes ∙ k.bytes; end = x.end ∙ k.end }

  module _ (w : Field) (g : o ≡ Some w) where
    pub over-at : it'.at ≡ w.to
    over-at = rw g at x.at

    pub over-ordered : w.from ≤ w.to
    over-ordered = field-ordered s it.at to o over-read w g

    pub over-within : to ≤ length s → w.to ≤ length s
    over-within h = field-within s it.at to o over-read w g h

pub over-start : (it : Fields) (s : List ℕ) (to : ℕ) → it.bytes.now ≡ s → it.end ≡ to → Over it s to
over-start it s to b e = record { bytes = b; end = e }

pub ruleset over_laws = (over-start, over-ordered, over-within)

pub ruleset over_all = (over-next, over_laws)

-- ---- what is left
pub record RestIn {A : Type 0} (v : A) (F : Walk → A) (s : List ℕ) (to : ℕ) (it : Fields) : Type 0 where
  pub over : Over it s to
  pub left : Rest v F s to it.at

pub rest-in-start : {A : Type 0} (v : A) (F : Walk → A) (s : List ℕ) (from to : ℕ) (it : Fields) → v ≡ F (walk s from to)
    → it.bytes.now ≡ s → it.at ≡ from → it.end ≡ to → from ≤ to → to ≤ length s → RestIn v F s to it
rest-in-start v F s from to it p b a e h k = record { over = record { bytes = b; end = e }; left = rw (a, p) (rest-start F s from to h k) }

module _ {A : Type 0} (v : A) (F : Walk → A) (s : List ℕ) (to : ℕ) (it : Fields) (k : RestIn v F s to it) where
  pub rest-in-end : it.end ≤ it.at → v ≡ F done
  rest-in-end h = rest_end v F s to it.at k.left (rw (← k.over.end) h)

  module _ (it' : Fields) (o : Option Field) (x : Goes it it' o) where
    pub rest-in-cut : o ≡ None → v ≡ F cut
    rest-in-cut g = rest-cut v F s to it.at k.left (over-before k.over it' o x) o (over-read k.over it' o x) g

    module _ (w : Field) (g : o ≡ Some w) where
      pub rest-in-step : v ≡ F (step w.tag w.from w.to (walk s w.to to))
      rest-in-step = rest-step v F s to it.at k.left (over-before k.over it' o x) o (over-read k.over it' o x) w g

      pub rest-in-next : (G : Walk → A) → F (step w.tag w.from w.to (walk s w.to to)) ≡ G (walk s w.to to) → RestIn v G s to it'
      rest-in-next G p = record {
        over = over-next k.over it' o x;
        left = rw (over-at k.over it' o x w g)
            (rest-next v F s to it.at k.left (over-before k.over it' o x) o (over-read k.over it' o x) w g G p);
      }

-- ---- the first that answers
pub record SeekingIn {A : Type 0} (none : A) (or : A → A → A) (f : (tag from to : ℕ) → A) (s : List ℕ) (from to : ℕ) (it : Fields) : Type 0 where
  pub over : Over it s to
  pub left : Seeking none or f s from to it.at

pub sought-start : {A : Type 0} (none : A) (or : A → A → A) (f : ℕ → ℕ → ℕ → A) (s : List ℕ) (from to : ℕ) (it : Fields)
    → it.bytes.now ≡ s → it.at ≡ from → it.end ≡ to → from ≤ to → to ≤ length s → SeekingIn none or f s from to it
sought-start none or f s from to it b a e h k =
    record { over = record { bytes = b; end = e }; left = rw a (seek-start none or f s from to h k) }

module _ {A : Type 0} {none : A} {or : A → A → A} {f : ℕ → ℕ → ℕ → A} {s : List ℕ} {from to : ℕ} {it : Fields}
    (k : SeekingIn none or f s from to it) where
  pub sought-end : it.end ≤ it.at → none ≡ seek none or f (walk s from to)
  sought-end h = seek-end k.left (rw (← k.over.end) h)

  module _ (it' : Fields) (o : Option Field) (x : Goes it it' o) where
    pub sought-cut : o ≡ None → none ≡ seek none or f (walk s from to)
    sought-cut g = seek-cut k.left (over-before k.over it' o x) o (over-read k.over it' o x) g

    module _ (w : Field) (g : o ≡ Some w) where
      pub sought-ordered : w.from ≤ w.to
      sought-ordered = over-ordered k.over it' o x w g

      pub sought-within : to ≤ length s → w.to ≤ length s
      sought-within h = over-within k.over it' o x w g h

      module _ (u : A) (p : u ≡ f w.tag w.from w.to) where
        pub sought-hit : (v : A) → u ≡ v → ((y : A) → or v y ≡ v) → v ≡ seek none or f (walk s from to)
        sought-hit v y l = seek_hit k.left (over-before k.over it' o x) o (over-read k.over it' o x) w g u p v y l

        pub sought-next : u ≡ none → ((y : A) → or none y ≡ y) → SeekingIn none or f s from to it'
        sought-next y l = record {
          over = over-next k.over it' o x;
          left = rw (over-at k.over it' o x w g)
              (seek-next k.left (over-before k.over it' o x) o (over-read k.over it' o x) w g u p y l);
        }

pub ruleset sought_laws = (sought-start, sought-end, sought-cut, sought-ordered, sought-within, sought-hit, sought-next)

-- ---- counts
pub record TallyIn (v : ℕ) (F : Walk → ℕ) (s : List ℕ) (from to n : ℕ) (it : Fields) : Type 0 where
  pub over : Over it s to
  pub left : Tally v F s from to n it.at

pub tally-in-start : (v : ℕ) (F : Walk → ℕ) (s : List ℕ) (from to : ℕ) (it : Fields) → v ≡ F (walk s from to)
    → it.bytes.now ≡ s → it.at ≡ from → it.end ≡ to → from ≤ to → to ≤ length s → TallyIn v F s from to 0 it
tally-in-start v F s from to it p b a e h k =
    record { over = record { bytes = b; end = e }; left = rw a (tally-start v F s from to p h k) }

module _ (v : ℕ) (F : Walk → ℕ) (s : List ℕ) (from to n : ℕ) (it : Fields) (k : TallyIn v F s from to n it) where
  pub tally-in-few : n ≤ to - from
  tally-in-few = tally-few v F s from to n it.at k.left

  pub tally-in-end : it.end ≤ it.at → F done ≡ 0 → n ≡ v
  tally-in-end h z = tally-end v F s from to n it.at k.left (rw (← k.over.end) h) z

  module _ (it' : Fields) (o : Option Field) (x : Goes it it' o) where
    pub tally-in-cut : o ≡ None → F cut ≡ 0 → n ≡ v
    tally-in-cut g z = tally-cut v F s from to n it.at k.left (over-before k.over it' o x) o (over-read k.over it' o x) g z

    pub tally-in-ordered : (w : Field) → o ≡ Some w → w.from ≤ w.to
    tally-in-ordered w g = over-ordered k.over it' o x w g

    pub tally-in-within : (w : Field) → o ≡ Some w → to ≤ length s → w.to ≤ length s
    tally-in-within w g h = over-within k.over it' o x w g h

    pub tally-in-fits : (w : Field) → o ≡ Some w → (u : ℕ) → u ≤ w.to - w.from + 1 → Fits w64 to → Fits w64 (n + u)
    tally-in-fits w g u b h =
        tally-fits v F s from to n it.at k.left (over-before k.over it' o x) o (over-read k.over it' o x) w g u b h

pub tally-in-next : (v : ℕ) (f : ℕ → ℕ → ℕ → ℕ) (s : List ℕ) (from to n : ℕ) (it : Fields) → TallyIn v (total f) s from to n it
    → (it' : Fields) (o : Option Field) → Goes it it' o → (w : Field) → o ≡ Some w
    → (u : ℕ) → u ≡ f w.tag w.from w.to → u ≤ w.to - w.from + 1 → TallyIn v (total f) s from to (n + u) it'
tally-in-next v f s from to n it k it' o x w g u p b = record {
  over = over-next k.over it' o x;
  left = rw (over-at k.over it' o x w g)
      (tally-next v f s from to n it.at k.left (over-before k.over it' o x) o (over-read k.over it' o x) w g u p b);
}

pub ruleset tally_in_laws = (tally-in-few, tally-in-end, tally-in-cut, tally-in-ordered, tally-in-within, tally-in-fits, tally-in-next)
