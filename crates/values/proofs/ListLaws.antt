-- The elements of a list, each on one field: the ways through `put_list`.
-- Assumes nothing.
use Rattle.std.specs.Prelude.{◌≡◌, List, ℕ, ◌+◌, ◌-◌, ◌*◌, ◌≤◌, ◌<◌, length, Err, None, Some, Ok, Option, Result}
use Rattle.basis.specs.Kit.{ap, ◌∙◌}
use Rattle.basis.proofs.Kit.{arith}
use Rattle.reply.specs.declared.Refusal.{Refusal}
use Rattle.field.specs.Walk.{Walk, step, walk}
use Rattle.field.specs.declared.fields.Fields.{Fields}
use Rattle.field.specs.Fields.{Goes}
use Rattle.field.proofs.FieldLaws.{field-bounds, field-inside}
use Rattle.field.proofs.InFields.{over-start, over-before, over-read, over-next, over-at, over-ordered, over-within}
use Rattle.field.proofs.Rest.{rest_end, rest-cut, rest-step}
use Rattle.sheet.specs.declared.declaration.Shape.{Shape}
use Rattle.request.specs.Tree.{unnamed, elements_in, constant_in}
use Rattle.records.specs.Made.{Made, after, both}
use Rattle.records.specs.inner.Emits.{bytes_most, wrote_of, Emits, Roomy}
use Rattle.lookups.specs.Lookups.{Lookups}
use Rattle.values.specs.Values.{on, records}
use Rattle.values.specs.inner.Writers.{value_made, list_made}
use Rattle.values.proofs.FrontLaws.{FrontIn, front-start, front_length, front-whole, front-room, front_less}
use Rattle.values.proofs.FrontLaws.{front-refused, front-next}
use Rattle.values.proofs.ValueLaws.{constant-first}
use Rattle.field.specs.declared.Field.{Field}

abbrev pub list_of : Lookups → (s r : List ℕ) → Shape → (left : ℕ) → Walk → Made Refusal
list_of L s r h d w = records L s r (on h) (elements_in (constant_in d r) w)

module _ (L : Lookups) (s r : List ℕ) (h : Shape) (d from to : ℕ) where
  elements-step : (t a e : ℕ) (w : Walk) → list_of L s r h d (step t a e w) ≡ both (value_made L s r h d t a e) (list_of L s r h d w)
  unfolding value_made
  elements-step t a e w = constant-first L s r (on h) unnamed (elements_in (constant_in d r) w) d t a e

  abbrev made : Made Refusal
  made = list_made L s r h d from to

  abbrev each : Walk → Made Refusal
  each = list_of L s r h d

  pub list-start : (it : Fields) → it.bytes.now ≡ r → it.at ≡ from → it.end ≡ to → from ≤ to → to ≤ length r → (l : List ℕ) (at : ℕ)
      → FrontIn made each r from to it l l at at
  unfolding list_made
  list-start it b a e j k l at = record { over = over-start it r to b e; front = rw a (front-start each r from to j k l at) }

  module _ (v : Made Refusal) (it : Fields) (l m : List ℕ) (at p : ℕ) (k : FrontIn v each r from to it l m at p) where
    pub list-length : length m ≡ length l
    list-length = front_length v each r from to it.at l m at p k.front

    pub list-after : (m' : List ℕ) → length m' ≡ length m → length m' ≡ length l
    list-after m' e = e ∙ list-length

    pub list-end : it.end ≤ it.at → Emits wrote_of v (bytes_most (to - from)) l at m (Ok p)
    list-end j =
        front-whole v each r from to it.at l m at p k.front
        (rest_end v (λ w. after k.front.front (each w)) r to it.at k.front.rest (rw (← k.over.end) j))

    module _ (it' : Fields) (x : Option Field) (y : Goes it it' x) where
      pub list-cut : x ≡ None → Emits wrote_of v (bytes_most (to - from)) l at m (Ok p)
      list-cut g =
          front-whole v each r from to it.at l m at p k.front
          (rest-cut v (λ w. after k.front.front (each w)) r to it.at k.front.rest (over-before k.over it' x y) x (over-read k.over it' x y) g)

      module _ (f : Field) (g : x ≡ Some f) where
        pub list-ordered : f.from ≤ f.to
        list-ordered = over-ordered k.over it' x y f g

        pub list-within : to ≤ length r → f.to ≤ length r
        list-within = over-within k.over it' x y f g

        element-size : it.at + 3 + (f.to - f.from) ≤ f.to
        element-size = let b = field-bounds r it.at to x (over-read k.over it' x y) f g in omega (arith, b.starts, b.ordered)

        element-inside : f.to ≤ to
        element-inside = field-inside r it.at to x (over-read k.over it' x y) f g

        pub list-room : Roomy at (to - from) r → Roomy p (3 + (f.to - f.from)) r
        list-room = front-room v each r from to it.at l m at p k.front (f.to - f.from) f.to element-size element-inside

        pub list-falls : (n : ℕ) → 4 * (to - from) + 2 ≡ n → 4 * (f.to - f.from) + 3 < n
        list-falls n o =
            let b = front_less v each r from to it.at l m at p k.front (f.to - f.from) f.to element-size element-inside in
            omega arith

        module _ (m' : List ℕ) (z : Result ℕ Refusal)
            (u : Emits wrote_of (value_made L s r h d f.tag f.from f.to) (bytes_most (3 + (f.to - f.from))) m p m' z) where
          list-first : v ≡ after k.front.front (both (value_made L s r h d f.tag f.from f.to) (each (walk r f.to to)))
          list-first =
              rest-step v (λ w. after k.front.front (each w)) r to it.at k.front.rest (over-before k.over it' x y) x (over-read k.over it' x y) f g
              ∙ ap (after k.front.front) (elements-step f.tag f.from f.to (walk r f.to to))

          pub list-refused : (w : Refusal) → z ≡ Err w → Emits wrote_of v (bytes_most (to - from)) l at m' (Err w)
          list-refused =
              front-refused v each r from to it.at l m at p k.front (f.to - f.from) f.to element-size element-inside
              (value_made L s r h d f.tag f.from f.to) m' z u list-first

          pub list-next : (n : ℕ) → z ≡ Ok n → FrontIn v each r from to it' l m' at n
          list-next n e = record {
            over = over-next k.over it' x y;
            front = rw (over-at k.over it' x y f g)
                (front-next v each r from to it.at l m at p k.front (f.to - f.from) f.to element-size element-inside
                (value_made L s r h d f.tag f.from f.to) m' z u list-first n e);
          }

pub ruleset list_laws = (
  list-start,
  list-length,
  list-after,
  list-end,
  list-cut,
  list-ordered,
  list-within,
  list-room,
  list-falls,
  list-refused,
  list-next,
)
