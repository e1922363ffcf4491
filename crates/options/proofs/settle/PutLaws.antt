-- The writers of an option: its constant on the last part, a message that parts go inside, and the step over the parts.
-- Assumes nothing.
use Rattle.std.specs.Prelude.{◌≡◌, refl, List, ℕ, ◌+◌, ◌-◌, ◌*◌, ◌<◌, Err, None, Some, Ok, Option, Result}
use Rattle.basis.specs.Kit.{sym, ap, ◌∙◌}
use Rattle.basis.proofs.Kit.{arith}
use mathlib.Core.Path.{subst}
use Rattle.basis.proofs.Never.{never}
use Rattle.limits.specs.Figures.{most_constants}
use Rattle.reply.specs.declared.Refusal.{Refusal}
use Rattle.field.specs.Field.{field_at}
use Rattle.field.specs.Leaf.{text}
use Rattle.field.proofs.FieldLaws.{field-bounds, field-ordered, field-within}
use Rattle.sheet.specs.declared.declaration.Shape.{Shape}
use Rattle.scope.specs.declared.lookup.LookupScope.{LookupScope}
use Rattle.request.specs.Request.{constant_of_field}
use Rattle.records.specs.Records.{nil}
use Rattle.records.specs.Made.{Made, made, holding}
use Rattle.records.specs.inner.Emits.{bytes_most, wrote_of, Emits, Roomy}
use Rattle.records.proofs.EmitsLaws.{Tells, wrote-tells, emits-next, emits-refused, refuses, emits-laid, writes-none, emits-more}
use Rattle.records.proofs.InsideLaws.{inside_laws}
use Rattle.lookups.specs.Lookups.{Lookups}
use Rattle.values.specs.Values.{on, records}
use Rattle.values.specs.inner.Writers.{value_made}
use Rattle.faults.specs.declared.Fault.{Fault}
use Rattle.steps.specs.declared.Reach.{Reach}
use Rattle.steps.specs.declared.Reach.TheVariants.{Constant, Inside, Nothing}
use Rattle.steps.specs.inner.Reached.{message, reach_of, Led}
use Rattle.options.specs.Named.{at as at_part}
use Rattle.faults.specs.Faults.{fault_at}
use Rattle.faults.specs.inner.Answering.{stepped_by}
use Rattle.options.specs.inner.Written.{stepped_of, constant_made, option_made}
use Rattle.options.proofs.settle.LedPlaces.{led_places}
use Rattle.options.proofs.settle.OptionLaws.{option-of}
use Rattle.field.specs.declared.Field.{Field}

pub stepped-tells : Tells stepped_of Ok Err
unfolding stepped_of
stepped-tells = record {
  makes = λ at x. refl;
  stops = λ at w. refl;
  next-inv = λ m n e. cc;
  stop-inv = λ v w e. cc;
  apart = λ n w e. never cc;
}

-- ---- put_constant
pub constant-room : (r : List ℕ) (from to : ℕ) (f : Option Field) → f ≡ field_at r from to → (here : Field) → f ≡ Some here → (at : ℕ)
    → Roomy at (to - from) r → Roomy at (3 + (here.to - here.from)) r
constant-room r from to f q here g at o =
    let b = field-bounds r from to f q here g in
    record { room = omega (arith, o.room, b.starts, b.ordered, b.inside) }

module _ (L : Lookups) (s r : List ℕ) (h : Shape) (from to : ℕ) (f : Option Field) (q : f ≡ field_at r from to) where
  constant-field : constant_made L s r h from to ≡ records L s r (on h) (constant_of_field r f)
  unfolding constant_made
  constant-field = ap (λ (y : Option Field). records L s r (on h) (constant_of_field r y)) (sym q)

  pub constant-cut : f ≡ None → (i k : ℕ) (l : List ℕ) (at : ℕ)
      → Emits stepped_of (at_part i (constant_made L s r h from to)) k l at l (Ok at)
  constant-cut g i k l at =
      let e : constant_made L s r h from to ≡ made nil = constant-field ∙ ap (λ (y : Option Field). records L s r (on h) (constant_of_field r y)) g in
      writes-none stepped-tells (ap (at_part i) e) refl

  module _ (here : Field) (g : f ≡ Some here) where
    constant-value : constant_made L s r h from to ≡ value_made L s r h most_constants here.tag here.from here.to
    unfolding value_made
    constant-value = constant-field ∙ ap (λ (y : Option Field). records L s r (on h) (constant_of_field r y)) g

    module _ (l : List ℕ) (at : ℕ) (l' : List ℕ) (y : Result ℕ Refusal)
        (u : Emits wrote_of (value_made L s r h most_constants here.tag here.from here.to) (bytes_most (3 + (here.to - here.from))) l at l' y) where
      constant-next : (n : ℕ) → y ≡ Ok n → (i : ℕ)
          → Emits stepped_of (at_part i (constant_made L s r h from to)) (bytes_most (to - from)) l at l' (Ok n)
      constant-next n z i =
          let x = emits-next wrote-tells (value_made L s r h most_constants here.tag here.from here.to) n u z in
          let b = field-bounds r from to f q here g in
          emits-laid stepped-tells x.recs n x.laid (ap (at_part i) (constant-value ∙ x.is))
          (omega (arith, x.few, b.starts, b.ordered, b.inside)) refl

      constant-refused : (w : Refusal) → y ≡ Err w → (i : ℕ)
          → Emits stepped_of (at_part i (constant_made L s r h from to)) (bytes_most (to - from)) l at l' (Err (fault_at i w))
      constant-refused w z i =
          refuses stepped-tells (fault_at i w)
          (ap (at_part i) (constant-value ∙ emits-refused wrote-tells (value_made L s r h most_constants here.tag here.from here.to) w u z)) refl

      pub constant-last : (i : ℕ) (z : Result ℕ Fault) → z ≡ stepped_by i y
          → Emits stepped_of (at_part i (constant_made L s r h from to)) (bytes_most (to - from)) l at l' z
      constant-last i z o = rw o (go y refl)
        where
          go : (x : Result ℕ Refusal) → y ≡ x
              → Emits stepped_of (at_part i (constant_made L s r h from to)) (bytes_most (to - from)) l at l' (stepped_by i x)
          go (Ok n) k = constant-next n k i
          go (Err w) k = constant-refused w k i

pub ruleset constant_laws = (constant-cut, constant-room, constant-last, field-ordered, field-within)

-- ---- put_inside
pub inside-falls : (from to n : ℕ) → 2 * (to - from) + 1 ≡ n → 2 * (to - from) < n
inside-falls from to n e = omega arith

pub ruleset put_inside_laws = (inside_laws, stepped-tells, inside-falls)

-- ---- put_option
module _ (L : Lookups) (s r scope n : List ℕ) (c : LookupScope) (from to : ℕ) (v : Result Reach Refusal)
    (q : v ≡ reach_of L s r scope (message n c) from to) where
  pub option-fails : (w : Refusal) → v ≡ Err w → (i k : ℕ) (l : List ℕ) (at : ℕ)
      → Emits stepped_of (option_made L s r scope i (message n c) from to) k l at l (Err (fault_at i w))
  option-fails w g i k l at =
      refuses stepped-tells (fault_at i w) (option-of L s r scope i (message n c) from to (Err w) (sym g ∙ q)) refl

  pub option-nothing : v ≡ Ok Nothing → (i k : ℕ) (l : List ℕ) (at : ℕ)
      → Emits stepped_of (option_made L s r scope i (message n c) from to) k l at l (Ok at)
  option-nothing g i k l at =
      writes-none stepped-tells (option-of L s r scope i (message n c) from to (Ok Nothing) (sym g ∙ q)) refl

  module _ (j : Led s r from to v) (h : Shape) (x : ℕ) (i : ℕ) (l : List ℕ) (at : ℕ) (l' : List ℕ) (y : Result ℕ Fault) where
    pub option-constant : v ≡ Ok (Constant h x)
        → Emits stepped_of (at_part i (constant_made L s r h x to)) (bytes_most (to - x)) l at l' y
        → Emits stepped_of (option_made L s r scope i (message n c) from to) (bytes_most (to - from)) l at l' y
    option-constant g u =
        let b = j.constant h x g in
        subst (λ (m : Made Fault). Emits stepped_of m (bytes_most (to - from)) l at l' y)
        (sym (option-of L s r scope i (message n c) from to (Ok (Constant h x)) (sym g ∙ q)))
        (emits-more (bytes_most (to - x)) u (omega (arith, b.further, b.within)))

    pub option_inside : (p : LookupScope) → v ≡ Ok (Inside h p x)
        → Emits stepped_of (holding h.number (option_made L s r scope (i + 1) (message (text s h.path) p) x to)) (bytes_most (3 + (to - x))) l at l' y
        → Emits stepped_of (option_made L s r scope i (message n c) from to) (bytes_most (to - from)) l at l' y
    option_inside p g u =
        let b = (j.inside h p x g).behind in
        subst (λ (m : Made Fault). Emits stepped_of m (bytes_most (to - from)) l at l' y)
        (sym (option-of L s r scope i (message n c) from to (Ok (Inside h p x)) (sym g ∙ q)))
        (emits-more (bytes_most (3 + (to - x))) u (omega (arith, b.further, b.within)))

pub ruleset put_option_laws = (option-fails, option-nothing, option-constant, option_inside, led_places)
