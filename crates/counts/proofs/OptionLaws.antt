-- The laws of counting parts and options: the loops of `count_parts_at`, `count_options` and `count_parts`.
-- Assumes nothing.
use Rattle.std.specs.Prelude.{◌≡◌, refl, List, [], ◌∷◌, ℕ, ◌+◌, ◌-◌, ◌≤◌, ◌<◌, length, None, Some, Option}
use Rattle.basis.specs.Kit.{sym, ap, ◌∙◌}
use Rattle.basis.proofs.Kit.{arith, eq-eqb, ne_eqb, w64, Fits}
use native.Mathlib.Nat.{zero-add, add-zero}
use Rattle.field.specs.Field.{field_at}
use Rattle.field.specs.Walk.{Walk, step, walk}
use Rattle.field.proofs.FieldLaws.{field-ordered, field-within, field-less}
use Rattle.field.proofs.Tally.{Tally, counted, tally-start, tally-few, tally-end, tally-cut, tally-fits, tally-more}
use Rattle.request.specs.declared.name.Part.{Part}
use Rattle.request.specs.declared.heading.Heading.{Heading}
use Rattle.request.specs.Table.{option_tag}
use Rattle.request.specs.Name.{part_at, parts_in}
use Rattle.request.specs.Request.{heading_of, request_of, option_of, option_in, options_in}
use Rattle.request.proofs.PartLaws.{part-bounds, part-less, rest-no-part, rest-part-next}
use Rattle.request.proofs.RequestLaws.{options-inside}
use Rattle.counts.specs.Options.{parts_of}
use Rattle.field.specs.declared.Field.{Field}

-- ---- the loop of `count_parts_at`
abbrev pub part_count : Walk → ℕ
part_count w = length (parts_in w)

module _ (v : ℕ) (s : List ℕ) (from to n at : ℕ) (k : Tally v part_count s from to n at) (h : at < to)
    (r : Option Part) (q : r ≡ part_at s at to) where
  pub parts-stop : r ≡ None → n ≡ v
  parts-stop g =
      let none = add-zero n in
      sym (rest-no-part v (counted part_count n) s to at k.left r q n none none (λ t a e w x. rw x (add-zero n)) g)

  pub parts_next : (p : Part) → r ≡ Some p → Tally v part_count s from to (n + 1) p.name.to
  parts_next p g =
      let b = part-bounds s at to r q p g in
      record {
        left = rest-part-next v (counted part_count n) s to at k.left r q p g (counted part_count (n + 1)) (λ t x. rw x (omega arith));
        few = omega (arith, k.few, b.starts, b.ordered);
      }

pub ruleset parts_laws = (tally-start, tally-end, tally-few, parts-stop, parts_next, part-less)

-- ---- the loops over options, from the heading on
abbrev pub option_count : List ℕ → Walk → ℕ
option_count s w = length (options_in s w)

abbrev pub name_count : List ℕ → Walk → ℕ
name_count s w = parts_of (options_in s w)

module _ (s : List ℕ) (r : Option Heading) (q : r ≡ heading_of s) where
  request-none : r ≡ None → (request_of s).options ≡ []
  unfolding request_of
  request-none g = rw (← q, g)

  pub no-options : r ≡ None → 0 ≡ length (request_of s).options
  no-options g = rw (request-none g)

  pub no_names : r ≡ None → 0 ≡ parts_of (request_of s).options
  no_names g = rw (request-none g)

  module _ (h : Heading) (g : r ≡ Some h) where
    request-options : (request_of s).options ≡ options_in s (walk s h.options (length s))
    unfolding request_of
    request-options = rw (← q, g)

    start : (f : Walk → ℕ) → Tally (f (walk s h.options (length s))) f s h.options (length s) 0 h.options
    start f = tally-start (f (walk s h.options (length s))) f s h.options (length s) refl (options-inside s r q h g) (omega arith)

    pub options-start : Tally (length (request_of s).options) (option_count s) s h.options (length s) 0 h.options
    options-start = rw request-options (start (option_count s))

    pub names-start : Tally (parts_of (request_of s).options) (name_count s) s h.options (length s) 0 h.options
    names-start = rw request-options (start (name_count s))

module _ (s : List ℕ) (t a e : ℕ) (w : Walk) where
  option-other : (t ≡ option_tag → ⊥) → options_in s (step t a e w) ≡ options_in s w
  unfolding option_in
  option-other n = simp (option_in, ne_eqb t option_tag n)

  option-first : t ≡ option_tag → options_in s (step t a e w) ≡ option_of s a e ∷ options_in s w
  unfolding option_in
  option-first n = simp (option_in, eq-eqb t option_tag n)

-- a field that counts for nothing
none_more : (v : ℕ) (F : Walk → ℕ) (s : List ℕ) (from to n at : ℕ) → at < to → (r : Option Field) → r ≡ field_at s at to
    → (f : Field) → r ≡ Some f → Tally v F s from to n at → F (step f.tag f.from f.to (walk s f.to to)) ≡ F (walk s f.to to) → Tally v F s from to n f.to
none_more v F s from to n at h r q f g k p =
    rw (add-zero n) at (tally-more v F s from to n at k h r q f g 0 (p ∙ sym (zero-add (F (walk s f.to to)))) (omega arith))

module _ (v : ℕ) (s : List ℕ) (from to n at : ℕ) (h : at < to) (r : Option Field) (q : r ≡ field_at s at to) (f : Field) (g : r ≡ Some f) where
  module _ (k : Tally v (option_count s) s from to n at) where
    pub options-other : (f.tag ≡ option_tag → ⊥) → Tally v (option_count s) s from to n f.to
    options-other x = none_more v (option_count s) s from to n at h r q f g k (ap length (option-other s f.tag f.from f.to (walk s f.to to) x))

    pub options-next : f.tag ≡ option_tag → Tally v (option_count s) s from to (n + 1) f.to
    options-next x =
        tally-more v (option_count s) s from to n at k h r q f g 1
        (ap length (option-first s f.tag f.from f.to (walk s f.to to) x) ∙ omega arith) (omega arith)

  module _ (k : Tally v (name_count s) s from to n at) where
    pub names-other : (f.tag ≡ option_tag → ⊥) → Tally v (name_count s) s from to n f.to
    names-other x = none_more v (name_count s) s from to n at h r q f g k (ap parts_of (option-other s f.tag f.from f.to (walk s f.to to) x))

    module _ (m : ℕ) (l : m ≤ f.to - f.from) where
      pub names-next : f.tag ≡ option_tag → m ≡ part_count (walk s f.from f.to) → Tally v (name_count s) s from to (n + m) f.to
      unfolding option_of
      names-next x p =
          tally-more v (name_count s) s from to n at k h r q f g m
          (ap parts_of (option-first s f.tag f.from f.to (walk s f.to to) x) ∙ ap (λ (y : ℕ). y + name_count s (walk s f.to to)) (sym p)) (omega arith)

      pub names-fits : Fits w64 to → Fits w64 (n + m)
      names-fits = tally-fits v (name_count s) s from to n at k h r q f g m (omega arith)

pub ruleset options_laws = (no-options, options-start, tally-end, tally-cut, options-other, options-next, field-less)

pub ruleset names_laws =
    (no_names, names-start, tally-end, tally-cut, names-other, names-next, names-fits, field-ordered, field-within, field-less)
