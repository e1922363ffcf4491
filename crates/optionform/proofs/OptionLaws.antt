-- Options and names: the ways through `check_parts`, `check_last` and `check_option`.
-- Assumes nothing.
use Rattle.std.specs.Prelude.{◌≡◌, refl, Bool, true, false, List, ℕ, zero, suc, ◌+◌, ◌-◌, ◌≤◌, ◌<◌, eqb, length, Err, None, Some, Ok, Option, Result}
use Rattle.basis.specs.Kit.{sym}
use Rattle.basis.proofs.Kit.{arith, eq-eqb, ne_eqb, lt-ltb, le-ltb, not-true, not-false}
use native.Mathlib.Decide.{dec_lt}
use Rattle.basis.proofs.Never.{never}
use Rattle.limits.specs.Figures.{most_options, most_parts, most_constants}
use Rattle.octets.specs.Octets.{part}
use Rattle.reply.specs.declared.Refusal.{Refusal}
use Rattle.reply.specs.declared.Refusal.TheVariants.{BadRequest, BeyondLimit}
use Rattle.reply.specs.Verdicts.{judged, Verdict, fine}
use Rattle.field.specs.Field.{field_at}
use Rattle.field.specs.Walk.{walk}
use Rattle.field.proofs.FieldLaws.{field-reads, field-ordered}
use Rattle.field.proofs.Rest.{Rest, rest-start, rest_end}
use Rattle.field.proofs.FieldLaws.{field-within}
use Rattle.request.specs.declared.name.Part.{Part}
use Rattle.request.specs.Table.{option_tag}
use Rattle.request.specs.Name.{part_at}
use Rattle.request.proofs.PartLaws.{rest-no-part, rest_part, rest-part-next, part-further, part_places}
use Rattle.constantform.specs.Leaves.{good_part}
use Rattle.reply.specs.Verdicts.{beyond}
use Rattle.constantform.specs.Form.{bad_request, judge_constant}
use Rattle.optionform.specs.Form.{next_part, parts_from, judge_last}
use Rattle.optionform.specs.Form.{after_name, judge_option}
use Rattle.field.specs.declared.Field.{Field}

-- ---- check_parts
pub parts-start : (s : List ℕ) (from to : ℕ) → from ≤ to → to ≤ length s
    → Rest (parts_from s 0 from (walk s from to)) (parts_from s 0 from) s to from
parts-start s from to h k = rest-start (parts_from s 0 from) s from to h k

module _ (v : Result ℕ Refusal) (s : List ℕ) (n to at : ℕ) (k : Rest v (parts_from s n at) s to at) where
  pub parts-end : to ≤ at → Ok at ≡ v
  parts-end h = sym (rest_end v (parts_from s n at) s to at k h)

  module _ (r : Option Part) (q : r ≡ part_at s at to) where
    pub parts_none : r ≡ None → Ok at ≡ v
    parts_none g = sym (rest-no-part v (parts_from s n at) s to at k r q (Ok at) refl refl (λ t a e w x. rw x) g)

    module _ (p : Part) (g : r ≡ Some p) where
      pub parts-many : most_parts ≤ n → Err BeyondLimit ≡ v
      parts-many h =
          sym (rest_part v (parts_from s n at) s to at k r q p g (Err BeyondLimit)
          (λ t i. rw i (simp (next_part, le-ltb n most_parts h))))

      module _ (h : n < most_parts) (b : Bool) (x : b ≡ good_part p.extension (part s p.name.from p.name.to)) where
        pub parts-bad : b ≡ false → Err BadRequest ≡ v
        parts-bad y =
            sym (rest_part v (parts_from s n at) s to at k r q p g (Err BadRequest)
            (λ t i. rw i (simp (next_part, lt-ltb n most_parts h, ← x, y))))

        pub parts_next : b ≡ true → Rest v (parts_from s (n + 1) p.name.to) s to p.name.to
        parts_next y =
            rest-part-next v (parts_from s n at) s to at k r q p g (parts_from s (n + 1) p.name.to)
            (λ t i. rw i (simp (next_part, lt-ltb n most_parts h, ← x, y)))

pub ruleset parts_laws =
    (not-true, not-false, parts-start, parts-end, parts_none, parts-many, parts-bad, parts_next, part_places)

-- ---- parts end where their container does, or before
module _ (v : Result ℕ Refusal) (s : List ℕ) (to x : ℕ) (g : v ≡ Ok x) where
  same_place : (at : ℕ) → Ok at ≡ v → x ≡ at
  same_place at p = cc

  not-refused : (w : Refusal) → Err w ≡ v → x ≤ to
  not-refused w p = never cc

  module _ (m : ℕ) (more : (n at : ℕ) → Rest v (parts_from s n at) s to at → to - at ≤ m → x ≤ to)
      (n at : ℕ) (k : Rest v (parts_from s n at) s to at) (l : to - at ≤ suc m) where
    after-few : n < most_parts → (p : Part) → Some p ≡ part_at s at to
        → (b : Bool) → b ≡ good_part p.extension (part s p.name.from p.name.to) → x ≤ to
    after-few h p q false y = not-refused BadRequest (parts-bad v s n to at k (Some p) q p refl h false y refl)
    after-few h p q true y =
        more (n + 1) p.name.to (parts_next v s n to at k (Some p) q p refl h true y refl)
        (omega (arith, part-further s at to (Some p) q p refl))

    after_any : (r : Option Part) → r ≡ part_at s at to → x ≤ to
    after_any None q = omega (arith, same_place at (parts_none v s n to at k None q refl), k.within)
    after_any (Some p) q = elim (dec_lt n most_parts) [
      | yes h ↦ after-few h p q (good_part p.extension (part s p.name.from p.name.to)) refl
      | no h ↦ not-refused BeyondLimit (parts-many v s n to at k (Some p) q p refl (omega arith))
    ]

  after-inside : (m n at : ℕ) → Rest v (parts_from s n at) s to at → to - at ≤ m → x ≤ to
  after-inside zero n at k l = omega (arith, same_place at (parts-end v s n to at k (omega arith)), k.within)
  after-inside (suc m) n at k l = after_any m (after-inside m) n at k l (part_at s at to) refl

pub parts-inside : (s : List ℕ) (from to : ℕ) (v : Result ℕ Refusal) → v ≡ parts_from s 0 from (walk s from to) → (x : ℕ) → v ≡ Ok x
    → from ≤ to → to ≤ length s → x ≤ to
parts-inside s from to v q x g h k =
    after-inside v s to x g (to - from) 0 from (record { reads = field-reads; within = h; inside = k; rest = q }) (omega arith)

-- ---- check_last
module _ (s : List ℕ) (at end : ℕ) (r : Option Field) (q : r ≡ field_at s at end) where
  pub last-cut : r ≡ None → bad_request ≡ judge_last s at end
  unfolding judge_last
  last-cut g = rw (← q, g)

  module _ (f : Field) (g : r ≡ Some f) (u : Verdict) (p : u ≡ judge_constant most_constants s f.tag f.from f.to) where
    pub last-refused : (w : Refusal) → u ≡ Err w → Err w ≡ judge_last s at end
    unfolding judge_last
    last-refused w x = rw (← q, g, ← p, x)

    pub last-fine : u ≡ fine → (v : Verdict) → v ≡ judged BadRequest (eqb f.to end) → v ≡ judge_last s at end
    unfolding judge_last
    last-fine x v y = rw (← q, g, ← p, x) y

pub ruleset last_laws = (last-cut, last-refused, last-fine, field-ordered, field-within)

-- ---- check_option
module _ (s : List ℕ) (i t a e : ℕ) where
  pub option-other : (t ≡ option_tag → ⊥) → bad_request ≡ judge_option s i t a e
  unfolding judge_option
  option-other n = simp (judge_option, ne_eqb t option_tag n)

  module _ (y : t ≡ option_tag) where
    pub option-many : most_options ≤ i → beyond ≡ judge_option s i t a e
    unfolding judge_option
    option-many h = simp (judge_option, eq-eqb t option_tag y, le-ltb i most_options h)

    module _ (h : i < most_options) (r : Result ℕ Refusal) (q : r ≡ parts_from s 0 a (walk s a e)) where
      option-open : judge_option s i t a e ≡ after_name s a e r
      unfolding judge_option
      option-open = simp (judge_option, eq-eqb t option_tag y, lt-ltb i most_options h, ← q)

      pub option-refused : (w : Refusal) → r ≡ Err w → Err w ≡ judge_option s i t a e
      option-refused w g = rw (option-open, g)

      module _ (at : ℕ) (g : r ≡ Ok at) where
        pub option-unnamed : at ≡ a → bad_request ≡ judge_option s i t a e
        option-unnamed x = rw (option-open, g) (simp (after_name, eq-eqb at a x))

        pub option-last : (at ≡ a → ⊥) → (v : Verdict) → v ≡ judge_last s at e → v ≡ judge_option s i t a e
        option-last x v p = rw (option-open, g) (simp (after_name, ne_eqb at a x) p)

pub ruleset option_laws = (option-other, option-many, option-refused, option-unnamed, option-last, parts-inside)
