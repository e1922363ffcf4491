-- A loop over the fine options of a request: where it stands, which options are left, and what each option is.
--
--   Reached r h n i <-> the n options before the place i are done, and those from there on are fine
--
-- Assumes nothing.
use Rattle.std.specs.Prelude.{◌≡◌, refl, List, [], ◌∷◌, ℕ, zero, suc, ◌+◌, ◌-◌, ◌≤◌, ◌<◌, length, drop, Some, None, Option}
use Rattle.basis.specs.Kit.{sym, ap, ◌∙◌}
use Rattle.basis.proofs.Kit.{arith, add-one, w64, Fits}
use lib.ListN.{get_elem?}
use Rattle.basis.proofs.Never.{never}
use mathlib.Core.Option as option
use Rattle.limits.specs.Figures.{most_options}
use Rattle.reply.specs.declared.Refusal.TheVariants.{BadRequest}
use Rattle.reply.proofs.VerdictLaws.{refused-fine}
use Rattle.field.specs.Field.{field_at}
use Rattle.field.specs.Walk.{walk}
use Rattle.field.proofs.FieldLaws.{field-bounds}
use Rattle.field.proofs.WalkLaws.{walk-done, walk-cut, walk_step}
use Rattle.form.specs.Each.{each_from}
use Rattle.request.specs.Table.{option_tag}
use Rattle.request.specs.Request.{option_of, option_in, options_in}
use Rattle.optionform.specs.Form.{judge_option}
use Rattle.optionform.specs.inner.Parts.{OptionParts}
use Rattle.optionform.proofs.FineLaws.{option-tagged, option-few, fine-option-parts}
use Rattle.requestform.proofs.FineLaws.{fine-option-at, fine-option-next}
use Rattle.lookups.specs.Lookups.{Lookups}
use Rattle.options.specs.declared.settle.Start.{Start}
use Rattle.options.specs.inner.Settling.{settled_at, set_recs}
use Rattle.options.specs.inner.Gathering.{options_of, set_where, made_at, FineFrom}
use Rattle.field.specs.declared.Field.{Field}
use Rattle.reply.specs.Verdicts.{fine}

pub record Reached (r : List ℕ) (h : Start) (n i : ℕ) : Type 0 where
  pub begun : h.options ≤ i
  pub inside : i ≤ length r
  pub count : n ≤ most_options
  pub left : drop n (options_of r h) ≡ options_in r (walk r i (length r))
  pub fine : each_from BadRequest (judge_option r) n (walk r i (length r)) ≡ fine

-- ---- what a list has at a place, and what is left behind it
module _ {A : Type 0} (x : A) (rest : List A) where
  drop_here : (n : ℕ) (xs : List A) → drop n xs ≡ x ∷ rest → get_elem? xs n ≡ option.some x
  drop_here zero [] e = never cc
  drop_here zero (y ∷ xs) e = cc
  drop_here (suc n) [] e = never cc
  drop_here (suc n) (y ∷ xs) e = drop_here n xs e

  drop-next : (n : ℕ) (xs : List A) → drop n xs ≡ x ∷ rest → drop (suc n) xs ≡ rest
  drop-next zero [] e = never cc
  drop-next zero (y ∷ xs) e = cc
  drop-next (suc n) [] e = never cc
  drop-next (suc n) (y ∷ xs) e = drop-next n xs e

pub reached-start : (r : List ℕ) (h : Start) → FineFrom r h → Reached r h 0 h.options
unfolding options_of
reached-start r h f = record { begun = omega arith; inside = f.inside; count = omega arith; left = refl; fine = f.fine }

module _ (r : List ℕ) (h : Start) (n i : ℕ) (u : Reached r h n i) where
  -- ---- no option is left
  pub reached-end : length r ≤ i → drop n (options_of r h) ≡ []
  reached-end l = u.left ∙ ap (options_in r) (walk-done r i (length r) l)

  module _ (l : i < length r) (f : Option Field) (q : f ≡ field_at r i (length r)) where
    -- ---- fine options are not cut
    pub reached-cut : {C : Type 0} → f ≡ None → C
    reached-cut g =
        absurd (refused-fine BadRequest (ap (each_from BadRequest (judge_option r) n) (sym (walk-cut r i (length r) l f q g)) ∙ u.fine))

    -- ---- an option
    module _ (here : Field) (g : f ≡ Some here) where
      judged-here : judge_option r n here.tag here.from here.to ≡ fine
      judged-here = fine-option-at r n i (length r) u.fine l f q here g

      tagged : here.tag ≡ option_tag
      tagged = option-tagged r n here.tag here.from here.to judged-here

      pub reached-parts : OptionParts r here.from here.to
      reached-parts = fine-option-parts r n here.tag here.from here.to judged-here

      option-counted : n < most_options
      option-counted = option-few r n here.from here.to (rw tagged at judged-here)

      options-here : drop n (options_of r h) ≡ option_of r here.from here.to ∷ options_in r (walk r here.to (length r))
      unfolding option_in
      options-here = u.left ∙ ap (options_in r) (walk_step r i (length r) l f q here g) ∙ rw tagged

      options-next : drop (n + 1) (options_of r h) ≡ options_in r (walk r here.to (length r))
      options-next = rw add-one (drop-next (option_of r here.from here.to) (options_in r (walk r here.to (length r))) n (options_of r h) options-here)

      pub reached-first : drop n (options_of r h) ≡ option_of r here.from here.to ∷ drop (n + 1) (options_of r h)
      reached-first = options-here ∙ ap (λ os. option_of r here.from here.to ∷ os) (sym options-next)

      pub reached-made : (L : Lookups) (s : List ℕ) → made_at L s r h n ≡ set_recs (settled_at L s r h here.from here.to)
      unfolding made_at settled_at
      reached-made L s =
          ap (set_where L s r h) (drop_here (option_of r here.from here.to) (options_in r (walk r here.to (length r))) n (options_of r h) options-here)

      pub reached-next : Reached r h (n + 1) here.to
      reached-next =
          let b = field-bounds r i (length r) f q here g in
          record {
            begun = omega (arith, u.begun, b.starts, b.ordered);
            inside = b.inside;
            count = omega (arith, option-counted);
            left = options-next;
            fine = fine-option-next r n i (length r) u.fine l f q here g;
          }

      -- the bytes of an option, and its header of three
      pub reached-size : 3 + (here.to - here.from) + i ≤ here.to
      reached-size = let b = field-bounds r i (length r) f q here g in omega (arith, b.starts, b.ordered)

  -- ---- where something is left, an option is, and there is a place for its note
  module _ (l : i < length r) where
    pub reached-few : n < most_options
    reached-few = go (field_at r i (length r)) refl
      where
        go : (f : Option Field) → f ≡ field_at r i (length r) → n < most_options
        go None q = reached-cut l None q refl
        go (Some found) q = option-counted l (Some found) q found refl

    pub reached-fits : Fits w64 (n + 1)
    reached-fits = record { fits = omega (arith, reached-few) }

    pub reached-noted : (m : ℕ) → most_options ≤ m → n < m
    reached-noted m k = omega (arith, reached-few)
