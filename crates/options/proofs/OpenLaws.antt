-- What the options of a fine request start with: the ways through `open`.
-- Assumes nothing.
use Rattle.std.specs.Prelude.{◌≡◌, refl, List, ◌∷◌, ℕ, ◌≤◌, ◌<◌, length, Err, None, Some, Ok, Option, Result}
use Rattle.basis.specs.Kit.{sym, ap, ◌∙◌}
use Rattle.basis.proofs.Kit.{arith}
use mathlib.Core.Path.{subst}
use native.Mathlib.Decide.{dec_lt}
use Rattle.limits.specs.Figures.{most_request}
use Rattle.reply.specs.declared.Refusal.{Refusal}
use Rattle.reply.specs.declared.Refusal.TheVariants.{BadRequest, BeyondLimit}
use Rattle.reply.proofs.VerdictLaws.{refused-fine}
use Rattle.field.specs.Field.{field_at}
use Rattle.field.specs.Leaf.{text}
use Rattle.field.specs.Walk.{walk}
use Rattle.field.proofs.WalkLaws.{walk-done, walk-cut, walk_step}
use Rattle.form.specs.Each.{each_from}
use Rattle.scope.specs.declared.lookup.LookupScope.{LookupScope}
use Rattle.request.specs.declared.heading.Heading.{Heading}
use Rattle.request.specs.Table.{option_tag}
use Rattle.request.specs.Request.{RequestOption, heading_of, option_of, option_in, options_in, request_with, request_of}
use Rattle.request.proofs.RequestLaws.{scope-ordered, scope-inside, options-type-ordered, options-type-inside, options-inside, heading_spans}
use Rattle.optionform.specs.Form.{judge_option}
use Rattle.optionform.proofs.FineLaws.{option-tagged}
use Rattle.requestform.specs.Form.{judge_request}
use Rattle.requestform.proofs.FineLaws.{fine-scope, fine-options-start, fine-option-at}
use Rattle.requestform.proofs.RequestLaws.{request-long}
use Rattle.lookups.specs.Lookups.{walking}
use Rattle.lookups.proofs.LookupLaws.{message-lies}
use Rattle.options.specs.declared.settle.Start.{Start}
use Rattle.reply.specs.declared.Cause.{Cause}
use Rattle.reply.specs.Reply.{bare}
use Rattle.options.specs.inner.Gathering.{options_of, gathered_by}
use Rattle.options.specs.Steps.{refused, on_type, some_options, steps_of}
use Rattle.options.specs.inner.Measuring.{Opens, at, none, lost}
use Rattle.field.specs.declared.Field.{Field}
use Rattle.reply.specs.Verdicts.{fine}

-- a fine request is no longer than 01 allows
pub fine-short : (r : List ℕ) → judge_request r ≡ fine → length r ≤ most_request
fine-short r f = elim (dec_lt most_request (length r)) [
  | yes h ↦ absurd (refused-fine BeyondLimit (request-long r h ∙ f))
  | no h ↦ omega arith
]

-- where something stands behind the heading of a fine request, that is an option
pub record SomeOption (os : List RequestOption) : Type 0 where
  pub first : RequestOption
  pub rest : List RequestOption
  pub is : os ≡ first ∷ rest

module _ (r : List ℕ) (i : ℕ) (f : each_from BadRequest (judge_option r) 0 (walk r i (length r)) ≡ fine) (h : i < length r) where
  some_at : (v : Option Field) → v ≡ field_at r i (length r) → SomeOption (options_in r (walk r i (length r)))
  unfolding option_in
  some_at None q =
      absurd (refused-fine BadRequest (sym (ap (each_from BadRequest (judge_option r) 0) (walk-cut r i (length r) h None q refl)) ∙ f))
  some_at (Some found) q =
      let y : found.tag ≡ option_tag = option-tagged r 0 found.tag found.from found.to (fine-option-at r 0 i (length r) f h (Some found) q found refl) in
      record {
        first = option_of r found.from found.to;
        rest = options_in r (walk r found.to (length r));
        is = ap (options_in r) (walk_step r i (length r) h (Some found) q found refl) ∙ rw y refl;
      }

module _ (s r : List ℕ) (f : judge_request r ≡ fine) (v : Option Heading) (q : v ≡ heading_of r) where
  steps-with : steps_of (walking s) s r ≡ some_options (walking s) s r (request_with r v) (request_with r v).options
  unfolding steps_of request_of
  steps-with = rw q refl

  pub open_none : v ≡ None → Opens s r (Ok None)
  open_none g = none (steps-with ∙ rw g refl)

  module _ (h : Heading) (g : v ≡ Some h) where
    pub open-empty : length r ≤ h.options → Opens s r (Ok None)
    open-empty c = none (steps-with ∙ rw (g, walk-done r h.options (length r) c) refl)

    module _ (c : h.options < length r) (u : Result LookupScope Refusal) (e : u ≡ (walking s).message (text r h.options_type)) where
      fine-here : each_from BadRequest (judge_option r) 0 (walk r h.options (length r)) ≡ fine
      fine-here = fine-options-start r f v q h g

      steps_on : steps_of (walking s) s r ≡ on_type (walking s) s r (request_with r (Some h)) u
      steps_on =
          let o = some_at r h.options fine-here c (field_at r h.options (length r)) refl in
          steps-with ∙ rw g (ap (some_options (walking s) s r (request_with r (Some h))) o.is ∙ ap (on_type (walking s) s r (request_with r (Some h))) (sym e))

      pub open-lost : (w : Refusal) → u ≡ Err w → (y : Cause) → y ≡ bare w → Opens s r (Err y)
      open-lost w z y k = lost (steps_on ∙ ap (on_type (walking s) s r (request_with r (Some h))) z ∙ ap refused (sym k))

      pub open_at : (p : LookupScope) → u ≡ Ok p → (y : Start) → y.scope ≡ h.scope → y.options_type ≡ h.options_type
          → y.options ≡ h.options → y.place ≡ p → Opens s r (Ok (Some y))
      unfolding gathered_by options_of
      open_at p z y i j k o =
          let same : record { scope = h.scope; options_type = h.options_type; options = h.options; place = p } ≡ y =
          rw (← i, ← j, ← k, ← o) refl in
          subst (λ (x : Start). Opens s r (Ok (Some x))) same (at (record {
            steps = steps_on ∙ ap (on_type (walking s) s r (request_with r (Some h))) z;
            started = record {
              place = message-lies s (text r h.options_type) u e p z;
              scope = (scope-ordered r v q h g, scope-inside r v q h g);
              type = (options-type-ordered r v q h g, options-type-inside r v q h g);
              path = fine-scope r f v q h g;
              short = fine-short r f;
            };
            fine = record { inside = options-inside r v q h g; fine = fine-here };
          }))

pub ruleset open_laws = (open_none, open-empty, open-lost, open_at, heading_spans)
