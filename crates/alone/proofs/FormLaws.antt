-- The verdicts of a constant and of an option are the same in two requests, at places that correspond.
-- Assumes nothing.
use Rattle.std.specs.Prelude.{◌≡◌, refl, List, ℕ, zero, suc, ◌+◌, ◌<◌, eqb, ltb, Err, Ok, Option, Result}
use Rattle.basis.specs.Kit.{sym, ap, ◌∙◌}
use Rattle.basis.proofs.Kit.{lt-ltb}
use mathlib.Core.Path.{ap₂}
use Rattle.limits.specs.Figures.{most_options, most_parts, most_constants}
use Rattle.reply.specs.declared.Refusal.{Refusal}
use Rattle.reply.specs.declared.Refusal.TheVariants.{BadRequest, BeyondLimit}
use Rattle.reply.specs.Verdicts.{first_fault, judged, Verdict}
use Rattle.field.specs.Leaf.{span}
use Rattle.field.specs.Walk.{Walk}
use Rattle.form.specs.Each.{each}
use Rattle.request.specs.Table.{message_constant_tag, list_tag, option_tag}
use Rattle.constantform.specs.Leaves.{is_constant, good_scalar, good_pair_name, good_part}
use Rattle.constantform.specs.Form.{pairs_of, constant_with, judge_constant}
use Rattle.optionform.specs.Form.{next_part, parts_from, last_field, judge_last, after_name, judge_option}
use Rattle.alone.proofs.Tests.{by_cases, by-test}
use Rattle.alone.proofs.Windows.{Twin, Here, SameSpan, here-equal, text_same}
use Rattle.alone.proofs.Walks.{SameField, both-cut, both-whole, SameWalk, dones, cuts, steps, field-same, walk_same}
use Rattle.alone.proofs.Names.{SameParted, both-none, both-part, parted-same}
use Rattle.field.specs.declared.Field.{Field}
use Rattle.request.specs.declared.name.Part.{Part}

module _ {r r' : List ℕ} (w : Twin r r') where
  -- ---- constants
  abbrev SameJudge : (judge judge' : (tag from to : ℕ) → Verdict) → Type 0
  SameJudge f f' = (t x x' y y' : ℕ) → SameSpan w (span x x') (span y y') → f t x x' ≡ f' t y y'

  module _ (f f' : (tag from to : ℕ) → Verdict) (inner : SameJudge f f') where
    each_same : {u v : Walk} → SameWalk w u v → each BadRequest f u ≡ each BadRequest f' v
    each_same dones = refl
    each_same cuts = refl
    each_same (steps {t} {x} {x'} {y} {y'} h k) = ap₂ first_fault (inner t x x' y y' h) (each_same k)

    pairs-same : {u v : Walk} → SameWalk w u v → pairs_of f r u ≡ pairs_of f' r' v
    pairs-same dones = refl
    pairs-same cuts = refl
    pairs-same (steps h dones) = refl
    pairs-same (steps h cuts) = refl
    pairs-same (steps {t} h (steps {t = t₂} {x} {x'} {y} {y'} h₂ k)) =
        ap₂ first_fault (ap (λ (bs : List ℕ). judged BadRequest (good_pair_name t bs)) (text_same w h))
        (ap₂ first_fault (inner t₂ x x' y y' h₂) (pairs-same k))

    with-same : SameJudge (constant_with f r) (constant_with f' r')
    with-same t x x' y y' h =
        by-test ◌≡◌ (eqb t message_constant_tag) (pairs-same (walk_same w h))
        (by-test ◌≡◌ (eqb t list_tag) (each_same (walk_same w h))
        (ap (λ (bs : List ℕ). judged BadRequest (good_scalar t bs)) (text_same w h)))

  pub constant-same : (d : ℕ) → SameJudge (judge_constant d r) (judge_constant d r')
  constant-same zero t x x' y y' h = refl
  constant-same (suc d) t x x' y y' h =
      by-test ◌≡◌ (is_constant t) (with-same (judge_constant d r) (judge_constant d r') (constant-same d) t x x' y y' h) refl

-- ---- the parts of a name: they end at places that correspond, or are refused alike
data SameEnd {r r' : List ℕ} (w : Twin r r') : Result ℕ Refusal → Result ℕ Refusal → Type 0 where
  both-after : {x y : ℕ} → Here w x y → SameEnd w (Ok x) (Ok y)
  both-refuse : (why : Refusal) → SameEnd w (Err why) (Err why)

module _ {r r' : List ℕ} (w : Twin r r') where
  next-same : (n : ℕ) {x y : ℕ} → Here w x y → {p p' : Option Part} → SameParted w p p' → {v v' : Result ℕ Refusal} → SameEnd w v v'
      → SameEnd w (next_part r n x p v) (next_part r' n y p' v')
  next-same n h both-none k = both-after h
  next-same n h (both-part q) k =
      by-test (SameEnd w) (ltb n most_parts)
      (by_cases (SameEnd w) (ap₂ good_part q.extension (text_same w q.name)) (λ _. k) (λ _. both-refuse BadRequest))
      (both-refuse BeyondLimit)

  name-same : (n : ℕ) {x y : ℕ} → Here w x y → {u v : Walk} → SameWalk w u v → SameEnd w (parts_from r n x u) (parts_from r' n y v)
  name-same n h dones = both-after h
  name-same n h cuts = both-after h
  name-same n h (steps {t} p k) = next-same n h (parted-same w t p) (name-same (n + 1) p.to k)

  -- ---- one option
  last-field : {x y : ℕ} → Here w x y → {f f' : Option Field} → SameField w f f' → last_field r x f ≡ last_field r' y f'
  last-field h both-cut = refl
  last-field h (both-whole {t} {x} {x'} {y} {y'} p) =
      ap₂ first_fault (constant-same w most_constants t x x' y y' p) (ap (judged BadRequest) (here-equal w p.to h))

  named-same : {x x' y y' : ℕ} → Here w x y → Here w x' y' → {v v' : Result ℕ Refusal} → SameEnd w v v' → after_name r x x' v ≡ after_name r' y y' v'
  unfolding judge_last
  named-same h k (both-refuse why) = refl
  named-same h k (both-after p) = by_cases ◌≡◌ (here-equal w p h) (λ _. refl) (λ _. last-field k (field-same w p k))

  -- the i-th of the options of r, and the j-th of those of r'
  pub option-same : (i j : ℕ) → i < most_options → j < most_options → {x x' y y' : ℕ} → SameSpan w (span x x') (span y y')
      → judge_option r i option_tag x x' ≡ judge_option r' j option_tag y y'
  unfolding judge_option
  option-same i j m n h =
      by_cases ◌≡◌ (lt-ltb i most_options m ∙ sym (lt-ltb j most_options n))
      (λ _. named-same h.from h.to (name-same 0 h.from (walk_same w h))) (λ _. refl)
