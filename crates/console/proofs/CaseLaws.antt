-- What `each_case` may ask of a program, and what a program shows of its closure.
-- Assumes nothing.
use Rattle.std.specs.Prelude.{◌≡◌, ℕ, zero, suc, ◌≤◌, Option, Some, IfSome}
use Rattle.std.specs.Fn.{Mut, Called}
use Rattle.basis.specs.Kit.{◌∙◌}
use Rattle.console.specs.Input.{AnswersFor, AnswersCases}

module _ {F : Type 0} (g : Mut F (ℕ × Unit {0}) (Option ℕ)) (end : ℕ) where
  -- ---- `each_case`: it may ask for a case, the next one starts within the input, and it may go on
  module _ (f : F) (may : AnswersCases g end f) (at : ℕ) (within : at ≤ end) where
    pub case-asked : g.pre f (at, tt)
    case-asked = (may.for 1 at within).0

    module _ (next : Option ℕ) (f' : F) (called : Called g f (at, tt) next f') where
      pub case_inside : (place : ℕ) → next ≡ Some place → place ≤ end
      case_inside place is = let inside = ((may.for 1 at within).1 next f' called).0 in rw is at inside

      pub case_again : AnswersCases g end f'
      case_again = record { for = λ n. ((may.for (suc n) at within).1 next f' called).1 }

  -- ---- for the programs: from what holds of the closure, and of all that a call leaves of it
  module _ (I : F → Type 0) (asks : (f : F) (at : ℕ) → I f → at ≤ end → g.pre f (at, tt))
      (keeps : (f : F) (at : ℕ) (next : Option ℕ) (f' : F) → I f → at ≤ end → Called g f (at, tt) next f'
      → IfSome next (λ place. place ≤ end) × I f') where
    answers-for : (n : ℕ) (f : F) → I f → AnswersFor g end n f
    answers-for zero f i = tt
    answers-for (suc n) f i = λ at within. (
      asks f at i within,
      λ next f' called.
          let kept = keeps f at next f' i within called in
          (kept.0, answers-for n f' kept.1),
    )

    pub answers_by : (f : F) → I f → AnswersCases g end f
    answers_by f i = record { for = λ n. answers-for n f i }

  -- where a call leaves the closure as it was
  module _ (f : F) (asks : (at : ℕ) → at ≤ end → g.pre f (at, tt))
      (keeps : (at : ℕ) (next : Option ℕ) (f' : F) → at ≤ end → Called g f (at, tt) next f'
      → IfSome next (λ place. place ≤ end) × (f' ≡ f)) where
    pub answers_same : AnswersCases g end f
    answers_same = answers_by (λ x. x ≡ f) (λ x at i within. rw i (asks at within))
        (λ x at next f' i within called. keeps at next f' within (rw i at called)) f (λ i. f)

  -- where the closure holds lent room beside the input: the room changes, and the input's length stays
  module _ (extent : F → ℕ) (asks : (f : F) (at : ℕ) → at ≤ extent f → g.pre f (at, tt))
      (keeps : (f : F) (at : ℕ) (next : Option ℕ) (f' : F) → at ≤ extent f → Called g f (at, tt) next f'
      → IfSome next (λ place. place ≤ extent f) × (extent f' ≡ extent f)) where
    pub answers_within : (f : F) → extent f ≡ end → AnswersCases g end f
    answers_within = answers_by (λ x. extent x ≡ end) (λ x at i within. asks x at (rw i within))
        (λ x at next f' i within called. let kept = keeps x at next f' (rw i within) called in (rw (← i) kept.0, kept.1 ∙ i))

pub ruleset each_case_laws = (case-asked, case_inside, case_again)
