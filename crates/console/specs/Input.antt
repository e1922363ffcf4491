-- What was read, and how a program answers its cases.
--
--   Fills r room         <-> the bytes that were read lie within the room
--   AnswersFor g end n f <-> f may be called n times in turn, each time at any place up to the end, and answers none or such a place
--   AnswersCases g end f <-> the same of any number of calls
--
-- Assumes nothing.
use Rattle.std.specs.Prelude.{ℕ, zero, suc, ◌≤◌, None, Some, Option, IfSome, ⊤}
use Rattle.std.specs.Fn.{Mut, Called}

abbrev pub Fills : Option ℕ → ℕ → Type 0
Fills (Some n) room = n ≤ room
Fills None room = Unit

module _ {F : Type 0} (g : Mut F (ℕ × Unit {0}) (Option ℕ)) (end : ℕ) where
  abbrev pub AnswersFor : ℕ → F → Type 0
  AnswersFor zero f = ⊤
  AnswersFor (suc n) f = (at : ℕ) → at ≤ end → g.pre f (at, tt)
      × ((next : Option ℕ) (f' : F) → Called g f (at, tt) next f' → IfSome next (λ place. place ≤ end) × AnswersFor n f')

  pub record AnswersCases (f : F) : Type 0 where
    pub for : (n : ℕ) → AnswersFor n f
