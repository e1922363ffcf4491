-- The answer of a test of form is that of the verdict that the test has to give.
-- Assumes nothing.
use Rattle.std.specs.Prelude.{◌≡◌, ℕ}
use Rattle.basis.specs.Kit.{◌∙◌, ap}
use Rattle.reply.specs.declared.Answer.{Answer}
use Rattle.reply.specs.Verdicts.{answer_for, Says, Verdict}

pub says_answer : (n : ℕ) (v u : Verdict) (r : Answer) → Says v u → r ≡ answer_for n u → r ≡ answer_for n v
says_answer n v u r h e = e ∙ ap (answer_for n) h.is
