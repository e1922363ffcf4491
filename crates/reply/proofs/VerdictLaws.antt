-- The laws of verdicts: the first fault is the answer, what `judge` returns, what a public call says, what `?` hands on, and what a verdict
-- that is fine says of its parts.
-- Assumes nothing.
use Rattle.std.specs.Prelude.{◌≡◌, refl, Bool, true, false, ℕ, Result, Err, Ok}
use Rattle.std.specs.Result.{IsErrAnd}
use Rattle.basis.specs.Kit.{ap}
use Rattle.basis.proofs.Never.{never}
use Rattle.reply.specs.declared.Refusal.{Refusal}
use Rattle.reply.specs.declared.Answer.{Answer}
use Rattle.reply.specs.Reply.{nowhere, refused_by, done_with, decided}
use Rattle.reply.specs.Verdicts.{first_fault, judged, reply_of, second_of, answer_for, Says, Verdict, fine}

module _ (u v : Verdict) where
  pub first-refused : (w : Refusal) → u ≡ Err w → Err w ≡ first_fault u v
  first-refused w g = rw g

  pub first_fine : u ≡ fine → v ≡ first_fault u v
  first_fine g = rw g

module _ (w : Refusal) (b : Bool) where
  pub judged_true : b ≡ true → fine ≡ judged w b
  judged_true g = rw g

  pub judged_false : b ≡ false → Err w ≡ judged w b
  judged_false g = rw g

-- ---- what `?` hands on is v, where its error is what v is
pub handed-on : {A E : Type 0} {r v : Result A E} {w : E} → IsErrAnd r (λ e. e ≡ w) → Err w ≡ v → r ≡ v
handed-on {r = Ok x} h q = elim h [ ]
handed-on {r = Err e} h q = rw h q

-- ---- an answer that is a verdict has its number and its second word
pub says : (v r : Verdict) → r ≡ v → Says v r
says v r p = record { is = p; reply = ap reply_of p; second = ap second_of p }

-- ---- what is fine
pub refused-fine : (w : Refusal) → Err w ≡ fine → ⊥
refused-fine w p = never cc

pub first-fine-front : (u v : Verdict) → first_fault u v ≡ fine → u ≡ fine
first-fine-front (Ok _) v p = refl
first-fine-front (Err w) v p = p

pub first-fine-rest : (u v : Verdict) → first_fault u v ≡ fine → v ≡ fine
first-fine-rest (Ok _) v p = p
first-fine-rest (Err w) v p = absurd (refused-fine w p)

pub judged-fine : (w : Refusal) (b : Bool) → judged w b ≡ fine → b ≡ true
judged-fine w true p = refl
judged-fine w false p = absurd (refused-fine w p)

-- ---- the answer of a call whose inputs are judged
module _ (n : ℕ) (v : Verdict) (r : Answer) where
  pub answer-fine : v ≡ fine → r ≡ done_with n → r ≡ answer_for n v
  answer-fine g e = rw g e

  pub answer-refused : (w : Refusal) → v ≡ Err w → r ≡ refused_by w → r ≡ answer_for n v
  answer-refused w g e = rw g e

pub ruleset answer_laws = (answer-fine, answer-refused)

-- ---- decided
abbrev answer : (word : ℕ) → Answer
answer w = record { reply = 0; second = w; absent = 0; length = 0; option = nowhere; part = nowhere }

pub decided_yes : (b : Bool) → b ≡ true → answer 1 ≡ decided b
decided_yes b h = rw h refl

pub decided_no : (b : Bool) → b ≡ false → answer 0 ≡ decided b
decided_no b h = rw h refl
