-- The laws of outcomes: the ways to a public call's answer, and that there is one answer only.
-- Assumes nothing.
use Rattle.std.specs.Prelude.{◌≡◌, refl, List, [], ◌++◌, ◌≤◌, ◌<◌, length, drop}
use Rattle.basis.specs.Kit.{sym, ap, ◌∙◌}
use Rattle.basis.proofs.Kit.{lt-ltb, le-ltb}
use mathlib.Core.List.{append_assoc}
use Rattle.reply.specs.declared.Cause.{Cause}
use Rattle.reply.specs.declared.Refusal.{Refusal}
use Rattle.reply.specs.declared.Refusal.TheVariants.{NoRoom}
use Rattle.reply.specs.declared.Answer.{Answer}
use Rattle.reply.specs.Reply.{bare, refused_for, refused_by, done_with, absent_answer}
use Rattle.reply.specs.Outcome.{Outcome, refused, refuse, nothing, give, push, within, Answered}

module _ {A : Type 0} where
  pub push-push : (xs ys : List A) (o : Outcome A) → push xs (push ys o) ≡ push (xs ++ ys) o
  push-push xs ys (refused c) = refl
  push-push xs ys nothing = refl
  push-push xs ys (give l) = ap give (sym (append_assoc xs ys l))

  pub push-nil : (o : Outcome A) → push [] o ≡ o
  push-nil (refused c) = refl
  push-nil nothing = refl
  push-nil (give l) = refl

  -- the ways to an answer
  module _ (o : Outcome A) (before : List A) where
    pub answered-refused : (c : Cause) → o ≡ refused c → Answered o before before (refused_for c)
    answered-refused c e = record { answer = rw e; left = rw e }

    pub answered-absent : o ≡ nothing → Answered o before before absent_answer
    answered-absent e = record { answer = rw e; left = rw e }

    module _ (l : List A) (e : o ≡ give l) where
      pub answered-no-room : length before < length l → Answered o before before (refused_by NoRoom)
      answered-no-room h = record { answer = rw e (simp (within, lt-ltb _ _ h)); left = rw e (simp (within, lt-ltb _ _ h)) }

      pub answered-done : length l ≤ length before → Answered o before (l ++ drop (length l) before) (done_with (length l))
      answered-done h = record { answer = rw e (simp (within, le-ltb _ _ h)); left = rw e (simp (within, le-ltb _ _ h)) }

  -- any two outcomes that the contract allows coincide
  module _
      (o : Outcome A) (before after after' : List A) (r r' : Answer)
      (a : Answered o before after r) (b : Answered o before after' r') where
    pub answered-unique-answer : r ≡ r'
    answered-unique-answer = a.answer ∙ sym b.answer

    pub answered-unique-left : after ≡ after'
    answered-unique-left = a.left ∙ sym b.left

-- two refusals that come to the same are one
pub refuse-inv : {A : Type 0} (w w' : Refusal) → ◌≡◌ {A = Outcome A} (refuse w) (refuse w') → w ≡ w'
refuse-inv w w' e = let u : bare w ≡ bare w' = cc in ap (λ (c : Cause). c.why) u
