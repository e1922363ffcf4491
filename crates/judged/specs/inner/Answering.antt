-- What is answered of a verdict in a room. It has the shape of its code; that it is the answer of every outcome on which this is the verdict
-- is a law (`answer-in`).
--
--        Judges o v <-> v is the verdict on what comes to the outcome o
--   answer_in room v ==  what is answered of the verdict v, where there is room for so many bytes
--
-- Assumes nothing.
use Rattle.std.specs.Prelude.{true, false, List, ℕ, ltb, length, Err, None, Some, Ok, Option, Result}
use Rattle.reply.specs.declared.Refusal.TheVariants.{NoRoom}
use Rattle.reply.specs.declared.Cause.{Cause}
use Rattle.reply.specs.declared.Answer.{Answer}
use Rattle.reply.specs.Reply.{refused_for, refused_by, done_with, absent_answer}
use Rattle.reply.specs.Outcome.{Outcome, refused, nothing, give}

pub data Judges : Outcome ℕ → Result (Option ℕ) Cause → Type 0 where
  fine : (bytes : List ℕ) → Judges (give bytes) (Ok (Some (length bytes)))
  absent : Judges nothing (Ok None)
  refuses : (c : Cause) → Judges (refused c) (Err c)

unfoldable pub answer_in : (room : ℕ) → Result (Option ℕ) Cause → Answer
answer_in room (Ok (Some n)) = elim (ltb room n) [ true ↦ refused_by NoRoom | false ↦ done_with n ]
answer_in room (Ok None) = absent_answer
answer_in room (Err c) = refused_for c
