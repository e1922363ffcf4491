-- What a public call comes to, and what its answer and the lent memory then are, for every input and every room.
--
--                   Outcome A ==  a refusal, Absent, or elements for the lent memory
--                    refuse w ==  this refusal, nowhere
--                  unless v o ==  the refusal of the verdict v, else o
--                push front o ==  the outcome with elements in front of what it gives
--               within room o ==  the outcome where there is room for so many elements
--                  answer_of o ==  the answer record
--             left_of o before ==  the lent memory afterwards
--   Answered o before after r <-> r is the answer of o, and the lent memory, `before` the call, is `after` it
--
-- Assumes nothing.
use Rattle.std.specs.Prelude.{◌≡◌, true, false, List, ◌++◌, ℕ, ltb, length, drop, Err, Ok}
use Rattle.reply.specs.declared.Refusal.{Refusal}
use Rattle.reply.specs.declared.Refusal.TheVariants.{NoRoom}
use Rattle.reply.specs.declared.Cause.{Cause}
use Rattle.reply.specs.declared.Answer.{Answer}
use Rattle.reply.specs.Reply.{bare, refused_for, done_with, absent_answer}
use Rattle.reply.specs.Verdicts.{Verdict}

pub data Outcome (A : Type 0) : Type 0 where
  refused : (cause : Cause) → Outcome A
  nothing : Outcome A
  give : (elements : List A) → Outcome A

abbrev pub refuse : {A : Type 0} → Refusal → Outcome A
refuse w = refused (bare w)

abbrev pub unless : {A : Type 0} → Verdict → Outcome A → Outcome A
unless (Ok _) o = o
unless (Err w) o = refuse w

abbrev pub push : {A : Type 0} (front : List A) → Outcome A → Outcome A
push front (refused c) = refused c
push front nothing = nothing
push front (give l) = give (front ++ l)

-- NoRoom comes only when all else has passed; 01, Listing: "room last" [REPLY-6]
abbrev pub within : {A : Type 0} (room : ℕ) → Outcome A → Outcome A
within room (refused c) = refused c
within room nothing = nothing
within room (give l) = elim (ltb room (length l)) [ true ↦ refuse NoRoom | false ↦ give l ]

abbrev pub answer_of : {A : Type 0} → Outcome A → Answer
answer_of (refused c) = refused_for c
answer_of nothing = absent_answer
answer_of (give l) = done_with (length l)

-- 01, Replies: "Refusals write nothing ..; on 0, bytes past the answer stay" [REPLY-4, REPLY-5]
abbrev pub left_of : {A : Type 0} → Outcome A → (before : List A) → List A
left_of (refused c) before = before
left_of nothing before = before
left_of (give l) before = l ++ drop (length l) before

pub record Answered {A : Type 0} (o : Outcome A) (before after : List A) (r : Answer) : Type 0 where
  pub answer : r ≡ answer_of (within (length before) o)
  pub left : after ≡ left_of (within (length before) o) before
