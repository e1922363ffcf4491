-- What tests of form say together, from 01's "Replies": "the first fault from the front".
--
--   first_fault u v ==  u, and v where u is fine
--       judged w b ==  fine where b holds, else refused by w
--           beyond ==  a limit that is passed
--        reply_of v ==  the number of a verdict in 01's table, 0 where it is fine
--       second_of v ==  its second word
--    answer_for n v ==  the answer of length n where v is fine, else the refusal of v
--        asked v b ==  the answer yes or no where v is fine, else the refusal of v
--         Says v r <-> the answer r is the verdict v, and so has its number and its second word
--
-- Assumes nothing.
use Rattle.std.specs.Prelude.{◌≡◌, Bool, true, false, ℕ, Result, Ok, Err}
use Rattle.reply.specs.declared.Refusal.{Refusal}
use Rattle.reply.specs.declared.Refusal.TheVariants.{BeyondLimit}
use Rattle.reply.specs.declared.Answer.{Answer}
use Rattle.reply.specs.Reply.{number, second, refused_by, done_with, decided}

abbrev pub Verdict : Type 0
Verdict = Result Unit Refusal

abbrev pub fine : Verdict
fine = Ok tt

abbrev pub first_fault : (u v : Verdict) → Verdict
first_fault (Ok _) v = v
first_fault (Err w) v = Err w

abbrev pub judged : Refusal → Bool → Verdict
judged w true = fine
judged w false = Err w

-- 01, Replies: 3, "a figure of "Most allowed" .. passed" [LIMIT-1]
abbrev pub beyond : Verdict
beyond = Err BeyondLimit

-- 01: "Where an answer is an enum, a definition gives this paper's number and values for each of its cases. The promises use that
-- definition." [REPLY-9]
abbrev pub reply_of : Verdict → ℕ
reply_of (Ok _) = 0
reply_of (Err w) = number w

abbrev pub second_of : Verdict → ℕ
second_of (Ok _) = 0
second_of (Err w) = second w

-- a call that comes to a length of inputs that are judged v [REPLY-4]
abbrev pub answer_for : (size : ℕ) → Verdict → Answer
answer_for n (Ok _) = done_with n
answer_for n (Err w) = refused_by w

-- a call that answers yes or no of inputs that are judged v [REPLY-2]
abbrev pub asked : Verdict → (holds : Bool) → Answer
asked (Ok _) b = decided b
asked (Err w) b = refused_by w

pub record Says (v r : Verdict) : Type 0 where
  pub is : r ≡ v
  pub reply : reply_of r ≡ reply_of v
  pub second : second_of r ≡ second_of v
