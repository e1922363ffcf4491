-- Option bytes as an input, and the call `payload`, from 01's "Listing and lowering".
--
--           judge_bytes bs == whether option bytes are over-long
--    judge_payload bs at n == the first fault of the option bytes and of a place and a length in them
--     payload_span bs at n == where the payload stands; no bytes at the start where it is refused
--   payload_answer bs at n == the answer beside it
--
-- Assumes nothing.
use Rattle.std.specs.Prelude.{List, ℕ, ◌+◌, leb, length, Err, Ok}
use Rattle.limits.specs.Figures.{most_option_bytes}
use Rattle.reply.specs.declared.Refusal.TheVariants.{BadRequest, BeyondLimit}
use Rattle.reply.specs.declared.Answer.{Answer}
use Rattle.reply.specs.Verdicts.{first_fault, judged, answer_for, Verdict}
use Rattle.field.specs.declared.Span.{Span}
use Rattle.field.specs.Leaf.{span}
use Rattle.field.specs.Part.{no_bytes}

-- "option bytes to read 65,536" [LIMIT-1]
unfoldable pub judge_bytes : List ℕ → Verdict
judge_bytes bs = judged BeyondLimit (leb (length bs) most_option_bytes)

-- "a place and length outside them are 2, with an empty part" [PAYLOAD-2, PAYLOAD-3]
unfoldable pub judge_payload : (bs : List ℕ) (at size : ℕ) → Verdict
judge_payload bs at n = first_fault (judge_bytes bs) (judged BadRequest (leb (at + n) (length bs)))

-- "The payload of a length-delimited record comes back as a part of the option bytes" [PAYLOAD-1]
abbrev pub span_for : (at size : ℕ) → Verdict → Span
span_for at n (Ok _) = span at (at + n)
span_for at n (Err w) = no_bytes

unfoldable pub payload_span : (bs : List ℕ) (at size : ℕ) → Span
payload_span bs at n = span_for at n (judge_payload bs at n)

unfoldable pub payload_answer : (bs : List ℕ) (at size : ℕ) → Answer
payload_answer bs at n = answer_for n (judge_payload bs at n)
