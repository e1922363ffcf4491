-- What the call `payload` hands back: of a place and a length inside the option bytes that part, of others none.
-- Assumes nothing.
use Rattle.std.specs.Prelude.{◌≡◌, List, ℕ, ◌+◌, ◌≤◌, ◌<◌, length, Err}
use Rattle.basis.specs.Kit.{sym, ap, ◌∙◌}
use borrow.Author.Tests.{le-leb, lt-leb}
use Rattle.limits.specs.Figures.{most_option_bytes}
use Rattle.reply.specs.declared.Refusal.TheVariants.{BadRequest, BeyondLimit}
use Rattle.reply.specs.Verdicts.{answer_for, Verdict, fine}
use Rattle.reply.specs.Reply.{refused_by, done_with}
use Rattle.field.specs.declared.Span.{Span}
use Rattle.field.specs.Leaf.{span}
use Rattle.field.specs.Part.{PartOf, no_bytes}
use Rattle.payload.specs.Payload.{judge_bytes, judge_payload, span_for, payload_span, payload_answer}

module _ (bs : List ℕ) (at n : ℕ) where
  judged-inside : length bs ≤ most_option_bytes → at + n ≤ length bs → judge_payload bs at n ≡ fine
  unfolding judge_payload judge_bytes
  judged-inside few h = rw (le-leb (length bs) most_option_bytes few, le-leb (at + n) (length bs) h)

  judged-outside : length bs ≤ most_option_bytes → length bs < at + n → judge_payload bs at n ≡ Err BadRequest
  unfolding judge_payload judge_bytes
  judged-outside few h = rw (le-leb (length bs) most_option_bytes few, lt-leb (at + n) (length bs) h)

  judged-long : most_option_bytes < length bs → judge_payload bs at n ≡ Err BeyondLimit
  unfolding judge_payload judge_bytes
  judged-long h = rw (lt-leb (length bs) most_option_bytes h)

  -- the part and the answer of a verdict on place and length
  handed : (v : Verdict) → judge_payload bs at n ≡ v → (payload_span bs at n ≡ span_for at n v) × (payload_answer bs at n ≡ answer_for n v)
  unfolding payload_span payload_answer
  handed v e = (ap (span_for at n) e, ap (answer_for n) e)

  -- ==== the statements
  -- A place and a length inside give that part, and 0 with its length,
  pub payload-inside : length bs ≤ most_option_bytes → at + n ≤ length bs
      → (payload_span bs at n ≡ span at (at + n)) × (payload_answer bs at n ≡ done_with n)
  payload-inside few h = handed fine (judged-inside few h)

  -- others an empty part, and 2,
  pub payload-outside : length bs ≤ most_option_bytes → length bs < at + n
      → (payload_span bs at n ≡ no_bytes) × (payload_answer bs at n ≡ refused_by BadRequest)
  payload-outside few h = handed (Err BadRequest) (judged-outside few h)

  -- over-long bytes an empty part, and 3.
  pub payload-long : most_option_bytes < length bs → (payload_span bs at n ≡ no_bytes) × (payload_answer bs at n ≡ refused_by BeyondLimit)
  payload-long h = handed (Err BeyondLimit) (judged-long h)

-- Any two parts that the contract allows are the same bytes in the same place.
pub part-unique : (p : Span) (s : List ℕ) (b o : ℕ) (t t' : List ℕ) (b' b'' o' o'' : ℕ) → PartOf p s b o t b' o' → PartOf p s b o t' b'' o''
    → (t ≡ t') × (b' ≡ b'') × (o' ≡ o'')
part-unique p s b o t t' b' b'' o' o'' k k' =
    (k.bytes ∙ sym k'.bytes, k.block ∙ sym k'.block, k.offset ∙ sym k'.offset)
