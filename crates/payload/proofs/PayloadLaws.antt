-- The laws of `payload`: the ways through the test of a place and a length, what it says where it is fine, and the part and the answer of
-- its verdict.
-- Assumes nothing.
use Rattle.std.specs.Prelude.{◌≡◌, refl, Bool, true, false, List, ℕ, ◌+◌, ◌-◌, ◌≤◌, ◌<◌, leb, length, Err}
use Rattle.basis.specs.Kit.{sym, ap, ◌∙◌}
use Rattle.basis.proofs.Kit.{arith, Fits, w64}
use mir.Syntax.{w32}
use borrow.Author.Tests.{leb-true, leb-false, le-leb, lt-leb}
use Rattle.limits.specs.Figures.{most_option_bytes}
use Rattle.octets.specs.Octets.{part}
use Rattle.reply.specs.declared.Refusal.{Refusal}
use Rattle.reply.specs.declared.Refusal.TheVariants.{BadRequest, BeyondLimit}
use Rattle.reply.specs.declared.Answer.{Answer}
use Rattle.reply.specs.Verdicts.{judged, Says, Verdict, fine}
use Rattle.reply.specs.Reply.{refused_by, done_with}
use Rattle.reply.proofs.VerdictLaws.{says, first-fine-front, first-fine-rest, judged-fine}
use Rattle.field.specs.Part.{PartOf, no_bytes}
use Rattle.payload.specs.Payload.{judge_bytes, judge_payload, payload_span, payload_answer}

-- ---- check_bytes
pub bytes-said : (bs : List ℕ) (b : Bool) (r : Verdict) → b ≡ leb (length bs) most_option_bytes → r ≡ judged BeyondLimit b
    → Says (judge_bytes bs) r
unfolding judge_bytes
bytes-said bs b r p q = says _ r (q ∙ ap (judged BeyondLimit) p)

pub bytes-short : (bs : List ℕ) (r : Verdict) → Says (judge_bytes bs) r → r ≡ fine → length bs ≤ most_option_bytes
unfolding judge_bytes
bytes-short bs r k q = leb-true (length bs) most_option_bytes (judged-fine BeyondLimit (leb (length bs) most_option_bytes) (sym k.is ∙ q))

pub ruleset check_bytes_laws = bytes-said

-- ---- check_place
same_test : (at n k : ℕ) → at ≤ k → leb (at + n) k ≡ leb n (k - at)
same_test at n k h = go (leb n (k - at)) refl
  where
    go : (b : Bool) → leb n (k - at) ≡ b → leb (at + n) k ≡ b
    go true e = le-leb (at + n) k (omega (arith, leb-true n (k - at) e))
    go false e = lt-leb (at + n) k (omega (arith, leb-false n (k - at) e))

module _ (bs : List ℕ) (at n : ℕ) (v : Verdict) (q : Says (judge_bytes bs) v) where
  pub place-long : (w : Refusal) → v ≡ Err w → Err w ≡ judge_payload bs at n
  unfolding judge_payload
  place-long w g = rw (← q.is, g)

  module _ (g : v ≡ fine) where
    pub place-past : length bs < at → Err BadRequest ≡ judge_payload bs at n
    unfolding judge_payload
    place-past h = rw (← q.is, g, lt-leb (at + n) (length bs) (omega arith))

    pub place-judged : at ≤ length bs → (r : Verdict) → r ≡ judged BadRequest (leb n (length bs - at)) → r ≡ judge_payload bs at n
    unfolding judge_payload
    place-judged h r e = rw (← q.is, g, same_test at n (length bs) h) e

pub ruleset place_laws = (place-long, place-past, place-judged)

-- ---- what is fine
module _ (bs : List ℕ) (at n : ℕ) (v : Verdict) (q : v ≡ judge_payload bs at n) (g : v ≡ fine) where
  short : length bs ≤ most_option_bytes
  unfolding judge_payload judge_bytes
  short = leb-true _ _ (judged-fine BeyondLimit _ (first-fine-front (judge_bytes bs) _ (sym q ∙ g)))

  pub place_inside : at + n ≤ length bs
  unfolding judge_payload
  place_inside = leb-true _ _ (judged-fine BadRequest _ (first-fine-rest (judge_bytes bs) _ (sym q ∙ g)))

  pub place-ordered : at ≤ at + n
  place-ordered = omega arith

  pub end_fits : Fits w64 (at + n)
  end_fits = record { fits = omega (arith, place_inside, short) }

  pub length-fits : Fits w32 n
  length-fits = record { fits = omega (arith, place_inside, short) }

  -- a part of a slice starts so many bytes behind it
  pub part-inside : (b o : ℕ) → PartOf (payload_span bs at n) bs b o (part bs at (at + n)) b (at + o)
  unfolding payload_span
  part-inside b o = rw (← q, g) record { bytes = refl; block = refl; offset = omega arith }

  pub answer-done : (r : Answer) → r ≡ done_with n → r ≡ payload_answer bs at n
  unfolding payload_answer
  answer-done r e = rw (← q, g) e

-- ---- what is refused
module _ (bs : List ℕ) (at n : ℕ) (v : Verdict) (q : v ≡ judge_payload bs at n) (w : Refusal) (g : v ≡ Err w) where
  pub part-refused : (b o : ℕ) (x : List ℕ) (b' o' : ℕ) → PartOf no_bytes bs b o x b' o' → PartOf (payload_span bs at n) bs b o x b' o'
  unfolding payload_span
  part-refused b o x b' o' h = rw (← q, g) h

  pub answer-refused : (r : Answer) → r ≡ refused_by w → r ≡ payload_answer bs at n
  unfolding payload_answer
  answer-refused r e = rw (← q, g) e

pub ruleset payload_laws =
    (place_inside, place-ordered, end_fits, length-fits, part-inside, answer-done, part-refused, answer-refused)
