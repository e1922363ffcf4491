-- Closed cases of `payload`, which the checker computes: of each rule one that holds, one at the limit, one refused just past it.
-- Assumes nothing.
use Rattle.std.specs.Prelude.{◌≡◌, refl, List, [], ◌∷◌, map, ℕ, ◌-◌, ◌^◌}
use lib.ListN.{replicate}
use Rattle.reply.specs.declared.Refusal.TheVariants.{BadRequest, BeyondLimit}
use Rattle.reply.specs.declared.Answer.{Answer}
use Rattle.reply.specs.Reply.{refused_by, done_with}
use Rattle.field.specs.declared.Span.{Span}
use Rattle.field.specs.Leaf.{span}
use Rattle.field.specs.Part.{no_bytes}
use Rattle.payload.specs.Payload.{judge_bytes, judge_payload, payload_span, payload_answer}

record Handed : Type 0 where
  place : Span
  answer : Answer

abbrev hands : Span → Answer → Handed
hands p a = record { place = p; answer = a }

-- a place and a length in option bytes, here five of them
record Asked : Type 0 where
  from : ℕ
  size : ℕ

abbrev asks : ℕ → ℕ → Asked
asks at n = record { from = at; size = n }

payload_of : List ℕ → Asked → Handed
unfolding payload_span payload_answer judge_payload judge_bytes
payload_of bs a = hands (payload_span bs a.from a.size) (payload_answer bs a.from a.size)

-- inside, all of them, at the end with no length, at the start likewise; a byte past the end, a place past the end, and a place and a
-- length whose sum passes the largest number
payloads :
    map (payload_of (0x52 ∷ 0x03 ∷ 7 ∷ 8 ∷ 9 ∷ []))
    (asks 2 3 ∷ asks 0 5 ∷ asks 5 0 ∷ asks 0 0 ∷ asks 2 4 ∷ asks 6 0 ∷ asks (2 ^ 64 - 1) 1 ∷ asks 1 (2 ^ 64 - 1) ∷ [])
    ≡ hands (span 2 5) (done_with 3)
    ∷ hands (span 0 5) (done_with 5)
    ∷ hands (span 5 5) (done_with 0)
    ∷ hands (span 0 0) (done_with 0)
    ∷ hands no_bytes (refused_by BadRequest)
    ∷ hands no_bytes (refused_by BadRequest)
    ∷ hands no_bytes (refused_by BadRequest)
    ∷ hands no_bytes (refused_by BadRequest)
    ∷ []
unfolding payload_of
payloads = refl

-- 65,536 bytes are taken and 65,537 are not; over-long bytes come before a place outside them
longest : map (payload_of (replicate 65536 0)) (asks 65530 6 ∷ asks 65530 7 ∷ [])
    ≡ hands (span 65530 65536) (done_with 6) ∷ hands no_bytes (refused_by BadRequest) ∷ []
unfolding payload_of
longest = refl

too_long : map (payload_of (replicate 65537 0)) (asks 0 1 ∷ asks 65537 1 ∷ [])
    ≡ hands no_bytes (refused_by BeyondLimit) ∷ hands no_bytes (refused_by BeyondLimit) ∷ []
unfolding payload_of
too_long = refl
