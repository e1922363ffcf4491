-- What is refused nowhere, if at all: the ways to an outcome, and that its answer has neither position.
-- Assumes nothing.
use Rattle.std.specs.Prelude.{◌≡◌, refl, Bool, true, false, List, ℕ, ltb, length, Err, Ok}
use Rattle.basis.specs.Kit.{sym, ap, ◌∙◌}
use Rattle.basis.proofs.Never.{never}
use Rattle.reply.specs.declared.Refusal.{Refusal}
use Rattle.reply.specs.declared.Refusal.TheVariants.{NoRoom}
use Rattle.reply.specs.declared.Where.TheVariants.{Nowhere}
use Rattle.reply.specs.declared.Cause.{Cause}
use Rattle.reply.specs.declared.Answer.{Answer}
use Rattle.reply.specs.Reply.{positions, bare, refused_for}
use Rattle.reply.specs.Outcome.{Outcome, refused, refuse, unless, nothing, give, push, within, answer_of, Answered}
use Rattle.places.specs.Places.{Bare, Neither}
use Rattle.reply.specs.Verdicts.{Verdict}

module _ {A : Type 0} where
  pub bare-refuse : (w : Refusal) → Bare {A = A} (refuse w)
  bare-refuse w c e = let y : bare w ≡ c = cc in sym (ap (λ (z : Cause). z.place) y)

  pub bare-nothing : Bare {A = A} nothing
  bare-nothing c e = never cc

  pub bare-give : (l : List A) → Bare (give l)
  bare-give l c e = never cc

  pub bare-push : (front : List A) (o : Outcome A) → Bare o → Bare (push front o)
  bare-push front (refused w) h c e = h c e
  bare-push front nothing h c e = never cc
  bare-push front (give l) h c e = never cc

  pub bare-unless : (v : Verdict) (o : Outcome A) → Bare o → Bare (unless v o)
  bare-unless (Ok _) o h = h
  bare-unless (Err w) o h = bare-refuse w

  -- of two, whichever a test says
  pub bare-either : (b : Bool) {x y : Outcome A} → Bare x → Bare y → Bare {A = A} (elim b [ true ↦ x | false ↦ y ])
  bare-either true h k = h
  bare-either false h k = k

-- ---- what is refused nowhere has neither position
place-numbers : (c : Cause) → c.place ≡ Nowhere → Neither (refused_for c)
place-numbers c e = (ap (λ p. (positions p).option) e, ap (λ p. (positions p).part) e)

module _ {A : Type 0} where
  room-nowhere : (l : List A) (b : Bool)
      → Neither (answer_of {A = A} (elim b [ true ↦ refuse NoRoom | false ↦ give l ]))
  room-nowhere l true = (refl, refl)
  room-nowhere l false = (refl, refl)

  bare-answer : (o : Outcome A) → Bare o → (room : ℕ) → Neither (answer_of (within room o))
  bare-answer (refused c) h room = place-numbers c (h c refl)
  bare-answer nothing h room = (refl, refl)
  bare-answer (give l) h room = room-nowhere l (ltb room (length l))

  pub bare-nowhere : {o : Outcome A} {before after : List A} {a : Answer} → Answered o before after a → Bare o
      → Neither a
  bare-nowhere {o} {before} k h =
      let y = bare-answer o h (length before) in
      (ap (λ (x : Answer). x.option) k.answer ∙ y.0, ap (λ (x : Answer). x.part) k.answer ∙ y.1)
