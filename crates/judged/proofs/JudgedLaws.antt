-- What is answered of a verdict in a room is what a public call's contract asks: the ways through `answer_in`, and the answers of whoever
-- writes only where there is room.
-- Assumes nothing.
use Rattle.std.specs.Prelude.{◌≡◌, refl, Bool, true, false, List, ◌++◌, ℕ, ◌≤◌, ◌<◌, ltb, length, take, drop, Err, None, Some, Ok, Option, Result}
use Rattle.basis.specs.Kit.{sym, ap, ◌∙◌, sets}
use Rattle.basis.proofs.Kit.{arith, lt-ltb, le-ltb}
use mathlib.Core.List.{append-nil}
use native.Mathlib.Decide.{dec_lt}
use lib.Seq.{length-take-le, drop-length}
use Rattle.basis.proofs.Never.{never}
use Rattle.reply.specs.declared.Refusal.TheVariants.{NoRoom}
use Rattle.reply.specs.declared.Cause.{Cause}
use Rattle.reply.specs.declared.Answer.{Answer}
use Rattle.reply.specs.Reply.{refused_for, refused_by, done_with, absent_answer}
use Rattle.reply.specs.Outcome.{Outcome, refuse, give, within, answer_of, left_of, Answered}
use Rattle.reply.proofs.Outcomes.{answered-no-room, answered-done}
use Rattle.octets.proofs.Overlay.{sets-out}
use Rattle.emit.proofs.WriteLaws.{sets-front}
use Rattle.judged.specs.inner.Answering.{Judges, fine, absent, refuses, answer_in}

-- ---- answer_in
module _ (room : ℕ) (v : Result (Option ℕ) Cause) (a : Answer) where
  pub answer-absent : v ≡ Ok None → a ≡ absent_answer → a ≡ answer_in room v
  unfolding answer_in
  answer-absent g e = rw g e

  pub answer-refused : (w : Cause) → v ≡ Err w → a ≡ refused_for w → a ≡ answer_in room v
  unfolding answer_in
  answer-refused w g e = rw g e

  module _ (n : ℕ) (g : v ≡ Ok (Some n)) where
    pub answer-no-room : room < n → a ≡ refused_by NoRoom → a ≡ answer_in room v
    unfolding answer_in
    answer-no-room h e = rw g (simp (answer_in, lt-ltb _ _ h) e)

    pub answer-done : n ≤ room → a ≡ done_with n → a ≡ answer_in room v
    unfolding answer_in
    answer-done h e = rw g (simp (answer_in, le-ltb _ _ h) e)

pub ruleset answer_laws = (answer-absent, answer-refused, answer-no-room, answer-done)

-- ---- whatever the outcome is on which this is the verdict, the answer is its own
pub answer-in : {o : Outcome ℕ} {v : Result (Option ℕ) Cause} → Judges o v → (room : ℕ) → answer_in room v ≡ answer_of (within room o)
unfolding answer_in
answer-in (fine bytes) room = go (ltb room (length bytes))
  where
    go : (b : Bool) → elim b [ true ↦ refused_by NoRoom | false ↦ done_with (length bytes) ]
        ≡ answer_of {A = ℕ} (elim b [ true ↦ refuse NoRoom | false ↦ give bytes ])
    go true = refl
    go false = refl
answer-in absent room = refl
answer-in (refuses e) room = refl

-- ---- the contract of a public call: what is not given has nothing written, and of the bytes there is as much room as the answer says
module _ {o : Outcome ℕ} {before : List ℕ} (a : Answer) where
  pub judged-absent : Judges o (Ok None) → a ≡ answer_in (length before) (Ok None) → Answered o before before a
  judged-absent k e = record { answer = e ∙ answer-in k (length before); left = go k refl }
    where
      go : {p : Outcome ℕ} {v : Result (Option ℕ) Cause} → Judges p v → v ≡ Ok None → before ≡ left_of (within (length before) p) before
      go absent g = refl
      go (fine bytes) g = never cc
      go (refuses w) g = never cc

  pub judged-refused : (w : Cause) → Judges o (Err w) → a ≡ answer_in (length before) (Err w) → Answered o before before a
  judged-refused w k e = record { answer = e ∙ answer-in k (length before); left = go k refl }
    where
      go : {p : Outcome ℕ} {v : Result (Option ℕ) Cause} → Judges p v → v ≡ Err w → before ≡ left_of (within (length before) p) before
      go absent g = never cc
      go (fine bytes) g = never cc
      go (refuses w) g = refl

module _ (a : Answer) (room n : ℕ) (e : a ≡ answer_in room (Ok (Some n))) where
  no-room-is : room < n → a ≡ refused_by NoRoom
  no-room-is h = e ∙ sym (answer-no-room room (Ok (Some n)) (refused_by NoRoom) n refl h refl)

  done-is : n ≤ room → a ≡ done_with n
  done-is h = e ∙ sym (answer-done room (Ok (Some n)) (done_with n) n refl h refl)

  no-room-length : room < n → a.length ≡ 0
  no-room-length h = ap (λ (y : Answer). y.length) (no-room-is h)

  done-length : n ≤ room → a.length ≡ n
  done-length h = ap (λ (y : Answer). y.length) (done-is h)

  pub granted-within : a.length ≤ room
  granted-within = elim (dec_lt room n) [
    | yes h ↦ omega (arith, no-room-length h)
    | no h ↦ omega (arith, done-length (omega arith))
  ]

module _
    (o : Outcome ℕ) (before bytes : List ℕ) (g : o ≡ give bytes) (n : ℕ) (k : n ≡ length bytes)
    (a : Answer) (e : a ≡ answer_in (length before) (Ok (Some n))) (z : List ℕ) where
  pub judged-written : z ≡ sets (take a.length before) 0 bytes → Answered o before (z ++ drop a.length before) a
  judged-written w = elim (dec_lt (length before) n) [
    | yes h ↦
        let y = no-room-length a (length before) n e h in
        let none : length (take 0 before) ≤ 0 = omega (arith, length-take-le 0 before (omega arith)) in
        let still : z ++ drop a.length before ≡ before = rw (w, y, sets-out bytes (take 0 before) 0 none) refl in
        let no : length before < length bytes = omega (arith, k, h) in
        rw (still, no-room-is a (length before) n e h) (answered-no-room o before bytes g no)
    | no h ↦
        let room : length bytes ≤ length before = omega (arith, k, h) in
        let y : a.length ≡ length bytes = done-length a (length before) n e (omega (arith, h)) ∙ k in
        let put : z ++ drop a.length before ≡ bytes ++ drop (length bytes) before =
        rw (w, y) (ap (λ (x : List ℕ). x ++ drop (length bytes) before) (laid-over room)) in
        rw (put, done-is a (length before) n e (omega (arith, h)) ∙ ap done_with k)
        (answered-done o before bytes g room)
  ]
    where
      laid-over : length bytes ≤ length before → sets (take (length bytes) before) 0 bytes ≡ bytes
      laid-over room =
          let part = take (length bytes) before in
          let size : length (take (length bytes) before) ≡ length bytes = length-take-le (length bytes) before room in
          sets-front bytes part (omega (arith, size))
          ∙ ap (λ (x : List ℕ). bytes ++ x) (ap (λ (m : ℕ). drop m part) (sym size) ∙ drop-length part) ∙ append-nil bytes
