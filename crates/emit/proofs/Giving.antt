-- The words of an answer that are known beforehand: copied to the front of the lent memory, where there is room for them.
-- Assumes nothing.
use Rattle.std.specs.Prelude.{◌≡◌, refl, List, ℕ, ◌≤◌, ◌<◌, length}
use borrow.Rule.Slice.PartMut.{put_mid}
use Rattle.reply.specs.declared.Refusal.TheVariants.{NoRoom}
use Rattle.reply.specs.declared.Answer.{Answer}
use Rattle.reply.specs.Reply.{refused_by, done_with}
use Rattle.reply.specs.Outcome.{give, Answered}
use Rattle.reply.proofs.Outcomes.{answered-no-room, answered-done}

module _ (words before : List ℕ) (r : Answer) where
  pub given-all : length words ≤ length before → (k : ℕ) (q : List ℕ) → k ≡ length words → q ≡ words → r ≡ done_with (length words)
      → Answered (give words) before (put_mid 0 k before q) r
  given-all h k q e p a = rw (e, p, a) (answered-done (give words) before words refl h)

  pub given-no-room : length before < length words → r ≡ refused_by NoRoom → Answered (give words) before before r
  given-no-room h a = rw a (answered-no-room (give words) before words refl h)

pub ruleset giving_laws = (given-all, given-no-room)
