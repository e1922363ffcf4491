-- The demands that hold of every call and of every sheet, from what is proved of each.
-- Assumes nothing.
use Rattle.std.specs.Prelude.{◌≡◌, refl, Bool, true, false, List, ℕ, ltb, length}
use borrow.Author.Tests.{ltb-true, ltb-false}
use Rattle.limits.specs.Figures.{most_levels}
use Rattle.reply.specs.declared.Refusal.TheVariants.{NoRoom}
use Rattle.reply.specs.declared.Answer.{Answer}
use Rattle.reply.specs.Outcome.{Outcome, refuse, nothing, give, answer_of, left_of, Answered}
use Rattle.reply.specs.Outcome as outcome
use Rattle.search.proofs.Theorems.{tried-answers, answers-tried}
use Rattle.lookups.specs.Lookups.{walking}
use Rattle.places.proofs.Resolved.{positioned, first-refused, part-refused}
use Rattle.places.proofs.Queried.{query-placed}
use Rattle.readback.proofs.UnderLaws.{under-reading}
use Rattle.readback.proofs.EncodedLaws.{reading-encoded}
use Rattle.readback.proofs.KnowsLaws.{reading-knows}
use Rattle.promises.specs.Demands.{FromTable, refused, absent, done, no_room, ByRule}
use Rattle.promises.proofs.BackLaws.{resolved-reads-back}
use Rattle.promises.proofs.Theorems.{part-not-found, part-undeclared}

module _ {A : Type 0} (before after : List A) (a : Answer) where
  in-room : (l : List A) (b : Bool) → ltb (length before) (length l) ≡ b
      → a ≡ answer_of {A = A} (elim b [ true ↦ refuse NoRoom | false ↦ give l ])
      → after ≡ left_of (elim b [ true ↦ refuse NoRoom | false ↦ give l ]) before → FromTable (give l) before after a
  in-room l true h p q = no_room l refl (ltb-true (length before) (length l) h) p q
  in-room l false h p q = done l refl (ltb-false (length before) (length l) h) p q

  pub from-table : (o : Outcome A) → Answered o before after a → FromTable o before after a
  from-table (outcome.refused c) k = refused c refl k.answer k.left
  from-table nothing k = absent refl k.answer k.left
  from-table (give l) k = in-room l (ltb (length before) (length l)) refl k.answer k.left

pub by-rule : (s : List ℕ) → ByRule s
by-rule s = record {
  looked-up-only = λ scope name c e. tried-answers s scope name c e;
  looked-up-whenever = λ scope name h c a. answers-tried s scope name h c a;
  written = λ r b c x e. resolved-reads-back s r b c x e;
  listed = λ type bs m t e.
      let read = under-reading (walking s) s type bs m t e in
      (reading-encoded bs (walking s) s most_levels m t read, reading-knows (walking s) s most_levels m 0 bs t read);
  not-found-only = λ r scope m p x h l e w. part-not-found s r scope m p x h l e w;
  not-found-whenever = λ r scope m p x h. part-undeclared s r scope m p x h;
  positioned = λ r before after a k. positioned s r before after a k;
  first-refused = λ r before after a k o. first-refused s r before after a k o;
  part-refused = λ r before after a k o. part-refused s r before after a k o;
  query-placed = λ type q bs before after a k. query-placed s type q bs before after a k;
}
