-- The laws of `options_message`, `list_tested` and `list`: the first fault of the inputs, the message that the options type is, and that
-- the words of its rows are the listing; and that of a sheet of the right form the whole test says no more than its length's.
-- Assumes nothing.
use Rattle.std.specs.Prelude.{◌≡◌, refl, List, ℕ, ◌≤◌, length, Err, Ok, Result}
use Rattle.basis.specs.Kit.{sym, ap, ◌∙◌}
use borrow.Author.Tests.{leb-true}
use Rattle.limits.specs.Figures.{most_option_bytes, most_levels}
use Rattle.reply.specs.declared.Refusal.{Refusal}
use Rattle.reply.specs.declared.Refusal.TheVariants.{BeyondLimit}
use Rattle.reply.specs.declared.Answer.{Answer}
use Rattle.reply.specs.Reply.{bare, refused_by as refused_answer}
use Rattle.reply.specs.Outcome.{refuse, unless, Answered}
use Rattle.reply.proofs.Outcomes.{answered-refused}
use Rattle.reply.proofs.VerdictLaws.{first-fine-rest, judged-fine}
use Rattle.sheetform.specs.Form.{judge_length, judge_sheet}
use Rattle.sheetform.proofs.SheetLaws.{sheet-length}
use Rattle.requestform.specs.Form.{judge_options_type}
use Rattle.scope.specs.declared.lookup.LookupScope.{LookupScope}
use Rattle.scope.specs.inner.Answers.{InSheet}
use Rattle.lookups.specs.Lookups.{Message, walking}
use Rattle.lookups.proofs.LookupLaws.{message-lies}
use Rattle.lookups.proofs.AdmitLaws.{Admits, admits, admits-none}
use Rattle.payload.specs.Payload.{judge_bytes}
use Rattle.entries.specs.Reading.{Listed, listed as read, refused as unread, reading, records_of, within, on_type}
use Rattle.entries.specs.inner.Fronts.{message}
use Rattle.levels.specs.inner.Left.{flat}
use Rattle.listing.specs.Listing.{judge_inputs, listed, listing_by, listing, listing_tested}
use Rattle.listing.specs.inner.Worded.{worded}
use Rattle.listing.specs.inner.Admitted.{admitted}
use Rattle.reply.specs.Verdicts.{Verdict, fine}

-- ---- options_message
module _ (s type bs : List ℕ) (u : Verdict) (x : u ≡ judge_length s) where
  pub message-long : (w : Refusal) → u ≡ Err w → Err w ≡ admitted (judge_length s) s type bs
  unfolding admitted judge_inputs
  message-long w h = rw (← x, h)

  module _ (h : u ≡ fine) (v : Verdict) (q : v ≡ judge_options_type type) where
    pub message-bad-type : (w : Refusal) → v ≡ Err w → Err w ≡ admitted (judge_length s) s type bs
    unfolding admitted judge_inputs
    message-bad-type w g = rw (← x, h, ← q, g)

    module _ (g : v ≡ fine) (v' : Verdict) (q' : v' ≡ judge_bytes bs) where
      pub message-long-bytes : (w : Refusal) → v' ≡ Err w → Err w ≡ admitted (judge_length s) s type bs
      unfolding admitted judge_inputs
      message-long-bytes w g' = rw (← x, h, ← q, g, ← q', g')

      pub message-is : v' ≡ fine → (r : Result LookupScope Refusal) → r ≡ (walking s).message type → r ≡ admitted (judge_length s) s type bs
      unfolding admitted judge_inputs
      message-is g' r y = rw (← x, h, ← q, g, ← q', g') y

pub ruleset message_laws = (message-long, message-bad-type, message-long-bytes, message-is)

-- ---- the words of the rows are the listing
within-worded : (m : Message) (x : Listed) → listed (within m x) ≡ worded (flat 0 x)
within-worded m (read t) = refl
within-worded m (unread w) = refl

module _ (v : Verdict) (s type bs : List ℕ) where
  listing-rows : (p : LookupScope) → admitted v s type bs ≡ Ok p
      → listing_by v s type bs ≡ worded (flat 0 (reading (walking s) s most_levels (message type p) 0 bs))
  unfolding listing_by records_of admitted
  listing-rows p h =
      let k = admits s type (judge_inputs v type bs) p h in
      ap (λ u. unless u (listed (records_of (walking s) s type bs))) k.fine
      ∙ ap (λ u. listed (on_type (walking s) s type bs u)) k.is
      ∙ within-worded (message type p) (reading (walking s) s most_levels (message type p) 0 bs)

  listing_none : (w : Refusal) → admitted v s type bs ≡ Err w → listing_by v s type bs ≡ refuse w
  unfolding listing_by records_of admitted
  listing_none w h = admits-none s type (judge_inputs v type bs) w h (λ u. listed (on_type (walking s) s type bs u)) (λ x. refl)

-- ---- list_tested
module _ (s type bs : List ℕ) (r : Result LookupScope Refusal) (q : r ≡ admitted (judge_length s) s type bs) where
  pub tested-refused : (w : Refusal) → r ≡ Err w → (l : List ℕ) (a : Answer) → a ≡ refused_answer w
      → Answered (listing_tested s type bs) l l a
  tested-refused w g l a e = rw e (answered-refused _ l (bare w) (listing_none (judge_length s) s type bs w (sym q ∙ g)))

  module _ (p : LookupScope) (g : r ≡ Ok p) where
    admitting : Admits (judge_inputs (judge_length s) type bs) s type p
    unfolding admitted
    admitting = admits s type (judge_inputs (judge_length s) type bs) p (sym q ∙ g)

    pub tested-inside : InSheet s p
    tested-inside = message-lies s type ((walking s).message type) refl p admitting.is

    pub tested-short : length bs ≤ most_option_bytes
    unfolding judge_inputs judge_bytes
    tested-short =
        leb-true _ _
        (judged-fine BeyondLimit _ (first-fine-rest (judge_options_type type) _ (first-fine-rest (judge_length s) _ admitting.fine)))

    pub tested-listed : (l l' : List ℕ) (a : Answer)
        → Answered (worded (flat 0 (reading (walking s) s most_levels (message type p) 0 bs))) l l' a
        → Answered (listing_tested s type bs) l l' a
    tested-listed l l' a h = rw (listing-rows (judge_length s) s type bs p (sym q ∙ g)) h

pub ruleset list_tested_laws = (tested-refused, tested-inside, tested-short, tested-listed)

-- ---- `list` answers as `list_tested` does, of every sheet whose form is fine
pub list-tested : (s type bs : List ℕ) → judge_sheet s ≡ fine → listing s type bs ≡ listing_tested s type bs
list-tested s type bs h = ap (λ v. listing_by v s type bs) (h ∙ sym (sheet-length s h))

module _ (s type bs : List ℕ) (v : Verdict) (q : v ≡ judge_sheet s) (l : List ℕ) (a : Answer) where
  pub list-refused : (w : Refusal) → v ≡ Err w → a ≡ refused_answer w → Answered (listing s type bs) l l a
  unfolding listing_by judge_inputs
  list-refused w g e = rw e (answered-refused _ l (bare w) (rw (← q, g)))

  pub list-listed : v ≡ fine → (l' : List ℕ) → Answered (listing_tested s type bs) l l' a → Answered (listing s type bs) l l' a
  list-listed g l' h = rw (list-tested s type bs (sym q ∙ g)) h

pub ruleset list_laws = (list-refused, list-listed)
