-- The laws of the calls: no reason is found exactly where a sheet is clean, or contained in another; and what a call answers of that.
-- Assumes nothing.
use Rattle.std.specs.Prelude.{◌≡◌, refl, Bool, true, false, ◌&&◌, List, ℕ, ◌≤◌, ◌<◌, length, Err, Option, None}
use Rattle.basis.specs.Kit.{sym, ap, ◌∙◌}
use Rattle.basis.specs.Count.{once, every}
use Rattle.basis.proofs.Kit.{lt-ltb, le-ltb}
use Rattle.field.specs.Leaf.{text, is_text}
use Rattle.limits.specs.Figures.{most_sheet}
use Rattle.reply.specs.declared.Refusal.{Refusal}
use Rattle.reply.specs.declared.Answer.{Answer}
use Rattle.reply.specs.Reply.{refused_by, decided}
use Rattle.reply.specs.Verdicts.{Says, Verdict, fine}
use Rattle.sheetform.specs.Form.{judge_sheet}
use Rattle.sheetform.proofs.SheetLaws.{fine-length, sheet-length}
use Rattle.names.specs.Names.{Named, every_declared}
use Rattle.names.specs.Numbers.{Number, numbers_of}
use Rattle.names.specs.Clean.{clean_name, members_of, named_once, clean_extendee, clean_number, clean_at, clean}
use Rattle.names.specs.Contained.{kept_number, kept_at, contained}
use Rattle.reasons.specs.declared.Why.TheVariants as why
use Rattle.reasons.specs.declared.Reason.{Reason}
use Rattle.reasons.specs.Reasons.{holds, or_no, member_flaws, member_why, number_flaw, flaw_of, clean_reason}
use Rattle.reasons.specs.Reasons.{number_loss, loss_of, contained_reason}
use Rattle.reasons.proofs.ReasonLaws.{holds-or-no, holds-also, holds-reasons, holds-reasons-from}
use Rattle.evolution.specs.declared.first.Question.{Question}
use Rattle.evolution.specs.declared.first.Question.TheVariants.{Clean, Contained}
use Rattle.evolution.specs.inner.Bearers.{first_reason, why_not}
use Rattle.evolution.specs.Calls.{clean_answer, contained_answer, why_unclean, why_uncontained}

-- ---- clean
and_assoc : (a b c : Bool) → (a && (b && c)) ≡ ((a && b) && c)
and_assoc true b c = refl
and_assoc false b c = refl

module _ (s : List ℕ) where
  number-holds : (k : ℕ) (x : Number) → holds (number_flaw s k x) ≡ clean_number s x
  number-holds k x = simp (holds-also, holds-or-no) refl

  members-hold : (k : ℕ) (b : Named) → holds (member_flaws s (member_why b.what) k (members_of b.what)) ≡ named_once s (members_of b.what)
  members-hold k b =
      let ns = members_of b.what in
      holds-reasons (λ n. or_no (once (is_text s (text s n)) ns) (member_why b.what) k n) (λ n. once (is_text s (text s n)) ns)
      (λ n. holds-or-no (once (is_text s (text s n)) ns) (member_why b.what) k n) ns

  flaw-holds : (k : ℕ) (b : Named) → holds (flaw_of s k b) ≡ clean_at s b
  flaw-holds k b =
      let numbers = holds-reasons (number_flaw s k) (clean_number s) (number-holds k) (numbers_of s b) in
      simp (holds-also, holds-or-no, members-hold k b, numbers)
      (and_assoc (clean_name s b) (named_once s (members_of b.what)) _
      ∙ and_assoc (clean_name s b && named_once s (members_of b.what)) (clean_extendee s b.what) (every (clean_number s) (numbers_of s b)))

  pub clean-holds : holds (clean_reason s) ≡ clean s
  unfolding clean
  clean-holds = holds-reasons-from (flaw_of s) (clean_at s) flaw-holds 0 (every_declared s)

-- ---- contained
module _ (s t : List ℕ) where
  loss-holds : (k : ℕ) (b : Named) → holds (loss_of s t k b) ≡ kept_at s t b
  loss-holds k b =
      let numbers = holds-reasons (number_loss s t k) (kept_number s t)
      (λ x. holds-or-no (kept_number s t x) why.NumberChanged k x.by.name) (numbers_of s b) in
      simp (holds-also, holds-or-no, numbers) refl

  pub contained-holds : holds (contained_reason s t) ≡ contained s t
  unfolding contained
  contained-holds = holds-reasons-from (loss_of s t) (kept_at s t) loss-holds 0 (every_declared s)

-- ---- the reasons
module _ (q : Question) (s t : List ℕ) where
  pub why-long : most_sheet < length s → None ≡ why_not q s t
  unfolding why_not
  why-long h = rw (lt-ltb most_sheet (length s) h) refl

  pub why-short : length s ≤ most_sheet → (r : Option Reason) → r ≡ first_reason q s t → r ≡ why_not q s t
  unfolding why_not
  why-short h r p = p ∙ rw (le-ltb most_sheet (length s) h) refl

pub ruleset why_not_laws = (why-long, why-short)

pub unclean_is : (s : List ℕ) (r : Option Reason) → r ≡ why_not Clean s s → r ≡ why_unclean s
unfolding why_not why_unclean
unclean_is s r p = p

pub uncontained_is : (s t : List ℕ) (r : Option Reason) → r ≡ why_not Contained s t → r ≡ why_uncontained s t
unfolding why_not why_uncontained
uncontained_is s t r p = p

unclean-short : (s : List ℕ) → length s ≤ most_sheet → why_unclean s ≡ clean_reason s
unfolding why_unclean
unclean-short s h = rw (le-ltb most_sheet (length s) h) refl

uncontained-short : (s t : List ℕ) → length s ≤ most_sheet → why_uncontained s t ≡ contained_reason s t
unfolding why_uncontained
uncontained-short s t h = rw (le-ltb most_sheet (length s) h) refl

-- ---- the calls
module _ (s : List ℕ) (v : Verdict) (q : Says (judge_sheet s) v) where
  pub clean-refused : (w : Refusal) → v ≡ Err w → (a : Answer) → a ≡ refused_by w → a ≡ clean_answer s
  clean-refused w g a u = u ∙ rw (sym q.is ∙ g) refl

  short : v ≡ fine → length s ≤ most_sheet
  short g = fine-length s (sheet-length s (sym q.is ∙ g))

  pub clean-asked : v ≡ fine → (r : Option Reason) → r ≡ why_unclean s → (b : Bool) → b ≡ holds r → (a : Answer) → a ≡ decided b
      → a ≡ clean_answer s
  clean-asked g r p b h a u = u ∙ rw (sym q.is ∙ g) (ap decided (h ∙ ap holds (p ∙ unclean-short s (short g)) ∙ clean-holds s))

pub ruleset clean_laws = (clean-refused, clean-asked)

module _ (s t : List ℕ) (v : Verdict) (q : Says (judge_sheet s) v) where
  pub older-refused : (w : Refusal) → v ≡ Err w → (a : Answer) → a ≡ refused_by w → a ≡ contained_answer s t
  older-refused w g a u = u ∙ rw (sym q.is ∙ g) refl

  module _ (g : v ≡ fine) (v' : Verdict) (q' : Says (judge_sheet t) v') where
    pub newer-refused : (w : Refusal) → v' ≡ Err w → (a : Answer) → a ≡ refused_by w → a ≡ contained_answer s t
    newer-refused w g' a u = u ∙ rw (sym q.is ∙ g, sym q'.is ∙ g') refl

    pub contained-asked : v' ≡ fine → (r : Option Reason) → r ≡ why_uncontained s t → (b : Bool) → b ≡ holds r → (a : Answer) → a ≡ decided b
        → a ≡ contained_answer s t
    contained-asked g' r p b h a u =
        u ∙ rw (sym q.is ∙ g, sym q'.is ∙ g') (ap decided (h ∙ ap holds (p ∙ uncontained-short s t (short s v q g)) ∙ contained-holds s t))

pub ruleset contained_laws = (older-refused, newer-refused, contained-asked)
