-- What `find` answers, each statement below its sentence. `s` is the sheet, `c` the scope, `p` the path; what is fine has passed the form.
-- Assumes nothing.
use Rattle.std.specs.Prelude.{◌≡◌, refl, true, List, ℕ, Err, Ok, Result}
use Rattle.basis.specs.Kit.{sym, ap, ◌∙◌}
use Rattle.basis.proofs.Never.{never}
use Rattle.path.specs.Path.{Path, is_path}
use Rattle.candidates.specs.Candidates.{candidates}
use Rattle.reply.specs.declared.Refusal.{Refusal}
use Rattle.reply.specs.declared.Refusal.TheVariants.{BadRequest, ExtensionNotFound}
use Rattle.reply.specs.Verdicts.{first_fault, fine}
use Rattle.reply.specs.Outcome.{refuse, give}
use Rattle.reply.proofs.Outcomes.{refuse-inv}
use Rattle.reply.proofs.VerdictLaws.{first-fine-rest, judged-fine}
use Rattle.sheetform.specs.Form.{judge_sheet}
use Rattle.requestform.specs.Form.{judge_scope, judge_path}
use Rattle.search.specs.declared.extension.Found.{Found}
use Rattle.search.specs.Lookup.{find_extension_by_path}
use Rattle.basis.specs.Among.{Among}
use Rattle.search.specs.Answers.{Undeclared, Answers}
use Rattle.search.proofs.Theorems.{nowhere-none, none-nowhere, found-answers}
use Rattle.search.proofs.Theorems.{refused-not-found as search-refuses}
use Rattle.find.specs.Find.{judge_all, finding_by, words_of, worded, find_words, find_tested}
use Rattle.find.proofs.FindingLaws.{words-tested}

-- ---- what a fine input comes to
module _ (s c p : List ℕ) (h : judge_all (judge_sheet s) c p ≡ fine) where
  words_open : find_words s c p ≡ worded (find_extension_by_path s c p)
  unfolding find_words finding_by
  words_open = rw h

  path-form : is_path p ≡ true
  unfolding judge_all judge_path
  path-form =
      judged-fine BadRequest (is_path p)
      (first-fine-rest (judge_scope c) (judge_path p) (first-fine-rest (judge_sheet s) (first_fault (judge_scope c) (judge_path p)) h))

  -- The answer 4 is given exactly when no scope at a candidate path declares the name:
  pub not-found-none : find_words s c p ≡ refuse ExtensionNotFound → (q : Path) → Among q (candidates c p) → Undeclared s q
  not-found-none e = nowhere-none s c p path-form (go (find_extension_by_path s c p) (sym words_open ∙ e))
    where
      go : (r : Result Found Refusal) → worded r ≡ refuse ExtensionNotFound → r ≡ Err ExtensionNotFound
      go (Err w) x = ap Err (refuse-inv w ExtensionNotFound x)
      go (Ok f) x = never cc

  pub none-not-found : ((q : Path) → Among q (candidates c p) → Undeclared s q) → find_words s c p ≡ refuse ExtensionNotFound
  none-not-found k = words_open ∙ ap worded (none-nowhere s c p k)

  -- it is the only refusal then,
  pub refused-not-found : (w : Refusal) → find_words s c p ≡ refuse w → w ≡ ExtensionNotFound
  refused-not-found w e = go (find_extension_by_path s c p) refl (sym words_open ∙ e)
    where
      go : (r : Result Found Refusal) → find_extension_by_path s c p ≡ r → worded r ≡ refuse w → w ≡ ExtensionNotFound
      go (Err x) q y = search-refuses s c p w (q ∙ ap Err (refuse-inv x w y))
      go (Ok f) q y = never cc

  -- and else the words are those of the extension that answers.
  pub found-words : (f : Found) → find_extension_by_path s c p ≡ Ok f → find_words s c p ≡ give (words_of f)
  found-words f e = words_open ∙ ap worded e

  pub found_first : (f : Found) → find_extension_by_path s c p ≡ Ok f → Answers s c p f
  found_first = found-answers s c p

-- ---- "Inputs in the order a call names them, the sheet first, each by .. the first fault from the front": a fault of form is the answer,
-- whatever the search would find
pub form-first : (s c p : List ℕ) (w : Refusal) → judge_all (judge_sheet s) c p ≡ Err w → find_words s c p ≡ refuse w
unfolding find_words finding_by
form-first s c p w h = rw h

-- ---- `find_tested` answers as `find` does, of every sheet whose form is fine
pub find-tested : (s c p : List ℕ) → judge_sheet s ≡ fine → find_words s c p ≡ find_tested s c p
find-tested = words-tested
