-- The laws of `finding_tested`: the first fault of the sheet's length, the scope and the path, and else what the search finds; what is
-- known of the scope and the path that it is given; and that of a sheet of the right form the whole test says no more than its length's.
-- Assumes nothing.
use Rattle.std.specs.Prelude.{◌≡◌, true, List, ℕ, Err, Result}
use Rattle.basis.specs.Kit.{sym, ap, ◌∙◌}
use Rattle.path.specs.Path.{is_rel_or_empty, is_path}
use Rattle.reply.specs.declared.Refusal.{Refusal}
use Rattle.reply.specs.declared.Refusal.TheVariants.{BadRequest}
use Rattle.reply.proofs.VerdictLaws.{judged-fine}
use Rattle.sheetform.specs.Form.{judge_length, judge_sheet}
use Rattle.sheetform.proofs.SheetLaws.{sheet-length}
use Rattle.requestform.specs.Form.{judge_scope, judge_path}
use Rattle.search.specs.Lookup.{find_extension_by_path}
use Rattle.find.specs.Find.{judge_all, finding_by, finding, finding_tested, worded, find_words, find_tested}
use Rattle.reply.specs.Verdicts.{Verdict, fine}
use Rattle.search.specs.declared.extension.Found.{Found}

-- ---- of a sheet of the right form
module _ (s c p : List ℕ) (h : judge_sheet s ≡ fine) where
  pub finding-tested : finding s c p ≡ finding_tested s c p
  finding-tested = ap (λ v. finding_by v s c p) (h ∙ sym (sheet-length s h))

  pub words-tested : find_words s c p ≡ find_tested s c p
  unfolding find_words find_tested
  words-tested = ap worded finding-tested

-- ---- finding_tested
module _ (s c p : List ℕ) (u : Verdict) (x : u ≡ judge_length s) where
  pub finding-long : (w : Refusal) → u ≡ Err w → Err w ≡ finding_tested s c p
  unfolding finding_by judge_all
  finding-long w h = rw (← x, h)

  module _ (h : u ≡ fine) (v : Verdict) (q : v ≡ judge_scope c) where
    pub finding-bad-scope : (w : Refusal) → v ≡ Err w → Err w ≡ finding_tested s c p
    unfolding finding_by judge_all
    finding-bad-scope w g = rw (← x, h, ← q, g)

    module _ (g : v ≡ fine) (v' : Verdict) (q' : v' ≡ judge_path p) where
      pub finding-bad-path : (w : Refusal) → v' ≡ Err w → Err w ≡ finding_tested s c p
      unfolding finding_by judge_all
      finding-bad-path w g' = rw (← x, h, ← q, g, ← q', g')

      pub finding-is : v' ≡ fine → (r : Result Found Refusal) → r ≡ find_extension_by_path s c p → r ≡ finding_tested s c p
      unfolding finding_by judge_all
      finding-is g' r y = rw (← x, h, ← q, g, ← q', g') y

-- ---- what was tested
module _ (t : List ℕ) (v : Verdict) (g : v ≡ fine) where
  pub scope-form : v ≡ judge_scope t → is_rel_or_empty t ≡ true
  unfolding judge_scope
  scope-form q = judged-fine BadRequest (is_rel_or_empty t) (sym q ∙ g)

  pub path-form : v ≡ judge_path t → is_path t ≡ true
  unfolding judge_path
  path-form q = judged-fine BadRequest (is_path t) (sym q ∙ g)

pub ruleset finding_laws = (finding-long, finding-bad-scope, finding-bad-path, finding-is, scope-form, path-form)
