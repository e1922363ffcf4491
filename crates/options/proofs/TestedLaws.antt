-- On a fine sheet a call comes to what the one for a sheet that was tested before does.
-- Assumes nothing.
use Rattle.std.specs.Prelude.{◌≡◌, List, ℕ}
use Rattle.basis.specs.Kit.{sym, ap, ◌∙◌}
use Rattle.sheetform.specs.Form.{judge_sheet}
use Rattle.sheetform.proofs.SheetLaws.{sheet-length}
use Rattle.options.specs.Resolve.{resolving_by, resolving, resolving_tested, outcome_of, judged_of, resolve_bytes, resolve_tested}
use Rattle.reply.specs.Verdicts.{Verdict, fine}

module _ (s r : List ℕ) (h : judge_sheet s ≡ fine) where
  resolving-tested : resolving s r ≡ resolving_tested s r
  resolving-tested = ap (λ (v : Verdict). resolving_by v s r) (h ∙ sym (sheet-length s h))

  pub resolve-tested : resolve_bytes s r ≡ resolve_tested s r
  unfolding resolve_bytes resolve_tested
  resolve-tested = ap outcome_of resolving-tested

  pub verdict-tested : judged_of (resolving s r) ≡ judged_of (resolving_tested s r)
  verdict-tested = ap judged_of resolving-tested
