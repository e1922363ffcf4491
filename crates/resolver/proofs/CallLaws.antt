-- The ways through `resolve`, `judged_by`, `verdict_tested` and `verdict`.
-- Assumes nothing.
use Rattle.std.specs.Prelude.{◌≡◌, refl, List, ℕ, Err, None, Some, Ok, Option, Result}
use Rattle.basis.specs.Kit.{sym, ◌∙◌}
use Rattle.reply.specs.declared.Refusal.{Refusal}
use Rattle.reply.specs.declared.Answer.{Answer}
use Rattle.reply.specs.Reply as reply
use Rattle.reply.specs.Outcome.{Answered}
use Rattle.reply.proofs.Outcomes.{answered-refused}
use Rattle.sheetform.specs.Form.{judge_sheet}
use Rattle.reply.specs.declared.Cause.{Cause}
use Rattle.reply.specs.Reply.{bare}
use Rattle.options.specs.declared.measure.Measured.{Measured}
use Rattle.options.specs.inner.Measuring.{Measures}
use Rattle.options.specs.Resolve.{Steps, resolving_by, resolving, resolving_tested, judged_of, resolve_bytes, resolve_tested}
use Rattle.resolver.specs.inner.Judging.{judged_by}
use Rattle.options.proofs.TestedLaws.{resolve-tested, verdict-tested}
use Rattle.resolver.proofs.WriteLaws.{measured-judged}
use Rattle.reply.specs.Verdicts.{Verdict, fine}

-- ---- resolve
module _ (s r l : List ℕ) (a : Answer) (v : Verdict) (q : v ≡ judge_sheet s) where
  pub resolve-refused : (w : Refusal) → v ≡ Err w → a ≡ reply.refused_by w → Answered (resolve_bytes s r) l l a
  unfolding resolve_bytes resolving_by
  resolve-refused w g e = rw e (answered-refused (resolve_bytes s r) l (reply.bare w) (rw (← q, g)))

  pub resolve-fine : v ≡ fine → (l' : List ℕ) → Answered (resolve_tested s r) l l' a → Answered (resolve_bytes s r) l l' a
  resolve-fine g l' h = rw (resolve-tested s r (sym q ∙ g)) h

pub ruleset resolve_laws = (resolve-refused, resolve-fine)

-- ---- judged_by
module _ (v : Result (Option Measured) Cause) where
  pub by-absent : v ≡ Ok None → Ok None ≡ judged_by v
  by-absent g = rw g refl

  pub by-refused : (e : Cause) → v ≡ Err e → Err e ≡ judged_by v
  by-refused e g = rw g refl

  pub by-fine : (m : Measured) → v ≡ Ok (Some m) → Ok (Some m.length) ≡ judged_by v
  by-fine m g = rw g refl

pub ruleset judged_by_laws = (by-absent, by-refused, by-fine)

-- ---- verdict_tested
pub verdict-measured : (s r : List ℕ) (o : Steps) (ns : List ℕ) (v : Result (Option Measured) Cause) → Measures s r o ns v → (y : Result (Option ℕ) Cause) → y ≡ judged_by v
    → y ≡ judged_of o
verdict-measured s r o ns v u y e = e ∙ measured-judged u

pub ruleset verdict_tested_laws = (verdict-measured)

-- ---- verdict
module _ (s r : List ℕ) (v : Verdict) (q : v ≡ judge_sheet s) where
  pub verdict-refused : (w : Refusal) → v ≡ Err w → (y : Cause) → y ≡ bare w → Err y ≡ judged_of (resolving s r)
  unfolding resolving_by
  verdict-refused w g y e = rw (← q, g, e)

  pub verdict-fine : v ≡ fine → (y : Result (Option ℕ) Cause) → y ≡ judged_of (resolving_tested s r) → y ≡ judged_of (resolving s r)
  verdict-fine g y e = e ∙ sym (verdict-tested s r (sym q ∙ g))

pub ruleset verdict_laws = (verdict-refused, verdict-fine)
