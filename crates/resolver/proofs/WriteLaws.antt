-- What was measured, written: the ways through `write` and `resolve_over`.
-- Assumes nothing.
use Rattle.std.specs.Prelude.{◌≡◌, refl, List, ◌++◌, ℕ, ◌≤◌, length, take, drop, Err, None, Option, Some, Ok, Result}
use Rattle.basis.specs.Kit.{sym, ap, ◌∙◌, sets}
use lib.Seq.{length-take-le}
use Rattle.basis.proofs.Never.{never}
use Rattle.reply.specs.declared.Answer.{Answer}
use Rattle.reply.specs.Outcome.{give, Answered}
use Rattle.reply.specs.declared.Cause.{Cause}
use Rattle.judged.specs.inner.Answering.{Judges, fine, absent, refuses, answer_in}
use Rattle.judged.proofs.JudgedLaws.{judged-absent, judged-refused, granted-within, judged-written}
use Rattle.records.specs.Records.{append, encode}
use Rattle.lookups.specs.Lookups.{walking}
use Rattle.known.specs.Known.{known_recs}
use Rattle.options.specs.Options.{Gathered}
use Rattle.options.specs.inner.Gathering.{gathered_by}
use Rattle.options.specs.declared.measure.Measured.{Measured}
use Rattle.options.specs.inner.Measuring as measuring
use Rattle.options.specs.inner.Measuring.{all_of, Ready, Measures}
use Rattle.options.specs.Resolve.{Steps, steps_in, resolving_tested, outcome_of, judged_of, resolve_tested}
use Rattle.resolver.specs.inner.Judging.{judged_by}

-- ---- the verdict that was measured is the verdict on what a request comes to
pub steps-judged : (o : Steps) → Judges (outcome_of o) (judged_of o)
steps-judged (Steps.records x) = fine (encode x)
steps-judged Steps.absent = absent
steps-judged (Steps.refused e) = refuses e

module _ (s r ns : List ℕ) (m : Measured) (k : Ready s r ns m) where
  abbrev steps : Steps
  steps = steps_in (gathered_by (walking s) s r m.start)

  abbrev bytes : List ℕ
  bytes = encode (append (known_recs k.counted.knowns) k.counted.rest)

  outcome-is : outcome_of steps ≡ give bytes
  outcome-is = ap (λ (g : Gathered). outcome_of (steps_in g)) k.counted.gathers

  pub ready-judged : Ok (Some m.length) ≡ judged_of steps
  ready-judged = ap (λ (n : ℕ). Ok (Some n)) k.length-is ∙ sym (ap (λ (g : Gathered). judged_of (steps_in g)) k.counted.gathers)

  -- ---- write
  module _ (l : List ℕ) (a : Answer) (e : a ≡ answer_in (length l) (Ok (Some m.length))) where
    pub write_granted : a.length ≤ length l
    write_granted = granted-within a (length l) m.length e

    pub write_done : (z : List ℕ) → z ≡ sets (take a.length l) 0 (encode (all_of (gathered_by (walking s) s r m.start)))
        → Answered (outcome_of steps) l (z ++ drop a.length l) a
    write_done z h =
        judged-written (outcome_of steps) l bytes outcome-is m.length k.length-is a e z
        (h ∙ ap (λ (g : Gathered). sets (take a.length l) 0 (encode (all_of g))) k.counted.gathers)

pub part_length : (n : ℕ) (l : List ℕ) → n ≤ length l → n ≡ length (take n l)
part_length n l h = sym (length-take-le n l h)

pub ruleset write_laws = (write_granted, part_length, write_done)

-- ---- resolve_over
pub measured-judged : {s r : List ℕ} {o : Steps} {ns : List ℕ} {v : Result (Option Measured) Cause} → Measures s r o ns v → judged_by v ≡ judged_of o
measured-judged {s} {r} (measuring.fine {ns} {m} k) = ready-judged s r ns m k
measured-judged measuring.none = refl
measured-judged measuring.refuses = refl

measured-ready : {s r : List ℕ} {o : Steps} {ns : List ℕ} {v : Result (Option Measured) Cause} → Measures s r o ns v → (m : Measured) → v ≡ Ok (Some m)
    → Ready s r ns m
measured-ready (measuring.fine {ns} {m} k) n e = let i : m ≡ n = cc in rw i at k
measured-ready measuring.none n e = never cc
measured-ready measuring.refuses n e = never cc

measured-steps : {s r : List ℕ} {o : Steps} {ns : List ℕ} {v : Result (Option Measured) Cause} → Measures s r o ns v → (m : Measured) → v ≡ Ok (Some m)
    → o ≡ steps_in (gathered_by (walking s) s r m.start)
measured-steps {s} {r} (measuring.fine {ns} {m} k) n e =
    let i : m ≡ n = cc in ap (λ (y : Measured). steps_in (gathered_by (walking s) s r y.start)) i
measured-steps measuring.none n e = never cc
measured-steps measuring.refuses n e = never cc

module _ (s r ns : List ℕ) (v : Result (Option Measured) Cause) (u : Measures s r (resolving_tested s r) ns v) where
  over-judged : Judges (resolve_tested s r) (judged_by v)
  unfolding resolve_tested
  over-judged = rw (measured-judged u) (steps-judged (resolving_tested s r))

  module _ (l : List ℕ) (a : Answer) where
    pub over-absent : v ≡ Ok None → a ≡ answer_in (length l) (Ok None) → Answered (resolve_tested s r) l l a
    over-absent g e = judged-absent a (rw g at over-judged) e

    pub over-refused : (w : Cause) → v ≡ Err w → a ≡ answer_in (length l) (Err w) → Answered (resolve_tested s r) l l a
    over-refused w g e = judged-refused a w (rw g at over-judged) e

    pub over-written : (m : Measured) → v ≡ Ok (Some m) → (l' : List ℕ)
        → Answered (outcome_of (steps_in (gathered_by (walking s) s r m.start))) l l' a → Answered (resolve_tested s r) l l' a
    unfolding resolve_tested
    over-written m g l' h = rw (measured-steps u m g) h

  pub over-ready : (m : Measured) → v ≡ Ok (Some m) → Ready s r ns m
  over-ready = measured-ready u

pub ruleset over_laws = (over-absent, over-refused, over-written, over-ready)
