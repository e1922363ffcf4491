-- A record that waits to be printed: reading goes on after it, and comes to an end.
-- Assumes nothing.
use Rattle.std.specs.Prelude.{◌≡◌, List, ℕ, suc, ◌-◌, ◌<◌, length, Option, None, Some, Result}
use Rattle.std.specs.Result.{result_unwrap_or}
use Rattle.basis.proofs.Kit.{arith}
use Rattle.basis.proofs.Never.{never}
use Rattle.reply.specs.declared.Refusal.{Refusal}
use Rattle.reply.specs.Outcome.{Outcome}
use Rattle.entries.specs.declared.Row.{Row}
use Rattle.levels.specs.declared.Event.{Event}
use Rattle.levels.specs.inner.Left.{Open, Moves, moves, ends, wrongs}
use Rattle.levels.proofs.StartLaws.{start-open}
use Rattle.lookups.proofs.LookupLaws.{message-lies}
use Rattle.display.specs.inner.Waits.{Waits, rest_of}

module _ (s bs st : List ℕ) where
  pub none-waits : Waits s bs st None
  none-waits = record { opens = λ x q. never cc }

  pub waits-open : (e : Option Event) → Waits s bs st e → (x : Event) → e ≡ Some x → Open s bs st x.rest
  waits-open e w x q = w.opens x q

-- what is read on to; a fault is the end
found : {s type bs : List ℕ} {before : Outcome Row} {at : ℕ} {st : List ℕ} {r : Result (Option Event) Refusal}
    → Moves s type bs before at st r → (x : Event) → result_unwrap_or r None ≡ Some x → Open s bs st x.rest
found (moves {e} o p h) x q = let same : x ≡ e = cc in rw same o
found (ends p) x q = never cc
found (wrongs p) x q = never cc

fewer : {s type bs : List ℕ} {before : Outcome Row} {at : ℕ} {st : List ℕ} {r : Result (Option Event) Refusal}
    → Moves s type bs before at st r → rest_of bs (result_unwrap_or r None) < suc (length bs - at)
fewer (moves o p h) = omega (arith, o.inside)
fewer (ends p) = omega arith
fewer (wrongs p) = omega arith

module _ (s type bs : List ℕ) (before : Outcome Row) (at : ℕ) (st : List ℕ) (r : Result (Option Event) Refusal)
    (k : Moves s type bs before at st r) (e : Option Event) (q : e ≡ result_unwrap_or r None) where
  pub read-waits : Waits s bs st e
  read-waits = rw q (record { opens = found k })

  pub read-fewer : rest_of bs e < suc (length bs - at)
  read-fewer = rw q (fewer k)

pub ruleset reading_laws = (read-waits, read-fewer)

pub ruleset first_laws = (message-lies, start-open, none-waits)

-- ---- the measure of a loop over the records
pub waits-fewer : (bs : List ℕ) (n : ℕ) (x : Event) → n < suc (length bs - x.rest.at) → (e : Option Event) → e ≡ Some x → n < rest_of bs e
waits-fewer bs n x h e q = rw q h

pub ruleset waits_laws = (none-waits, waits-open, waits-fewer)
