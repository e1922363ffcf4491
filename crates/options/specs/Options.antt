-- What the options of a request come to in the options message, from 01's "Option steps".
--
--           Gathered == what the options come to: the known builtins and the other records, or the first refusal and its place
--   gather i ks x os == the options os, the i-th first, after the known builtins ks and the other records x
--
-- Assumes nothing.
use Rattle.std.specs.Prelude.{List, [], ◌∷◌, ℕ, ◌+◌}
use Rattle.request.specs.Request.{RequestOption}
use Rattle.records.specs.Records.{Recs, append}
use Rattle.lookups.specs.Lookups.{Lookups, Message}
use Rattle.known.specs.Known.{Known, set_known}
use Rattle.reply.specs.declared.Cause.{Cause}
use Rattle.options.specs.Settle.{Settled, known, others, fails, settle}
use Rattle.faults.specs.Faults.{cause_at}

pub data Gathered : Type 0 where
  gathered : (knowns : List Known) (rest : Recs) → Gathered
  stopped : Cause → Gathered

-- "Otherwise options go in order and the first refused option ends the work." [STEP-3]
abbrev pub next : (option : ℕ) → List Known → Recs → Settled → (List Known → Recs → Gathered) → Gathered
next i ks x (known k) f = f (set_known k ks) x
next i ks x (others y) f = f ks (append x y)
next i ks x (fails e) f = stopped (cause_at i e)

module _ (L : Lookups) (s r scope : List ℕ) (m : Message) where
  abbrev pub gather : (option : ℕ) → List Known → Recs → List RequestOption → Gathered
  gather i ks x [] = gathered ks x
  gather i ks x (o ∷ os) = next i ks x (settle L s r scope m o) λ ks' x'. gather (i + 1) ks' x' os
