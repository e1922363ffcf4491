-- What an option of a request comes to in the options message, from 01's "Option steps".
--
--                Settled == what one option comes to: a builtin that is set, other records, or a fault
--         builtin_part ps == the part that is the whole name of a builtin
--               settle o == what the option o comes to
--
-- Assumes nothing.
use Rattle.std.specs.Prelude.{List, [], ◌∷◌, ℕ, Option, None, Some, Ok, Err, Result}
use Rattle.basis.specs.First.{only_if, told}
use Rattle.field.specs.Leaf.{text}
use Rattle.request.specs.declared.name.Part.{Part}
use Rattle.request.specs.Request.{RequestOption}
use Rattle.records.specs.Records.{Recs, nil, record_of}
use Rattle.records.specs.Made.{Made, made, wrong}
use Rattle.lookups.specs.Lookups.{Lookups, Message}
use Rattle.known.specs.Known.{Known}
use Rattle.faults.specs.declared.Fault.{Fault}
use Rattle.options.specs.Named.{option_from}
use Rattle.faults.specs.Faults.{fault_at}
use Rattle.builtins.specs.declared.Built.{Built}
use Rattle.builtins.specs.Builtins.{builtin_of}
use Rattle.reply.specs.declared.Refusal.{Refusal}

-- ---- one option
pub data Settled : Type 0 where
  known : Known → Settled
  others : Recs → Settled
  fails : Fault → Settled

abbrev pub settled_built : (request : List ℕ) → Result (Option Built) Refusal → Settled
settled_built r (Ok None) = others nil
settled_built r (Ok (Some x)) = known (record { field = x.shape.number; made = record_of r x.shape x.body })
settled_built r (Err w) = fails (fault_at 0 w)

abbrev pub settled : Made Fault → Settled
settled (made x) = others x
settled (wrong f) = fails f

-- "A single direct part is a builtin." [STEP-4]
abbrev pub builtin_part : List Part → Option Part
builtin_part [] = None
builtin_part (p ∷ []) = only_if p.extension None (Some p)
builtin_part (p ∷ q ∷ ps) = None

module _ (L : Lookups) (s r scope : List ℕ) (m : Message) where
  -- "Other names resolve the first part in the options message" [STEP-5]
  unfoldable pub settle : RequestOption → Settled
  settle o =
      told (settled (option_from L s r scope 0 m o.parts o.constant))
      (λ p. settled_built r (builtin_of L s r m (text r p.name) o.constant)) (builtin_part o.parts)
