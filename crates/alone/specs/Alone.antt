-- An option of a request, taken out of it and put into a request of its own, of the same scope and options type.
--
--   field_bytes r w i ==  the bytes, header and payload, of the i-th of the fields w; none where there is none
--    alone_with r i h ==  the heading h of r, and the field of the i-th option; r where there is no heading
--          alone r i ==  the request with its i-th option alone
--          fault_of x ==  the fault of an option that comes to x, none where it has none
--          Own r i o <-> o being the i-th option of r, alone r i is fine, has the scope and the options type of r, and one option, `own`,
--                        which has the fault that o has in r, or none where o has none
--
-- Assumes nothing.
use Rattle.std.specs.Prelude.{◌≡◌, List, [], ◌∷◌, ◌++◌, ℕ, zero, suc, ◌-◌, length, take, Option, None, Some}
use Rattle.octets.specs.Octets.{part}
use Rattle.field.specs.Field.{header}
use Rattle.field.specs.Leaf.{text}
use Rattle.field.specs.Walk.{Walk, done, cut, step, walk}
use Rattle.request.specs.Request.{RequestOption, heading_of, request_of}
use Rattle.requestform.specs.Form.{judge_request}
use Rattle.lookups.specs.Lookups.{Lookups, Message}
use Rattle.faults.specs.declared.Fault.{Fault}
use Rattle.options.specs.Settle.{Settled, known, others, fails, settle}
use Rattle.request.specs.declared.heading.Heading.{Heading}
use Rattle.reply.specs.Verdicts.{fine}

abbrev pub field_bytes : (r : List ℕ) → Walk → (index : ℕ) → List ℕ
field_bytes r done i = []
field_bytes r cut i = []
field_bytes r (step t a e w) zero = part r (a - header) e
field_bytes r (step t a e w) (suc i) = field_bytes r w i

abbrev pub alone_with : (r : List ℕ) (option : ℕ) → Option Heading → List ℕ
alone_with r i None = r
alone_with r i (Some h) = take h.options r ++ field_bytes r (walk r h.options (length r)) i

unfoldable pub alone : (r : List ℕ) (option : ℕ) → List ℕ
alone r i = alone_with r i (heading_of r)

abbrev pub fault_of : Settled → Option Fault
fault_of (known k) = None
fault_of (others x) = None
fault_of (fails f) = Some f

pub record Own (r : List ℕ) (i : ℕ) (o : RequestOption) : Type 0 where
  pub fine : judge_request (alone r i) ≡ fine
  pub scope : text (alone r i) (request_of (alone r i)).scope ≡ text r (request_of r).scope
  pub type : text (alone r i) (request_of (alone r i)).options_type ≡ text r (request_of r).options_type
  pub own : RequestOption
  pub options : (request_of (alone r i)).options ≡ own ∷ []
  pub same : (L : Lookups) (s scope : List ℕ) (m : Message)
      → fault_of (settle L s (alone r i) scope m own) ≡ fault_of (settle L s r scope m o)
