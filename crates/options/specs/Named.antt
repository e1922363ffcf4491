-- The steps of an option over the parts of its name, from 01's "Option steps".
--
--                 at i x == the records x of a constant, or its refusal as one of the i-th part, the last
--           on_step i x f == what f makes of the declaration that the i-th part comes to, or the fault of its lack
--   reached i n name u f == what the message that a look-up u comes to holds, f, in a record of the number n
--             left i h f == parts left on a field of the shape h, f being what they come to inside
--    option_from i m ps c == the parts ps, the i-th first, from the message m on, and the constant c
--
-- Assumes nothing.
use Rattle.std.specs.Prelude.{true, false, List, [], ◌∷◌, ℕ, ◌+◌, eqb, Err, Ok, Result}
use Rattle.reply.specs.declared.Refusal.{Refusal}
use Rattle.reply.specs.declared.Refusal.TheVariants.{ExtensionIsNotMessage}
use Rattle.field.specs.Leaf.{text}
use Rattle.types.specs.Types.{TYPE_GROUP, TYPE_MESSAGE}
use Rattle.sheet.specs.declared.declaration.Shape.{Shape}
use Rattle.sheet.specs.declared.declaration.Declaration.{Declaration}
use Rattle.request.specs.declared.name.Part.{Part}
use Rattle.request.specs.Tree.{Constants}
use Rattle.records.specs.Records.{nil}
use Rattle.records.specs.Made.{Made, made, wrong, holding}
use Rattle.lookups.specs.Lookups.{Lookups, Message}
use Rattle.values.specs.Values.{on, records}
use Rattle.steps.specs.Steps.{why_of, step_of}
use Rattle.faults.specs.declared.Fault.{Fault}
use Rattle.faults.specs.Faults.{fault_at}
use Rattle.scope.specs.declared.lookup.LookupScope.{LookupScope}
use Rattle.steps.specs.declared.Lack.{Lack}

-- of a constant's refusal the part is the last one of the name [WHERE-4]
abbrev pub at : (part : ℕ) → Made Refusal → Made Fault
at i (made x) = made x
at i (wrong w) = wrong (fault_at i w)

abbrev pub on_step : (part : ℕ) → Result Declaration Lack → (Declaration → Made Fault) → Made Fault
on_step i (Err l) f = wrong (fault_at i (why_of l))
on_step i (Ok d) f = f d

abbrev pub reached : (part field : ℕ) (name : List ℕ) → Result LookupScope Refusal → (Message → Made Fault) → Made Fault
reached i n name (Err w) f = wrong (fault_at i w)
reached i n name (Ok p) f = holding n (f (record { name = name; place = p }))

module _ (L : Lookups) (s r scope : List ℕ) where
  -- "Parts left on a message go inside it; on a group nothing is written there and the rest is unread (messages around it are written, the
  -- innermost empty); on any other type 6." [STEP-7, STEP-8, STEP-9]
  abbrev pub left : (part : ℕ) → Shape → (Message → Made Fault) → Made Fault
  left i h f = elim (eqb h.typ TYPE_MESSAGE) [
    | true ↦ reached i h.number (text s h.path) (L.message (text s h.path)) f
    | false ↦ elim (eqb h.typ TYPE_GROUP) [ true ↦ made nil | false ↦ wrong (fault_at i ExtensionIsNotMessage) ]
  ]

  -- "recurses with fewer parts left"; an option that has no part, as no fine one is, comes to nothing [STEP-10]
  abbrev pub option_from : (part : ℕ) → Message → List Part → Constants → Made Fault
  option_from i m [] c = made nil
  option_from i m (p ∷ []) c = on_step i (step_of L s r scope m p) λ d. at i (records L s r (on d.shape) c)
  option_from i m (p ∷ q ∷ ps) c = on_step i (step_of L s r scope m p) λ d. left i d.shape λ n. option_from (i + 1) n (q ∷ ps) c
