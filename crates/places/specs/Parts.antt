-- The part of a name that is at fault, from 02's request [9]: "the part's position", as 01's option steps come to it.
--
--            Means m p n <-> in the message m the part p means a declaration of message type whose type path names one message, n
--           Leads m ps n <-> so do the parts ps in order, each in the message reached: they lead from m to n
--        Blamed m p qs w <-> w is the refusal of the part p in the message m, the parts qs standing behind it
--        AtPart m ps j w <-> w is the refusal of the part at the position j of the parts ps, the parts before it leading from m to its message
--           OnLast c h w <-> w is the refusal of the constant c on a field of the shape h
--          FaultOf m o f <-> f is the fault of the option o in the options message m
--
-- `Ends h w` says that w is the refusal of what stands behind the last part, on a field of the shape h: of a query's name there is none.
--
-- Assumes nothing.
use Rattle.std.specs.Prelude.{◌≡◌, List, [], ◌∷◌, ◌++◌, ℕ, length, None, Some, Err, Ok, Option, Result}
use Rattle.reply.specs.declared.Refusal.{Refusal}
use Rattle.reply.specs.declared.Refusal.TheVariants.{ExtensionIsNotMessage}
use Rattle.field.specs.Leaf.{text}
use Rattle.types.specs.Types.{TYPE_GROUP, TYPE_MESSAGE}
use Rattle.sheet.specs.declared.declaration.Shape.{Shape}
use Rattle.sheet.specs.declared.declaration.Declaration.{Declaration}
use Rattle.request.specs.declared.name.Part.{Part}
use Rattle.request.specs.Tree.{Constants}
use Rattle.request.specs.Request.{RequestOption}
use Rattle.records.specs.Made.{wrong}
use Rattle.lookups.specs.Lookups.{Lookups, Message}
use Rattle.values.specs.Values.{on, records}
use Rattle.builtins.specs.Builtins.{builtin_of}
use Rattle.steps.specs.declared.Lack.{Lack}
use Rattle.steps.specs.Steps.{why_of, step_of}
use Rattle.faults.specs.declared.Fault.{Fault}
use Rattle.faults.specs.Faults.{fault_at}
use Rattle.options.specs.Settle.{builtin_part}

module _ (L : Lookups) (s r scope : List ℕ) where
  pub record Means (m : Message) (p : Part) (n : Message) : Type 0 where
    pub declaration : Declaration
    pub found : step_of L s r scope m p ≡ Ok declaration
    pub message : declaration.shape.typ ≡ TYPE_MESSAGE
    pub path : n.name ≡ text s declaration.shape.path
    pub one : L.message n.name ≡ Ok n.place

  pub data Leads : Message → List Part → Message → Type 0 where
    here : {m : Message} → Leads m [] m
    inside : {m k n : Message} {p : Part} {ps : List Part} → Means m p k → Leads k ps n → Leads m (p ∷ ps) n

  module _ (Ends : Shape → Refusal → Type 0) where
    -- 4, 5 and 9 are the part's own; 7, 8 and 6 come of its declaration, where parts are left on it; what stands behind the name is at fault
    -- on the last part alone
    pub data Blamed (m : Message) (p : Part) : (behind : List Part) → Refusal → Type 0 where
      lacks : {qs : List Part} {l : Lack} → step_of L s r scope m p ≡ Err l → Blamed m p qs (why_of l)
      no-message : {q : Part} {qs : List Part} {d : Declaration} {w : Refusal} → step_of L s r scope m p ≡ Ok d
          → d.shape.typ ≡ TYPE_MESSAGE → L.message (text s d.shape.path) ≡ Err w → Blamed m p (q ∷ qs) w
      not-message : {q : Part} {qs : List Part} {d : Declaration} → step_of L s r scope m p ≡ Ok d
          → (d.shape.typ ≡ TYPE_MESSAGE → ⊥) → (d.shape.typ ≡ TYPE_GROUP → ⊥) → Blamed m p (q ∷ qs) ExtensionIsNotMessage
      ends : {d : Declaration} {w : Refusal} → step_of L s r scope m p ≡ Ok d → Ends d.shape w → Blamed m p [] w

    pub record AtPart (m : Message) (ps : List Part) (j : ℕ) (w : Refusal) : Type 0 where
      pub before : List Part
      pub part : Part
      pub behind : List Part
      pub parts : ps ≡ before ++ part ∷ behind
      pub position : length before ≡ j
      pub reached : Message
      pub leads : Leads m before reached
      pub blamed : Blamed reached part behind w

  abbrev pub OnLast : Constants → Shape → Refusal → Type 0
  OnLast c h w = records L s r (on h) c ≡ wrong w

  -- "Inside a message constant the part is the last one of the option's name."; "A single direct part is a builtin." [WHERE-4, WHERE-5, STEP-4]
  pub data FaultOf (m : Message) (o : RequestOption) : Fault → Type 0 where
    builtin : {p : Part} {w : Refusal} → builtin_part o.parts ≡ Some p
        → builtin_of L s r m (text r p.name) o.constant ≡ Err w → FaultOf m o (fault_at 0 w)
    named : {j : ℕ} {w : Refusal} → builtin_part o.parts ≡ None → AtPart (OnLast o.constant) m o.parts j w
        → FaultOf m o (fault_at j w)
