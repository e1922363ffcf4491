-- What a part of a name leads to, as functions of places of the request.
--
--     message n p ==  the message of that name and place
--     left_on h at ==  what parts left on a field of the shape h lead to
--   behind h at e ==  what a declaration of the shape h, whose part ends at a place, leads to
--   stepped a e v ==  what a part that came to v and ends at a place leads to
--   reach_of m a e ==  what the part at a place leads to in the message m
--    StepLies s v <-> the type path of the declaration that a part came to lies in the sheet s
--   Led s r a e v <-> what the part at a place leads to, v, stands further on, and lies in the sheet s and the request r
--
-- Assumes nothing.
use Rattle.std.specs.Prelude.{◌≡◌, true, false, List, ℕ, ◌+◌, ◌≤◌, eqb, Err, None, Some, Ok, Option, Result}
use Rattle.reply.specs.declared.Refusal.TheVariants.{ExtensionIsNotMessage}
use Rattle.field.specs.Leaf.{text, Lies}
use Rattle.types.specs.Types.{TYPE_GROUP, TYPE_MESSAGE}
use Rattle.sheet.specs.declared.declaration.Declaration.{Declaration}
use Rattle.sheet.specs.declared.declaration.Shape.{Shape}
use Rattle.scope.specs.declared.lookup.LookupScope.{LookupScope}
use Rattle.scope.specs.inner.Answers.{InSheet}
use Rattle.request.specs.Name.{part_at}
use Rattle.optionform.specs.inner.Parts.{OptionParts}
use Rattle.lookups.specs.Lookups.{Lookups, Message}
use Rattle.steps.specs.declared.Reach.{Reach}
use Rattle.steps.specs.declared.Reach.TheVariants.{Constant, Inside, Nothing}
use Rattle.steps.specs.Steps.{why_of, step_of}
use Rattle.reply.specs.declared.Refusal.{Refusal}
use Rattle.request.specs.declared.name.Part.{Part}
use Rattle.steps.specs.declared.Lack.{Lack}

abbrev pub message : (name : List ℕ) → LookupScope → Message
message n p = record { name = n; place = p }

abbrev pub entered : Shape → (from : ℕ) → Result LookupScope Refusal → Result Reach Refusal
entered h at (Err w) = Err w
entered h at (Ok p) = Ok (Inside h p at)

module _ (L : Lookups) (s : List ℕ) where
  unfoldable pub left_on : Shape → (from : ℕ) → Result Reach Refusal
  left_on h at = elim (eqb h.typ TYPE_MESSAGE) [
    | true ↦ entered h at (L.message (text s h.path))
    | false ↦ elim (eqb h.typ TYPE_GROUP) [ true ↦ Ok Nothing | false ↦ Err ExtensionIsNotMessage ]
  ]

  abbrev pub followed : Shape → (from : ℕ) → (next : Option Part) → Result Reach Refusal
  followed h at None = Ok (Constant h at)
  followed h at (Some p) = left_on h at

module _ (L : Lookups) (s r : List ℕ) where
  unfoldable pub behind : Shape → (from to : ℕ) → Result Reach Refusal
  behind h at end = followed L s h at (part_at r at end)

  abbrev pub stepped : (from to : ℕ) → Result Declaration Lack → Result Reach Refusal
  stepped at end (Err l) = Err (why_of l)
  stepped at end (Ok d) = behind d.shape at end

module _ (L : Lookups) (s r scope : List ℕ) where
  abbrev pub first_part : Message → (to : ℕ) → Option Part → Result Reach Refusal
  first_part m end None = Ok Nothing
  first_part m end (Some p) = stepped L s r p.name.to end (step_of L s r scope m p)

  unfoldable pub reach_of : Message → (from to : ℕ) → Result Reach Refusal
  reach_of m from to = first_part m to (part_at r from to)

pub record StepLies (s : List ℕ) (v : Result Declaration Lack) : Type 0 where
  pub lies : (d : Declaration) → v ≡ Ok d → Lies d.shape.path s

-- what stands behind a part: its header has three bytes
pub record Behind (s : List ℕ) (from to : ℕ) (h : Shape) (at : ℕ) : Type 0 where
  pub path : Lies h.path s
  pub further : from + 3 ≤ at
  pub within : at ≤ to

pub record Entered (s r : List ℕ) (from to : ℕ) (h : Shape) (p : LookupScope) (at : ℕ) : Type 0 where
  pub behind : Behind s from to h at
  pub parts : OptionParts r at to
  pub place : InSheet s p

pub record Led (s r : List ℕ) (from to : ℕ) (v : Result Reach Refusal) : Type 0 where
  pub constant : (h : Shape) (at : ℕ) → v ≡ Ok (Constant h at) → Behind s from to h at
  pub inside : (h : Shape) (p : LookupScope) (at : ℕ) → v ≡ Ok (Inside h p at) → Entered s r from to h p at
