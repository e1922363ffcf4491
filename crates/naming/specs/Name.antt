-- The declarations that the parts of a name come to, no option byte being read. 01, Listing and lowering: "then the name by the option
-- steps from an empty scope, a direct part always a field (9)".
--
--                       Named == the declarations of a name's parts; or that parts are left on a group; or why not, and of which part
--                  of_part i w == the refusal w at the i-th part of the name
--                    also d n == the declaration d, then those of n
--                on_step i x f == what f makes of the declaration that the i-th part comes to, or its refusal
--           on_message i n u f == what f makes of the message of the full name n that a look-up u comes to, or its refusal
--                  left i d f == parts left on the declaration d of the i-th part, f being what they come to inside
--   declarations L s q i m ps == those of the parts ps of the name q, the i-th first, from the message m on
--
-- Assumes nothing.
use Rattle.std.specs.Prelude.{true, false, List, [], ◌∷◌, ℕ, ◌+◌, eqb, Err, Ok, Result}
use Rattle.reply.specs.declared.Refusal.{Refusal}
use Rattle.reply.specs.declared.Refusal.TheVariants.{ExtensionIsNotMessage}
use Rattle.reply.specs.declared.Where.TheVariants.{Part as AtPart}
use Rattle.reply.specs.declared.Cause.{Cause}
use Rattle.field.specs.Leaf.{text}
use Rattle.types.specs.Types.{TYPE_GROUP, TYPE_MESSAGE}
use Rattle.sheet.specs.declared.declaration.Declaration.{Declaration}
use Rattle.request.specs.declared.name.Part.{Part}
use Rattle.lookups.specs.Lookups.{Lookups, Message}
use Rattle.steps.specs.Steps.{why_of, step_of}
use Rattle.scope.specs.declared.lookup.LookupScope.{LookupScope}
use Rattle.steps.specs.declared.Lack.{Lack}

pub data Named : Type 0 where
  names : List Declaration → Named
  group : Named
  refused_at : (part : ℕ) → Refusal → Named

-- 02, [9], read: "a query has no option, and its name has parts" [WHERE-2]
abbrev pub of_part : (part : ℕ) → Refusal → Cause
of_part i w = record { why = w; place = AtPart i }

abbrev pub also : Declaration → Named → Named
also d (names ds) = names (d ∷ ds)
also d group = group
also d (refused_at i w) = refused_at i w

abbrev pub on_step : (part : ℕ) → Result Declaration Lack → (Declaration → Named) → Named
on_step i (Err l) f = refused_at i (why_of l)
on_step i (Ok d) f = f d

abbrev pub on_message : (part : ℕ) (name : List ℕ) → Result LookupScope Refusal → (Message → Named) → Named
on_message i name (Err w) f = refused_at i w
on_message i name (Ok p) f = f (record { name = name; place = p })

module _ (L : Lookups) (s q : List ℕ) where
  -- "Parts left on a message go inside it; on a group .. the rest is unread ..; on any other type 6" [STEP-7, STEP-8, STEP-9]
  abbrev pub left : (part : ℕ) → Declaration → (Message → Named) → Named
  left i d f = elim (eqb d.shape.typ TYPE_MESSAGE) [
    | true ↦ on_message i (text s d.shape.path) (L.message (text s d.shape.path)) f
    | false ↦ elim (eqb d.shape.typ TYPE_GROUP) [ true ↦ group | false ↦ refused_at i ExtensionIsNotMessage ]
  ]

  -- [QUERY-3]
  abbrev pub declarations : (part : ℕ) → Message → List Part → Named
  declarations i m [] = names []
  declarations i m (p ∷ []) = on_step i (step_of L s q [] m p) λ d. names (d ∷ [])
  declarations i m (p ∷ o ∷ ps) = on_step i (step_of L s q [] m p) λ d. left i d λ n. also d (declarations (i + 1) n (o ∷ ps))
