-- What a part of an option's name comes to, from 01's "Option steps".
--
--              Lack == why a name part comes to nothing, with the fact behind it
--              Step == what a name part comes to: a declaration, or its lack
--           why_of l == the refusal of a part with the lack l
--   step_extension x == what a part comes to whose search comes to x
--        step_of m p == what the part p comes to in the message m
--
-- Assumes nothing.
use Rattle.std.specs.Prelude.{true, false, List, ℕ, Err, Ok, Result}
use Rattle.basis.specs.First.{told}
use Rattle.reply.specs.declared.Refusal.{Refusal}
use Rattle.reply.specs.declared.Refusal.TheVariants.{WrongExtensionType, UnknownFieldName}
use Rattle.field.specs.Leaf.{text}
use Rattle.search.specs.declared.extension.Compared.{Compared}
use Rattle.search.specs.declared.extension.Compared.TheVariants.{Extends, ExtendsOther}
use Rattle.request.specs.declared.name.Part.{Part}
use Rattle.lookups.specs.Lookups.{Lookups, Message, field_named}
use Rattle.steps.specs.declared.Lack.{Lack}
use Rattle.steps.specs.declared.Lack.TheVariants.{NoField, NoExtension, OtherMessage}
use Rattle.sheet.specs.declared.declaration.Declaration.{Declaration}

-- 01, Replies: 9, "direct part"; 4, "no candidate has it"; 5, "other extendee". Here alone the lack of a part becomes a refusal.
-- [STEP-5, SEARCH-6, SEARCH-7]
abbrev pub why_of : Lack → Refusal
why_of NoField = UnknownFieldName
why_of (NoExtension w) = w
why_of (OtherMessage c) = WrongExtensionType

abbrev pub step_extension : Result Compared Refusal → Result Declaration Lack
step_extension (Ok (Extends c)) = Ok c.found.declaration
step_extension (Ok (ExtendsOther c)) = Err (OtherMessage c)
step_extension (Err w) = Err (NoExtension w)

module _ (L : Lookups) (s r scope : List ℕ) where
  -- "a direct part as a field, an extension part by search from the request's scope" [STEP-5, STEP-6]
  unfoldable pub step_of : Message → Part → Result Declaration Lack
  step_of m p = elim p.extension [
    | true ↦ step_extension (L.extension scope m.name (text r p.name))
    | false ↦ told (Err NoField) Ok (field_named s (text r p.name) m.place)
  ]
