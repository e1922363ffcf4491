-- Look-ups as the option steps ask for them: a message and an enum by full name, an extension by a name in a scope. Steps, listing and
-- query hold for any look-ups; only the public contracts say that these walk over the sheet.
--
--              Lookups == what is found, whatever finds it
--            walking s == the walk over the sheet s
--              Message == a message that was reached: the full name by which, and where it stands
--     field_named s n p == the first field of the name n that the message at the place p declares
--       value_in s n vs == the first value of the name n among those that stand at the place vs
--
-- Assumes nothing.
use Rattle.std.specs.Prelude.{List, ℕ, Option, Result}
use Rattle.field.specs.declared.Span.{Span}
use Rattle.field.specs.Walk.{walk}
use Rattle.path.specs.Path.{components}
use Rattle.sheet.specs.declared.declaration.Declaration.{Declaration}
use Rattle.sheet.specs.declared.declaration.Value.{Value}
use Rattle.sheet.specs.Table.{field_tag}
use Rattle.sheet.specs.Tree.{values_in}
use Rattle.scope.specs.declared.lookup.LookupScope.{LookupScope}
use Rattle.scope.specs.Scope.{holding, declaration_named, value_named}
use Rattle.fullname.specs.FullName.{messages_at, enums_at, looked_up, looked_up_enum}
use Rattle.search.specs.declared.extension.Compared.{Compared}
use Rattle.search.specs.Lookup.{ext_resolve_field}
use Rattle.reply.specs.declared.Refusal.{Refusal}

pub record Lookups : Type 0 where
  pub message : (path : List ℕ) → Result LookupScope Refusal
  pub enumeration : (path : List ℕ) → Result Span Refusal
  pub extension : (scope message name : List ℕ) → Result Compared Refusal

abbrev pub walking : (sheet : List ℕ) → Lookups
walking s = record {
  message = λ p. looked_up (messages_at s (components p));
  enumeration = λ p. looked_up_enum (enums_at s (components p));
  extension = λ scope m name. ext_resolve_field s scope m name;
}

pub record Message : Type 0 where
  pub name : List ℕ
  pub place : LookupScope

-- 01, The search: "Of equal field or value names the first counts." [LOOKUP-6]
abbrev pub field_named : (s name : List ℕ) → LookupScope → Option Declaration
field_named s n p = declaration_named field_tag s n (holding s p)

abbrev pub value_in : (s name : List ℕ) → Span → Option Value
value_in s n vs = value_named s n (values_in s (walk s vs.from vs.to))
