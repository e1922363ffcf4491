-- Scopes: a file or a message, with what it declares; and the first declaration of a name in one. 01, The search: "the first of that name
-- at each level", "first declared extension with the last component as its name", "Of equal field or value names the first counts".
--
--                      Scope ==  a scope: where it stands, as the code keeps it, and what it holds
--                holding s p ==  the scope that stands at the place p of the sheet s
--              file_scope i f ==  the scope that the i-th file is, counted from 0
--           message_scope c m ==  the scope that the message m of the scope c is
--                 down s n c ==  the scope of the first message of the name n in the scope c
--   declaration_named k s n c ==  the first declaration of the tag k and of that name: an extension or a field
--            enum_named s n c ==  the first enum, likewise
--              extends s m d <=> the extension d is of the message whose full name is m
--          value_named s n vs ==  the first value of that name
--
-- Assumes nothing.
use Rattle.std.specs.Prelude.{Bool, true, false, List, ℕ, ◌-◌, Option, Some}
use Rattle.limits.specs.Figures.{most_messages}
use Rattle.field.specs.Leaf.{is_text}
use Rattle.field.specs.Walk.{walk}
use Rattle.sheet.specs.declared.declaration.Declaration.{Declaration}
use Rattle.sheet.specs.declared.declaration.Value.{Value}
use Rattle.sheet.specs.Tree.{Items, File, items_in}
use Rattle.sheet.specs.Members.{Message, Enumeration, messages_of, enums_of, declarations_of}
use Rattle.scope.specs.declared.lookup.LookupScope.{LookupScope}
use Rattle.basis.specs.First.{first, given}

pub record Scope : Type 0 where
  pub place : LookupScope
  pub items : Items

abbrev pub holding : (s : List ℕ) → LookupScope → Scope
holding s p = record { place = p; items = items_in p.left s (walk s p.body.from p.body.to) }

abbrev pub file_scope : (index : ℕ) → File → Scope
file_scope i f = record { place = record { file = i; message = false; body = f.body; left = most_messages }; items = f.items }

abbrev pub message_scope : Scope → Message → Scope
message_scope c m = record {
  place = record { file = c.place.file; message = true; body = m.body; left = c.place.left - 1 };
  items = m.inside;
}

abbrev pub down : (s name : List ℕ) → Scope → Option Scope
down s n c = given (first (λ m. is_text s n m.name) (messages_of c.items)) λ m. Some (message_scope c m)

abbrev pub declaration_named : (tag : ℕ) (s name : List ℕ) → Scope → Option Declaration
declaration_named k s n c = first (λ d. is_text s n d.name) (declarations_of k c.items)

abbrev pub enum_named : (s name : List ℕ) → Scope → Option Enumeration
enum_named s n c = first (λ e. is_text s n e.name) (enums_of c.items)

abbrev pub value_named : (s name : List ℕ) → List Value → Option Value
value_named s n vs = first (λ v. is_text s n v.name) vs

-- the extendee is compared as it is written with the full name by which the message was reached
abbrev pub extends : (s message : List ℕ) → Declaration → Bool
extends s m d = is_text s m d.extendee
