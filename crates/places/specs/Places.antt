-- Where a call is refused, from 02's request [9]: what the two positions of its answer say, of `resolve` and of `query`.
--
--              scope_of r ==  the scope of the request r
--          options_type r ==  the options type that it names
--          options_at r p ==  the options message, where that type is the message at p
--      settled_in s r p o ==  what the option o of r comes to in it
--      OptionRefused s r <-> sheet, request and options type are fine, and an option is refused by its own steps
--              Neither a <-> the answer a has neither position
--       Positioned s r a <-> the answer a has an option's position exactly where an option is refused so, and else neither position
--               Passes b <-> the answer b is no refusal, 17 aside
--              at_first a ==  the answer a, at option 0
--     FirstRefused s r a <-> every option before that one, in a request of its own, is not refused, and it is refused there as it is here
--      PartRefused s r a <-> the option is the one at that position, and the part's position is that of the part of its name at fault
--              parts_of q ==  the parts of a query's name q
--      NothingBehind h w <-> never: a name alone has nothing behind its last part
--   NameRefused s t q bs <-> the inputs of a query are fine, its bytes are read, and its name is refused by its steps
--         QueryPlaced .. <-> its answer a has no option's position, and a part's exactly where its name is refused so: that of the part at
--                            fault
--                 Bare o <-> what comes to o is refused nowhere, if it is
--
-- Assumes nothing.
use Rattle.std.specs.Prelude.{◌≡◌, List, [], ℕ, ◌<◌, length, ◌⊎◌, Ok}
use mathlib.Core.Option.{some}
use Rattle.basis.specs.Among.{Among}
use Rattle.std.proofs.Math.ListN.{get_elem?}
use Rattle.reply.specs.declared.Refusal.{Refusal}
use Rattle.reply.specs.declared.Refusal.TheVariants.{NoRoom}
use Rattle.reply.specs.declared.Where.TheVariants.{Nowhere}
use Rattle.reply.specs.declared.Cause.{Cause}
use Rattle.reply.specs.declared.Answer.{Answer}
use Rattle.reply.specs.Reply.{nowhere, refused_for, refused_by}
use Rattle.reply.specs.Outcome.{Outcome, refused, Answered}
use Rattle.field.specs.Leaf.{text}
use Rattle.field.specs.Walk.{walk}
use Rattle.sheetform.specs.Form.{judge_sheet}
use Rattle.scope.specs.declared.lookup.LookupScope.{LookupScope}
use Rattle.request.specs.declared.name.Part.{Part}
use Rattle.request.specs.Name.{parts_in}
use Rattle.request.specs.Request.{RequestOption, request_of}
use Rattle.requestform.specs.Form.{judge_request}
use Rattle.lookups.specs.Lookups.{Message, walking}
use Rattle.faults.specs.declared.Fault.{Fault}
use Rattle.options.specs.Settle.{Settled, fails, settle}
use Rattle.faults.specs.Faults.{cause_at}
use Rattle.options.specs.Resolve.{resolve_bytes}
use Rattle.alone.specs.Alone.{alone}
use Rattle.entries.specs.Tree.{Tree}
use Rattle.entries.specs.Reading.{under, records_of}
use Rattle.naming.specs.Name.{refused_at, of_part, declarations}
use Rattle.query.specs.Query.{judge_inputs}
use Rattle.places.specs.Parts.{AtPart, FaultOf}
use Rattle.reply.specs.Verdicts.{fine}

-- ---- a request
abbrev pub scope_of : (r : List ℕ) → List ℕ
scope_of r = text r (request_of r).scope

abbrev pub options_type : (r : List ℕ) → List ℕ
options_type r = text r (request_of r).options_type

abbrev pub options_at : (r : List ℕ) → LookupScope → Message
options_at r p = record { name = options_type r; place = p }

abbrev pub settled_in : (s r : List ℕ) → LookupScope → RequestOption → Settled
settled_in s r p o = settle (walking s) s r (scope_of r) (options_at r p) o

pub record OptionRefused (s r : List ℕ) : Type 0 where
  pub sheet : judge_sheet s ≡ fine
  pub request : judge_request r ≡ fine
  pub place : LookupScope
  pub type : (walking s).message (options_type r) ≡ Ok place
  pub option : RequestOption
  pub one : Among option (request_of r).options
  pub fault : Fault
  pub refused : settled_in s r place option ≡ fails fault

abbrev pub Neither : Answer → Type 0
Neither a = (a.option ≡ nowhere) × (a.part ≡ nowhere)

-- "both from 0, and 65,535 where there is none (done, NoRoom, a fault of sheet, request or options type)" [WHERE-1]
pub record Positioned (s r : List ℕ) (a : Answer) : Type 0 where
  pub whenever : OptionRefused s r → a.option < length (request_of r).options
  pub small : OptionRefused s r → a.option < nowhere
  pub only : (a.option ≡ nowhere → ⊥) → OptionRefused s r
  pub neither : (OptionRefused s r → ⊥) → Neither a

abbrev pub Passes : Answer → Type 0
Passes b = (b.reply ≡ 0) ⊎ (b ≡ refused_by NoRoom)

abbrev pub at_first : Answer → Answer
at_first a = record {
  reply = a.reply;
  second = a.second;
  absent = a.absent;
  length = a.length;
  option = 0;
  part = a.part;
}

-- 01: "options go in order and the first refused option ends the work" [STEP-3, WHERE-3]
pub record FirstRefused (s r : List ℕ) (a : Answer) : Type 0 where
  pub before : (i : ℕ) → i < a.option → (room left : List ℕ) (b : Answer) → Answered (resolve_bytes s (alone r i)) room left b → Passes b
  pub itself : (room left : List ℕ) (b : Answer) → Answered (resolve_bytes s (alone r a.option)) room left b → b ≡ at_first a

pub record PartRefused (s r : List ℕ) (a : Answer) : Type 0 where
  pub option : RequestOption
  pub at : get_elem? (request_of r).options a.option ≡ some option
  pub below : a.part < length option.parts
  pub place : LookupScope
  pub type : (walking s).message (options_type r) ≡ Ok place
  pub fault : Fault
  pub faulty : FaultOf (walking s) s r (scope_of r) (options_at r place) option fault
  pub answer : a ≡ refused_for (cause_at a.option fault)

-- ---- a query
abbrev pub parts_of : (name : List ℕ) → List Part
parts_of q = parts_in (walk q 0 (length q))

abbrev pub NothingBehind : {A B : Type 0} → A → B → Type 0
NothingBehind h w = ⊥

pub record NameRefused (s type q bs : List ℕ) : Type 0 where
  pub fine : judge_inputs (judge_sheet s) type q bs ≡ fine
  pub message : Message
  pub records : Tree
  pub read : records_of (walking s) s type bs ≡ under message records
  pub part : ℕ
  pub why : Refusal
  pub refused : declarations (walking s) s q 0 message (parts_of q) ≡ refused_at part why

-- "a query has no option, and its name has parts" [WHERE-2]
pub record QueryPlaced (s type q bs : List ℕ) (a : Answer) : Type 0 where
  pub no-option : a.option ≡ nowhere
  pub whenever : (k : NameRefused s type q bs) → a ≡ refused_for (of_part k.part k.why)
  pub below : (k : NameRefused s type q bs) → k.part < length (parts_of q)
  pub small : (k : NameRefused s type q bs) → k.part < nowhere
  pub at : (k : NameRefused s type q bs) → AtPart (walking s) s q [] NothingBehind k.message (parts_of q) k.part k.why
  pub neither : (NameRefused s type q bs → ⊥) → a.part ≡ nowhere

-- ---- every other call
abbrev pub Bare : {A : Type 0} → Outcome A → Type 0
Bare o = (c : Cause) → o ≡ refused c → c.place ≡ Nowhere
