-- The records of a constant on a field, from 01's "Option steps": "A message constant may hold lists and messages in turn; each pair is
-- written in order."
--
--         made_of r h x == the record of a scalar that fits a field of the shape h, or why it doesn't
--               Holder == what holds constants: a list on a field (or the field itself), or a message whose pairs name fields
--                Asked == what a constant is written on: a field, nothing at all, or why not
--        asked s r k n == what a constant of the name n is written on, where k holds it
--     in_message L s h f == the record of a message on a field of the shape h, f being what it holds
--   scalar_made L s r c h == the scalar constant c on a field of the shape h
--    records L s r k cs == the records of the constants cs, held by k
--
-- Assumes nothing.
use Rattle.std.specs.Prelude.{true, false, List, ℕ, eqb, Err, Ok, Result}
use Rattle.basis.specs.First.{told}
use Rattle.reply.specs.declared.Refusal.{Refusal}
use Rattle.reply.specs.declared.Refusal.TheVariants.{UnknownFieldName, UnknownEnumValue, MessageFieldRequiresMessageConstant}
use Rattle.field.specs.Leaf.{text}
use Rattle.types.specs.Types.{TYPE_MESSAGE}
use Rattle.sheet.specs.declared.declaration.Shape.{Shape}
use Rattle.scope.specs.declared.lookup.LookupScope.{LookupScope}
use Rattle.request.specs.declared.constant.Constant.{Constant}
use Rattle.request.specs.Tree.{PairName, unnamed, by_field, by_extension, by_url, Constants, none, scalar, message, list}
use Rattle.records.specs.Records.{nil, record_of}
use Rattle.records.specs.Made.{Made, made, wrong, both, holding}
use Rattle.lookups.specs.Lookups.{Lookups, field_named}
use Rattle.scalars.specs.Scalars.{scalar_on}
use Rattle.records.specs.declared.Body.{Body}

abbrev pub made_of : (request : List ℕ) → Shape → Result Body Refusal → Made Refusal
made_of r h (Ok b) = made (record_of r h b)
made_of r h (Err w) = wrong w

-- "A list, in a list too, gives one record an element, never packed." [VALUE-13]
pub data Holder : Type 0 where
  on : Shape → Holder
  within : LookupScope → Holder

pub data Asked : Type 0 where
  field : Shape → Asked
  passed : Asked
  refused : Refusal → Asked

-- 01, Replies: 9, "direct part, pair or query"; "Pairs named by 28 or 29 write nothing." [VALUE-10, VALUE-12]
abbrev pub asked : (s r : List ℕ) → Holder → PairName → Asked
asked s r (on h) n = field h
asked s r (within p) unnamed = passed
asked s r (within p) (by_field n) = told (refused UnknownFieldName) (λ d. field d.shape) (field_named s (text r n) p)
asked s r (within p) (by_extension n) = passed
asked s r (within p) (by_url n) = passed

abbrev pub on_asked : Asked → (Shape → Made Refusal) → Made Refusal
on_asked (field h) f = f h
on_asked passed f = made nil
on_asked (refused w) f = wrong w

abbrev pub reached : (field : ℕ) → Result LookupScope Refusal → (LookupScope → Made Refusal) → Made Refusal
reached n (Err w) f = wrong w
reached n (Ok p) f = holding n (f p)

module _ (L : Lookups) (s : List ℕ) where
  -- "A message constant needs a message type, else 11."; "A type path is looked up only for .. a message constant on a message" [VALUE-8,
  -- VALUE-9, STEP-11]
  abbrev pub in_message : Shape → (LookupScope → Made Refusal) → Made Refusal
  in_message h f = elim (eqb h.typ TYPE_MESSAGE) [
    | true ↦ reached h.number (L.message (text s h.path)) f
    | false ↦ wrong MessageFieldRequiresMessageConstant
  ]

module _ (L : Lookups) (s r : List ℕ) where
  unfoldable pub scalar_made : Constant → Shape → Made Refusal
  scalar_made c h = made_of r h (scalar_on L s r UnknownEnumValue h c)

  abbrev pub records : Holder → Constants → Made Refusal
  records k none = made nil
  records k (scalar n c rest) = both (on_asked (asked s r k n) (scalar_made c)) (records k rest)
  records k (list n inside rest) = both (on_asked (asked s r k n) λ h. records (on h) inside) (records k rest)
  records k (message n inside rest) =
      both (on_asked (asked s r k n) λ h. in_message L s h λ p. records (within p) inside) (records k rest)
