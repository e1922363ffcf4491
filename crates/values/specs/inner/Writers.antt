-- What each writer of constants writes, as functions of places of the request. `left` levels of constants are left.
--
--           most_scalar c == how many bytes the record of the scalar c has at the most
--               kind_of c == whether a constant is a scalar, a list or a message
--       held_at d r t a e == the constant of a field, where a level is left for it
--     target_of s r c d x == what the pair x of the message at c is written on
--    value_made h d t a e == the constant of the tag t whose payload is from a to e, on a field of the shape h
--       list_made h d a e == the elements of a list, likewise
--      pairs_made p d a e == the pairs of a message that stands at p
--         pair_made p d x == one pair of it
--    message_made h d a e == a message constant on a field of the shape h
--
-- Assumes nothing.
use Rattle.std.specs.Prelude.{true, false, List, ℕ, zero, suc, ◌+◌, ◌-◌, eqb, Err, None, Some, Ok, Option, Result}
use Rattle.basis.specs.First.{told}
use Rattle.limits.specs.Figures.{most_varint}
use Rattle.reply.specs.declared.Refusal.{Refusal}
use Rattle.reply.specs.declared.Refusal.TheVariants.{UnknownFieldName}
use Rattle.field.specs.Leaf.{text}
use Rattle.field.specs.Walk.{walk}
use Rattle.sheet.specs.declared.declaration.Shape.{Shape}
use Rattle.scope.specs.declared.lookup.LookupScope.{LookupScope}
use Rattle.request.specs.declared.constant.Constant.{Constant}
use Rattle.request.specs.declared.constant.Constant.TheVariants.{Bool as BoolOf, Integer, Float as FloatOf, NotANumber}
use Rattle.request.specs.declared.constant.Constant.TheVariants.{Text, Ident, Message as MessageOf, List as ListOf}
use Rattle.request.specs.Table.{pair_field_tag}
use Rattle.request.specs.Constant.{constant_of}
use Rattle.request.specs.Tree.{none, unnamed, pair_name_of, elements_in, pairs_in, constant_in}
use Rattle.pair.specs.declared.Pair.{Pair}
use Rattle.records.specs.Made.{Made}
use Rattle.lookups.specs.Lookups.{Lookups, field_named}
use Rattle.values.specs.declared.Kind.{Kind}
use Rattle.values.specs.declared.Kind.TheVariants.{Scalar, List as Several, Message}
use Rattle.values.specs.Values.{on, within, in_message, records}

-- a tag and a varint, or a tag, a length and the bytes
abbrev pub most_scalar : Constant → ℕ
most_scalar (BoolOf b) = most_varint + most_varint
most_scalar (Integer m n) = most_varint + most_varint
most_scalar (FloatOf x) = most_varint + most_varint
most_scalar (NotANumber b) = most_varint + most_varint
most_scalar (Text p) = most_varint + most_varint + (p.to - p.from)
most_scalar (Ident p) = most_varint + most_varint
most_scalar (MessageOf p) = 0
most_scalar (ListOf p) = 0

abbrev pub kind_of : Constant → Kind
kind_of (BoolOf b) = Scalar
kind_of (Integer m n) = Scalar
kind_of (FloatOf x) = Scalar
kind_of (NotANumber b) = Scalar
kind_of (Text p) = Scalar
kind_of (Ident p) = Scalar
kind_of (MessageOf p) = Message
kind_of (ListOf p) = Several

unfoldable pub held_at : (left : ℕ) (r : List ℕ) (tag from to : ℕ) → Option Constant
held_at zero r t a e = None
held_at (suc d) r t a e = constant_of r t a e

abbrev pub held_target : (s r : List ℕ) → LookupScope → Pair → Option Constant → Result (Option Shape) Refusal
held_target s r c x None = Ok None
held_target s r c x (Some k) = elim (eqb x.by pair_field_tag) [
  | true ↦ told (Err UnknownFieldName) (λ d. Ok (Some d.shape)) (field_named s (text r x.name) c)
  | false ↦ Ok None
]

unfoldable pub target_of : (s r : List ℕ) → LookupScope → (left : ℕ) → Pair → Result (Option Shape) Refusal
target_of s r c d x = held_target s r c x (held_at d r x.tag x.constant.from x.constant.to)

module _ (L : Lookups) (s r : List ℕ) where
  unfoldable pub value_made : Shape → (left tag from to : ℕ) → Made Refusal
  value_made h d t a e = records L s r (on h) (constant_in d r unnamed t a e none)

  unfoldable pub list_made : Shape → (left from to : ℕ) → Made Refusal
  list_made h d a e = records L s r (on h) (elements_in (constant_in d r) (walk r a e))

  unfoldable pub pairs_made : LookupScope → (left from to : ℕ) → Made Refusal
  pairs_made p d a e = records L s r (within p) (pairs_in (constant_in d r) (walk r a e))

  unfoldable pub pair_made : LookupScope → (left : ℕ) → Pair → Made Refusal
  pair_made p d x =
      records L s r (within p) (constant_in d r (pair_name_of x.by x.name) x.tag x.constant.from x.constant.to none)

  unfoldable pub message_made : Shape → (left from to : ℕ) → Made Refusal
  message_made h d a e = in_message L s h λ p. pairs_made p d a e
