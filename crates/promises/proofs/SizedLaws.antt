-- The numbers that are read from bytes: a float constant of a request is of 64 bits, an enum value of a sheet of 32.
--
--      SizedAll cs <-> so is every float constant among the constants cs
--   SizedOptions os <-> and among the constants of the options os
--
-- Assumes nothing.
use Rattle.std.specs.Prelude.{◌≡◌, Bool, true, false, List, [], ◌∷◌, ℕ, zero, suc, ◌+◌, ◌-◌, ◌^◌, ◌<◌, eqb, ltb, get_or, length, Some, None, Option}
use Rattle.basis.proofs.Kit.{arith}
use Rattle.basis.proofs.FirstLaws.{Every, none_of, one_of, first_holds}
use native.Mathlib.Nat.{pow-suc, pow-zero}
use lib.Ieee.{binary64, nan_bits, of_bits}
use lib.Ieee.Bits.{to_bits-lt, of_bits-fits}
use Rattle.limits.specs.Figures.{most_constants}
use Rattle.octets.specs.Octets.{big_at}
use Rattle.octets.proofs.Bytes.{Bytes}
use Rattle.field.specs.declared.Span.{Span}
use Rattle.field.specs.Field.{field_at}
use Rattle.field.specs.Leaf.{span, any_bytes, of_size, on_leaf, leaf_at}
use Rattle.field.specs.Walk.{Walk, done, cut, step, walk}
use Rattle.sheet.specs.declared.declaration.Value.{Value}
use Rattle.sheet.specs.Table.{name_tag, value_tag, signed_number_tag}
use Rattle.sheet.specs.Declaration.{last_at, value_at}
use Rattle.sheet.specs.Tree.{value_onto, value_in as value_from, values_in}
use Rattle.request.specs.declared.constant.Constant.TheVariants.{Bool as BoolOf, Integer, Float as FloatOf, NotANumber}
use Rattle.request.specs.declared.constant.Constant.TheVariants.{Text, Ident, Message as MessageOf, List as ListOf}
use Rattle.request.specs.Table.{bool_tag, unsigned_tag, signed_tag, float_tag, string_tag, ident_tag, message_constant_tag, list_tag, option_tag}
use Rattle.request.specs.Constant.{integer_of, float_of, bool_of, numeric_of, constant_of, is_pair_name}
use Rattle.request.specs.Tree.{PairName, unnamed, Constants, none, scalar, message, list, ConstantReader, pair_name_of, elements_in, pairs_in}
use Rattle.request.specs.Tree.{if_held, constant_in}
use Rattle.request.specs.Name.{after_parts}
use Rattle.request.specs.Request.{RequestOption as Setting, heading_of, constant_of_field, option_of, option_in, options_in, request_with, request_of}
use Rattle.lookups.specs.Lookups.{value_in}
use Rattle.promises.proofs.ScalarFits.{SizedBits}
use Rattle.field.specs.declared.Field.{Field}
use Rattle.request.specs.declared.constant.Constant.{Constant}
use Rattle.request.specs.declared.heading.Heading.{Heading}

big_lt : (s : List ℕ) → Bytes s → (k at : ℕ) → big_at k s at < 256 ^ k
unfolding big_at
big_lt s b zero at = rw pow-zero (omega arith)
big_lt s b (suc k) at = rw pow-suc (omega (arith, big_lt s b k at, b (at + k)))

-- ---- one constant
abbrev SizedHeld : Option Constant → Type 0
SizedHeld None = Unit {0}
SizedHeld (Some c) = SizedBits c

float-sized : (b : ℕ) → b < 2 ^ 64 → SizedBits (float_of b)
unfolding float_of
float-sized b h = go (nan_bits binary64 b)
  where
    go : (x : Bool) → SizedBits (elim x [ true ↦ NotANumber b | false ↦ FloatOf (of_bits binary64 b) ])
    go true = h
    go false = to_bits-lt binary64 (of_bits binary64 b) (of_bits-fits binary64 b)

integer-sized : (b : ℕ) → SizedBits (integer_of b)
unfolding integer_of
integer-sized b = go (ltb b (2 ^ 63))
  where
    go : (x : Bool) → SizedBits (elim x [ true ↦ Integer false b | false ↦ Integer true (2 ^ 64 - b) ])
    go true = tt
    go false = tt

module _ (r : List ℕ) (bytes : Bytes r) where
  numeric-sized : (t a e : ℕ) → SizedHeld (numeric_of r t a e)
  unfolding numeric_of
  numeric-sized t a e = go (eqb (e - a) 8) (eqb t unsigned_tag) (eqb t signed_tag) (eqb t float_tag)
    where
      go : (w x y z : Bool) → SizedHeld (elim w [
        | true ↦ elim x [
          | true ↦ Some (Integer false (big_at 8 r a))
          | false ↦ elim y [
            | true ↦ Some (integer_of (big_at 8 r a))
            | false ↦ elim z [ true ↦ Some (float_of (big_at 8 r a)) | false ↦ None ]
          ]
        ]
        | false ↦ None
      ])
      go true true y z = tt
      go true false true z = integer-sized (big_at 8 r a)
      go true false false true = float-sized (big_at 8 r a) (big_lt r bytes 8 a)
      go true false false false = tt
      go false x y z = tt

  bool-sized : (a e : ℕ) → SizedHeld (bool_of r a e)
  unfolding bool_of
  bool-sized a e = go (eqb (e - a) 1) (ltb 1 (get_or r a 0))
    where
      go : (x y : Bool) → SizedHeld (elim x [
        | true ↦ elim y [ true ↦ None | false ↦ Some (BoolOf (eqb (get_or r a 0) 1)) ]
        | false ↦ None
      ])
      go true true = tt
      go true false = tt
      go false y = tt

  constant-sized : (t a e : ℕ) → SizedHeld (constant_of r t a e)
  unfolding constant_of
  constant-sized t a e = go (eqb t bool_tag) (eqb t string_tag) (eqb t ident_tag) (eqb t message_constant_tag) (eqb t list_tag)
    where
      go : (v w x y z : Bool) → SizedHeld (elim v [
        | true ↦ bool_of r a e
        | false ↦ elim w [
          | true ↦ Some (Text (span a e))
          | false ↦ elim x [
            | true ↦ Some (Ident (span a e))
            | false ↦ elim y [
              | true ↦ Some (MessageOf (span a e))
              | false ↦ elim z [ true ↦ Some (ListOf (span a e)) | false ↦ numeric_of r t a e ]
            ]
          ]
        ]
      ])
      go true w x y z = bool-sized a e
      go false true x y z = tt
      go false false true y z = tt
      go false false false true z = tt
      go false false false false true = tt
      go false false false false false = numeric-sized t a e

-- ---- constants
abbrev pub SizedAll : Constants → Type 0
SizedAll none = Unit {0}
SizedAll (scalar n c rest) = SizedBits c × SizedAll rest
SizedAll (message n i rest) = SizedAll i × SizedAll rest
SizedAll (list n i rest) = SizedAll i × SizedAll rest

module _ (inner : ConstantReader)
    (ih : (n : PairName) (t a e : ℕ) (rest : Constants) → SizedAll rest → SizedAll (inner n t a e rest)) where
  elements-sized : (w : Walk) → SizedAll (elements_in inner w)
  elements-sized done = tt
  elements-sized cut = tt
  elements-sized (step t a e w) = ih unnamed t a e (elements_in inner w) (elements-sized w)

  pairs-sized : (w : Walk) → SizedAll (pairs_in inner w)
  pairs-sized done = tt
  pairs-sized cut = tt
  pairs-sized (step t a e done) = tt
  pairs-sized (step t a e cut) = tt
  pairs-sized (step t a e (step k b f w)) = go (is_pair_name t) (pairs-sized w)
    where
      go : (x : Bool) → SizedAll (pairs_in inner w)
          → SizedAll (elim x [ true ↦ inner (pair_name_of t (span a e)) k b f (pairs_in inner w) | false ↦ none ])
      go true u = ih (pair_name_of t (span a e)) k b f (pairs_in inner w) u
      go false u = tt

  held-sized : (r : List ℕ) (n : PairName) (rest : Constants) → SizedAll rest → (h : Option Constant) → SizedHeld h
      → SizedAll (if_held inner r n rest h)
  held-sized r n rest u None k = u
  held-sized r n rest u (Some (BoolOf b)) k = (k, u)
  held-sized r n rest u (Some (Integer m x)) k = (k, u)
  held-sized r n rest u (Some (FloatOf x)) k = (k, u)
  held-sized r n rest u (Some (NotANumber b)) k = (k, u)
  held-sized r n rest u (Some (Text p)) k = (k, u)
  held-sized r n rest u (Some (Ident p)) k = (k, u)
  held-sized r n rest u (Some (MessageOf p)) k = (pairs-sized (walk r p.from p.to), u)
  held-sized r n rest u (Some (ListOf p)) k = (elements-sized (walk r p.from p.to), u)

module _ (r : List ℕ) (bytes : Bytes r) where
  constants-sized : (d : ℕ) (n : PairName) (t a e : ℕ) (rest : Constants) → SizedAll rest → SizedAll (constant_in d r n t a e rest)
  constants-sized zero n t a e rest u = u
  constants-sized (suc d) n t a e rest u =
      held-sized (constant_in d r) (constants-sized d) r n rest u (constant_of r t a e) (constant-sized r bytes t a e)

  field-sized : (f : Option Field) → SizedAll (constant_of_field r f)
  field-sized None = tt
  field-sized (Some found) = constants-sized most_constants unnamed found.tag found.from found.to none tt

  option-sized : (a e : ℕ) → SizedAll (option_of r a e).constant
  unfolding option_of
  option-sized a e = field-sized (field_at r (after_parts a (walk r a e)) e)

-- ---- options
abbrev pub SizedOptions : List Setting → Type 0
SizedOptions [] = Unit {0}
SizedOptions (o ∷ os) = SizedAll o.constant × SizedOptions os

module _ (r : List ℕ) (bytes : Bytes r) where
  options-sized : (w : Walk) → SizedOptions (options_in r w)
  unfolding option_in
  options-sized done = tt
  options-sized cut = tt
  options-sized (step t a e w) = go (eqb t option_tag) (options-sized w)
    where
      go : (b : Bool) → SizedOptions (options_in r w)
          → SizedOptions (elim b [ true ↦ option_of r a e ∷ options_in r w | false ↦ options_in r w ])
      go true u = (option-sized r bytes a e, u)
      go false u = u

  pub request-sized : SizedOptions (request_of r).options
  unfolding request_of
  request-sized = go (heading_of r)
    where
      go : (h : Option Heading) → SizedOptions (request_with r h).options
      go None = tt
      go (Some h) = options-sized (walk r h.options (length r))

-- ---- enum values
abbrev SizedValue : Value → Type 0
SizedValue v = v.number < 2 ^ 32

abbrev SizedValued : Option Value → Type 0
SizedValued None = Unit {0}
SizedValued (Some v) = SizedValue v

module _ (s : List ℕ) (bytes : Bytes s) where
  value-sized : (a e : ℕ) → SizedValued (value_at s a e)
  unfolding value_at
  value-sized a e = go (leaf_at name_tag any_bytes s a e)
    where
      inner : (n numbers : ℕ) (l : Option Span)
          → SizedValued (on_leaf None l λ p. Some (record { name = span n numbers; number = big_at 4 s p.from }))
      inner n numbers None = tt
      inner n numbers (Some place) = big_lt s bytes 4 place.from

      go : (l : Option Span) → SizedValued (on_leaf None l λ q.
          on_leaf None (last_at e (leaf_at signed_number_tag (of_size 4) s q.to e)) λ u.
          Some (record { name = span q.from q.to; number = big_at 4 s u.from }))
      go None = tt
      go (Some it) = inner it.from it.to (last_at e (leaf_at signed_number_tag (of_size 4) s it.to e))

  values-sized : (w : Walk) → Every SizedValue (values_in s w)
  unfolding value_from
  values-sized done = none_of
  values-sized cut = none_of
  values-sized (step t a e w) = go (eqb t value_tag) (value_at s a e) (value-sized a e) (values-sized w)
    where
      go : (b : Bool) (v : Option Value) → SizedValued v → Every SizedValue (values_in s w)
          → Every SizedValue (elim b [ true ↦ value_onto v (values_in s w) | false ↦ values_in s w ])
      go true None k u = u
      go true (Some v) k u = one_of k u
      go false v k u = u

  pub value-small : (n : List ℕ) (vs : Span) (v : Value) → value_in s n vs ≡ Some v → v.number < 2 ^ 32
  value-small n vs = first_holds SizedValue _ (values-sized (walk s vs.from vs.to))
