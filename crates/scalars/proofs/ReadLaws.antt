-- A constant that was read from a request is inside it: its span is that of its payload, and its float is no NaN.
-- Assumes nothing.
use Rattle.std.specs.Prelude.{◌≡◌, Bool, true, false, List, ℕ, ◌-◌, ◌^◌, ◌≤◌, eqb, ltb, length, get_or, Some, None, Option}
use Rattle.basis.specs.Kit.{sym, ◌∙◌}
use mathlib.Core.Path.{subst}
use mathlib.Core.Bool.{not}
use lib.Dec.{T}
use lib.Ieee.{binary64, of_bits, nan_bits, is_nan}
use lib.Ieee.Bits.{nan_bits_is}
use Rattle.octets.specs.Octets.{big_at}
use Rattle.field.specs.Leaf.{span}
use Rattle.request.specs.declared.constant.Constant.{Constant}
use Rattle.request.specs.declared.constant.Constant.TheVariants.{Bool as BoolOf, Integer, Float as FloatOf, NotANumber}
use Rattle.request.specs.declared.constant.Constant.TheVariants.{Text, Ident, Message as MessageOf, List as ListOf}
use Rattle.request.specs.Table.{bool_tag, unsigned_tag, signed_tag, float_tag, string_tag, ident_tag, message_constant_tag, list_tag}
use Rattle.request.specs.Constant.{integer_of, float_of, bool_of, numeric_of, constant_of}
use Rattle.scalars.specs.inner.Inside.{Inside}

module _ (s : List ℕ) where
  abbrev HeldInside : Option Constant → Type 0
  HeldInside None = Unit {0}
  HeldInside (Some c) = Inside c s

  integer-inside : (b : ℕ) → Inside (integer_of b) s
  unfolding integer_of Inside
  integer-inside b = go (ltb b (2 ^ 63))
    where
      go : (x : Bool) → Inside (elim x [ true ↦ Integer false b | false ↦ Integer true (2 ^ 64 - b) ]) s
      go true = tt
      go false = tt

  float-inside : (b : ℕ) → Inside (float_of b) s
  unfolding float_of Inside
  float-inside b = go (nan_bits binary64 b) (nan_bits_is binary64 b)
    where
      go : (x : Bool) → x ≡ is_nan (of_bits binary64 b) → Inside (elim x [ true ↦ NotANumber b | false ↦ FloatOf (of_bits binary64 b) ]) s
      go true e = tt
      go false e = subst (λ (y : Bool). T (not y)) e tt

  module _ (t a e : ℕ) where
    bool-inside : HeldInside (bool_of s a e)
    unfolding bool_of Inside
    bool-inside = go (eqb (e - a) 1) (ltb 1 (get_or s a 0))
      where
        go : (x y : Bool)
            → HeldInside (elim x [ true ↦ elim y [ true ↦ None | false ↦ Some (BoolOf (eqb (get_or s a 0) 1)) ] | false ↦ None ])
        go true true = tt
        go true false = tt
        go false y = tt

    number-inside : HeldInside (numeric_of s t a e)
    unfolding numeric_of Inside
    number-inside = go (eqb (e - a) 8) (eqb t unsigned_tag) (eqb t signed_tag) (eqb t float_tag) (big_at 8 s a)
      where
        go : (w x y z : Bool) (b : ℕ) → HeldInside (elim w [
          | true ↦ elim x [
            | true ↦ Some (Integer false b)
            | false ↦ elim y [ true ↦ Some (integer_of b) | false ↦ elim z [ true ↦ Some (float_of b) | false ↦ None ] ]
          ]
          | false ↦ None
        ])
        go true true y z b = tt
        go true false true z b = integer-inside b
        go true false false true b = float-inside b
        go true false false false b = tt
        go false x y z b = tt

    module _ (h : a ≤ e) (k : e ≤ length s) where
      held-inside : HeldInside (constant_of s t a e)
      unfolding constant_of Inside
      held-inside = go (eqb t bool_tag) (eqb t string_tag) (eqb t ident_tag) (eqb t message_constant_tag) (eqb t list_tag)
        where
          go : (v w x y z : Bool) → HeldInside (elim v [
            | true ↦ bool_of s a e
            | false ↦ elim w [
              | true ↦ Some (Text (span a e))
              | false ↦ elim x [
                | true ↦ Some (Ident (span a e))
                | false ↦ elim y [
                  | true ↦ Some (MessageOf (span a e))
                  | false ↦ elim z [ true ↦ Some (ListOf (span a e)) | false ↦ numeric_of s t a e ]
                ]
              ]
            ]
          ])
          go true w x y z = bool-inside
          go false true x y z = (h, k)
          go false false true y z = (h, k)
          go false false false true z = (h, k)
          go false false false false true = (h, k)
          go false false false false false = number-inside

      pub read-inside : (r : Option Constant) → r ≡ constant_of s t a e → (c : Constant) → r ≡ Some c → Inside c s
      read-inside r q c g = subst HeldInside (sym q ∙ g) held-inside
