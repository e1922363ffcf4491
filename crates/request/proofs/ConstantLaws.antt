-- The laws of constants: the ways through the readers of a number, a bool and a constant, and the places that a constant holds.
-- Assumes nothing.
use Rattle.std.specs.Prelude.{◌≡◌, refl, Bool, true, false, List, ℕ, ◌+◌, ◌-◌, ◌%◌, ◌^◌, ◌≤◌, ◌<◌, eqb, ltb, length, get_or, Some, None, Option}
use Rattle.basis.specs.Kit.{sym, ◌∙◌}
use Rattle.basis.proofs.Kit.{arith, eq-eqb, ne_eqb, lt-ltb, le-ltb, w64, Fits}
use mathlib.Core.Path.{subst}
use mathlib.Core.Bool.{not}
use lib.Dec.{T}
use lib.Ieee.{binary64, of_bits, nan_bits}
use lib.Ieee.Bits.{nan_bits_above}
use Rattle.octets.specs.Octets.{big_at}
use Rattle.field.specs.declared.Span.{Span}
use Rattle.field.specs.Leaf.{span}
use Rattle.request.specs.declared.constant.Constant.{Constant}
use Rattle.request.specs.declared.constant.Constant.TheVariants.{Bool as BoolOf, Integer, Float, NotANumber}
use Rattle.request.specs.declared.constant.Constant.TheVariants.{Text, Ident, Message, List as ListOf}
use Rattle.request.specs.Table.{bool_tag, unsigned_tag, signed_tag, float_tag, string_tag, ident_tag, message_constant_tag, list_tag}
use Rattle.request.specs.Constant.{integer_of, float_of, bool_of, number_with, numeric_of, constant_of}

-- ---- the integer that 64 bits are
module _ (b : ℕ) where
  pub signed-plus : b < 0x8000000000000000 → Integer false b ≡ integer_of b
  unfolding integer_of
  signed-plus h = simp (integer_of, lt-ltb b (2 ^ 63) h)

  pub signed-minus : 0x8000000000000000 ≤ b → Fits w64 b → Integer true (0xFFFFFFFFFFFFFFFF - b + 1) ≡ integer_of b
  unfolding integer_of
  signed-minus h f =
      let q : 0xFFFFFFFFFFFFFFFF - b + 1 ≡ 2 ^ 64 - b = omega (arith, f.fits) in
      simp (integer_of, le-ltb b (2 ^ 63) h, q)

pub ruleset signed_laws = (signed-plus, signed-minus)

-- ---- the double that they are
module _ (b : ℕ) where
  pub float-nan : 0x7FF0000000000000 < b % 0x8000000000000000 → NotANumber b ≡ float_of b
  unfolding float_of
  float-nan h = simp (float_of, nan_bits_above binary64 b, lt-ltb _ _ h)

  module _ (h : b % 0x8000000000000000 ≤ 0x7FF0000000000000) where
    no_nan : nan_bits binary64 b ≡ false
    no_nan = nan_bits_above binary64 b ∙ le-ltb _ _ h

    pub float-real : T (not (nan_bits binary64 b))
    float-real = subst (λ (x : Bool). T (not x)) (sym no_nan) tt

    pub float_is : Float (of_bits binary64 b) ≡ float_of b
    unfolding float_of
    float_is = simp (float_of, no_nan)

pub ruleset float_laws = (float-nan, float-real, float_is)

-- ---- a bool
module _ (s : List ℕ) (a e : ℕ) where
  pub bool-size : (e - a ≡ 1 → ⊥) → None ≡ bool_of s a e
  unfolding bool_of
  bool-size n = simp (bool_of, ne_eqb (e - a) 1 n)

  module _ (h : e - a ≡ 1) where
    pub bool-other : 1 < get_or s a 0 → None ≡ bool_of s a e
    unfolding bool_of
    bool-other k = simp (bool_of, eq-eqb (e - a) 1 h, lt-ltb 1 (get_or s a 0) k)

    pub bool_is : get_or s a 0 ≤ 1 → Some (BoolOf (eqb (get_or s a 0) 1)) ≡ bool_of s a e
    unfolding bool_of
    bool_is k = simp (bool_of, eq-eqb (e - a) 1 h, le-ltb 1 (get_or s a 0) k)

pub ruleset bool_laws = (bool-size, bool-other, bool_is)

-- ---- a number
module _ (s : List ℕ) (t a e : ℕ) where
  pub number_size : (e - a ≡ 8 → ⊥) → None ≡ numeric_of s t a e
  unfolding numeric_of
  number_size n = simp (numeric_of, ne_eqb (e - a) 8 n)

  module _ (h : e - a ≡ 8) (b : ℕ) (q : b ≡ big_at 8 s a) where
    number-open : numeric_of s t a e ≡ number_with t b
    unfolding numeric_of
    number-open = simp (numeric_of, eq-eqb (e - a) 8 h, ← q)

    pub number-unsigned : t ≡ unsigned_tag → Some (Integer false b) ≡ numeric_of s t a e
    number-unsigned k = rw number-open (simp (number_with, eq-eqb t unsigned_tag k))

    module _ (n : t ≡ unsigned_tag → ⊥) where
      pub number-signed : t ≡ signed_tag → (r : Constant) → r ≡ integer_of b → Some r ≡ numeric_of s t a e
      number-signed k r p = rw (number-open, p) (simp (number_with, ne_eqb t unsigned_tag n, eq-eqb t signed_tag k))

      module _ (m : t ≡ signed_tag → ⊥) where
        pub number-float : t ≡ float_tag → (r : Constant) → r ≡ float_of b → Some r ≡ numeric_of s t a e
        number-float k r p =
            rw (number-open, p) (simp (number_with, ne_eqb t unsigned_tag n, ne_eqb t signed_tag m, eq-eqb t float_tag k))

        pub number-none : (t ≡ float_tag → ⊥) → None ≡ numeric_of s t a e
        number-none k =
            rw number-open (simp (number_with, ne_eqb t unsigned_tag n, ne_eqb t signed_tag m, ne_eqb t float_tag k))

pub ruleset number_laws = (number_size, number-unsigned, number-signed, number-float, number-none)

-- ---- a constant
module _ (s : List ℕ) (t a e : ℕ) where
  pub constant-bool : t ≡ bool_tag → (r : Option Constant) → r ≡ bool_of s a e → r ≡ constant_of s t a e
  unfolding constant_of
  constant-bool k r q = q ∙ simp (constant_of, eq-eqb t bool_tag k)

  module _ (n : t ≡ bool_tag → ⊥) where
    pub constant-text : t ≡ string_tag → Some (Text (span a e)) ≡ constant_of s t a e
    unfolding constant_of
    constant-text k = simp (constant_of, ne_eqb t bool_tag n, eq-eqb t string_tag k)

    module _ (m : t ≡ string_tag → ⊥) where
      pub constant-ident : t ≡ ident_tag → Some (Ident (span a e)) ≡ constant_of s t a e
      unfolding constant_of
      constant-ident k = simp (constant_of, ne_eqb t bool_tag n, ne_eqb t string_tag m, eq-eqb t ident_tag k)

      module _ (o : t ≡ ident_tag → ⊥) where
        pub constant-message : t ≡ message_constant_tag → Some (Message (span a e)) ≡ constant_of s t a e
        unfolding constant_of
        constant-message k =
            simp (constant_of, ne_eqb t bool_tag n, ne_eqb t string_tag m, ne_eqb t ident_tag o, eq-eqb t message_constant_tag k)

        module _ (p : t ≡ message_constant_tag → ⊥) where
          pub constant-list : t ≡ list_tag → Some (ListOf (span a e)) ≡ constant_of s t a e
          unfolding constant_of
          constant-list k =
              simp
              (constant_of, ne_eqb t bool_tag n, ne_eqb t string_tag m, ne_eqb t ident_tag o, ne_eqb t message_constant_tag p, eq-eqb t list_tag k)

          pub constant_number : (t ≡ list_tag → ⊥) → (r : Option Constant) → r ≡ numeric_of s t a e → r ≡ constant_of s t a e
          unfolding constant_of
          constant_number k r q =
              q
              ∙ simp
              (constant_of, ne_eqb t bool_tag n, ne_eqb t string_tag m, ne_eqb t ident_tag o, ne_eqb t message_constant_tag p, ne_eqb t list_tag k)

pub ruleset constant_laws = (constant-bool, constant-text, constant-ident, constant-message, constant-list, constant_number)

-- ---- the places that a constant holds are those of its payload
module _ (a e : ℕ) where
  abbrev Placed : Constant → Type 0
  Placed (BoolOf b) = Unit {0}
  Placed (Integer m n) = Unit {0}
  Placed (Float x) = Unit {0}
  Placed (NotANumber b) = Unit {0}
  Placed (Text p) = p ≡ span a e
  Placed (Ident p) = p ≡ span a e
  Placed (Message p) = p ≡ span a e
  Placed (ListOf p) = p ≡ span a e

  abbrev PlacedIn : Option Constant → Type 0
  PlacedIn None = Unit {0}
  PlacedIn (Some c) = Placed c

  signed-placed : (b : ℕ) → Placed (integer_of b)
  unfolding integer_of
  signed-placed b = go (ltb b (2 ^ 63))
    where
      go : (x : Bool) → Placed (elim x [ true ↦ Integer false b | false ↦ Integer true (2 ^ 64 - b) ])
      go true = tt
      go false = tt

  float-placed : (b : ℕ) → Placed (float_of b)
  unfolding float_of
  float-placed b = go (nan_bits binary64 b)
    where
      go : (x : Bool) → Placed (elim x [ true ↦ NotANumber b | false ↦ Float (of_bits binary64 b) ])
      go true = tt
      go false = tt

  bool-placed : (s : List ℕ) → PlacedIn (bool_of s a e)
  unfolding bool_of
  bool-placed s = go (eqb (e - a) 1) (ltb 1 (get_or s a 0))
    where
      go : (x y : Bool)
          → PlacedIn (elim x [ true ↦ elim y [ true ↦ None | false ↦ Some (BoolOf (eqb (get_or s a 0) 1)) ] | false ↦ None ])
      go true true = tt
      go true false = tt
      go false y = tt

  number-placed : (s : List ℕ) (t : ℕ) → PlacedIn (numeric_of s t a e)
  unfolding numeric_of
  number-placed s t = go (eqb (e - a) 8) (eqb t unsigned_tag) (eqb t signed_tag) (eqb t float_tag)
    where
      b : ℕ
      b = big_at 8 s a

      go : (w x y z : Bool) → PlacedIn (elim w [
        | true ↦ elim x [
          | true ↦ Some (Integer false b)
          | false ↦ elim y [ true ↦ Some (integer_of b) | false ↦ elim z [ true ↦ Some (float_of b) | false ↦ None ] ]
        ]
        | false ↦ None
      ])
      go true true y z = tt
      go true false true z = signed-placed b
      go true false false true = float-placed b
      go true false false false = tt
      go false x y z = tt

  constant-placed : (s : List ℕ) (t : ℕ) → PlacedIn (constant_of s t a e)
  unfolding constant_of
  constant-placed s t = go (eqb t bool_tag) (eqb t string_tag) (eqb t ident_tag) (eqb t message_constant_tag) (eqb t list_tag)
    where
      go : (v w x y z : Bool) → PlacedIn (elim v [
        | true ↦ bool_of s a e
        | false ↦ elim w [
          | true ↦ Some (Text (span a e))
          | false ↦ elim x [
            | true ↦ Some (Ident (span a e))
            | false ↦ elim y [
              | true ↦ Some (Message (span a e))
              | false ↦ elim z [ true ↦ Some (ListOf (span a e)) | false ↦ numeric_of s t a e ]
            ]
          ]
        ]
      ])
      go true w x y z = bool-placed s
      go false true x y z = refl
      go false false true y z = refl
      go false false false true z = refl
      go false false false false true = refl
      go false false false false false = number-placed s t

-- p is the span that a constant holds
pub data SpanOf (p : Span) : Constant → Type 0 where
  in-text : SpanOf p (Text p)
  in-ident : SpanOf p (Ident p)
  in-message : SpanOf p (Message p)
  in_list : SpanOf p (ListOf p)

module _ (c : Constant) (p : Span) where
  pub text-span : c ≡ Text p → SpanOf p c
  text-span x = rw x in-text

  pub ident-span : c ≡ Ident p → SpanOf p c
  ident-span x = rw x in-ident

  pub message-span : c ≡ Message p → SpanOf p c
  message-span x = rw x in-message

  pub list-span : c ≡ ListOf p → SpanOf p c
  list-span x = rw x in_list

span-placed : (a e : ℕ) {c : Constant} {p : Span} → SpanOf p c → Placed a e c → p ≡ span a e
span-placed a e in-text x = x
span-placed a e in-ident x = x
span-placed a e in-message x = x
span-placed a e in_list x = x

module _ (s : List ℕ) (t a e : ℕ) (r : Option Constant) (q : r ≡ constant_of s t a e) (c : Constant) (g : r ≡ Some c) (p : Span) (o : SpanOf p c) where
  pub span-place : p ≡ span a e
  span-place = span-placed a e o (subst (PlacedIn a e) (sym q ∙ g) (constant-placed a e s t))

  pub span_ordered : a ≤ e → p.from ≤ p.to
  span_ordered h = rw span-place h

  pub span_within : e ≤ length s → p.to ≤ length s
  span_within h = rw span-place h

pub ruleset constant_spans = (text-span, ident-span, message-span, list-span, span_ordered, span_within)
