-- What a scalar constant that fits a field is: a number that is a value of the field's type, or bytes on a type that has a length.
--
--      SizedBits c <-> a float constant, by its bits, is of 64 bits
--     BodyFits t b <-> the body b is a value of the type t, by its wire type
--
-- Assumes nothing.
use Rattle.std.specs.Prelude.{◌≡◌, refl, Bool, true, false, ◌||◌, List, [], ◌∷◌, ℕ, zero, suc, ◌+◌, ◌-◌, ◌*◌, ◌%◌, ◌^◌, ◌≤◌, ◌<◌, eqb, ltb, leb, Option, None, Some, Err, Ok, Result}
use Rattle.basis.proofs.Kit.{arith}
use mathlib.Core.Logic.{inl, inr}
use borrow.Author.Tests.{eqb-true, leb-true, ltb-true, ltb-false}
use lib.Ieee.{Float, nan, inf, fin, Format, binary32, binary64, top, of_int, of_bits, round, to_bits, up, down}
use lib.Ieee.Bits.{to_bits-lt}
use lib.Ieee.Fits.{round-fits, nan-fits, inf-fits, of_int-fits}
use Rattle.reply.specs.declared.Refusal.{Refusal}
use Rattle.reply.specs.declared.Refusal.TheVariants.{ValueRange, StrLitDecodeError}
use Rattle.field.specs.declared.Span.{Span}
use Rattle.field.specs.Leaf.{text}
use Rattle.utf8.specs.Utf8.{is_utf8}
use Rattle.types.specs.Types.{is_any, wire_of, VARINT, I64, LEN, I32, TYPE_MESSAGE}
use Rattle.types.specs.Types.{TYPE_DOUBLE, TYPE_FLOAT, TYPE_INT64, TYPE_UINT64, TYPE_INT32, TYPE_FIXED64}
use Rattle.types.specs.Types.{TYPE_FIXED32, TYPE_BOOL, TYPE_STRING, TYPE_BYTES, TYPE_UINT32, TYPE_ENUM, TYPE_SFIXED32}
use Rattle.types.specs.Types.{TYPE_SFIXED64, TYPE_SINT32, TYPE_SINT64}
use Rattle.wire.specs.Numbers.{widen32_of}
use Rattle.payloads.specs.Value as value
use Rattle.round.specs.Rounding.{signed_of, int_bits, narrow, narrow_bits}
use Rattle.sheet.specs.declared.declaration.Shape.{Shape}
use Rattle.sheet.specs.declared.declaration.Value.{Value}
use Rattle.request.specs.declared.constant.Constant.{Constant}
use Rattle.request.specs.declared.constant.Constant.TheVariants.{Bool as BoolOf, Integer, Float as FloatOf, NotANumber}
use Rattle.request.specs.declared.constant.Constant.TheVariants.{Text, Ident, Message as MessageOf, List as ListOf}
use Rattle.records.specs.declared.Body.{Body}
use Rattle.records.specs.declared.Body.TheVariants.{Bits, Bytes}
use Rattle.lookups.specs.Lookups.{Lookups, value_in}
use Rattle.scalars.specs.Scalars.{unsupported, is_small, is_signed, is_integer, most_of, pattern_of, listed, among}
use Rattle.scalars.specs.Scalars.{integer_on, float_on, string_on, bool_on, ident_on, scalar_on}

abbrev pub SizedBits : Constant → Type 0
SizedBits (BoolOf b) = Unit {0}
SizedBits (Integer m n) = Unit {0}
SizedBits (FloatOf x) = to_bits binary64 x < 2 ^ 64
SizedBits (NotANumber b) = b < 2 ^ 64
SizedBits (Text p) = Unit {0}
SizedBits (Ident p) = Unit {0}
SizedBits (MessageOf p) = Unit {0}
SizedBits (ListOf p) = Unit {0}

pub record Number (t v : ℕ) : Type 0 where
  pub wire : is_any (wire_of t) (VARINT ∷ I64 ∷ I32 ∷ []) ≡ true
  pub fits : value.Fits t v

pub record Sized (t : ℕ) : Type 0 where
  pub wire : wire_of t ≡ LEN
  pub plain : t ≡ TYPE_MESSAGE → ⊥

abbrev pub BodyFits : (typ : ℕ) → Body → Type 0
BodyFits t (Bits v) = Number t v
BodyFits t (Bytes p) = Sized t

abbrev pub ScalarFits : (typ : ℕ) → Result Body Refusal → Type 0
ScalarFits t (Ok b) = BodyFits t b
ScalarFits t (Err w) = Unit {0}

-- ---- a type by a test that holds of it
or_elim : {C : Type 0} (a b : Bool) → (a ≡ true → C) → (b ≡ true → C) → (a || b) ≡ true → C
or_elim true b f g h = f refl
or_elim false b f g h = g h

type-is : (P : ℕ → Type 0) (t k : ℕ) → P k → eqb t k ≡ true → P t
type-is P t k p h = rw (eqb-true t k h) p

-- an integer type, by what holds of each
module _ (P : ℕ → Type 0) (int32 : P TYPE_INT32) (sint32 : P TYPE_SINT32) (sfixed32 : P TYPE_SFIXED32) (uint32 : P TYPE_UINT32)
    (fixed32 : P TYPE_FIXED32) (int64 : P TYPE_INT64) (sint64 : P TYPE_SINT64) (sfixed64 : P TYPE_SFIXED64) (uint64 : P TYPE_UINT64)
    (fixed64 : P TYPE_FIXED64) (t : ℕ) where
  narrow-is : (eqb t TYPE_INT32 || eqb t TYPE_SINT32 || eqb t TYPE_SFIXED32) ≡ true → P t
  narrow-is =
      or_elim (eqb t TYPE_INT32 || eqb t TYPE_SINT32) (eqb t TYPE_SFIXED32)
      (or_elim (eqb t TYPE_INT32) (eqb t TYPE_SINT32) (type-is P t TYPE_INT32 int32) (type-is P t TYPE_SINT32 sint32))
      (type-is P t TYPE_SFIXED32 sfixed32)

  small_is : is_small t ≡ true → P t
  unfolding is_small
  small_is =
      or_elim _ (eqb t TYPE_FIXED32) (or_elim _ (eqb t TYPE_UINT32) narrow-is (type-is P t TYPE_UINT32 uint32))
      (type-is P t TYPE_FIXED32 fixed32)

  signed_is : is_signed t ≡ true → P t
  unfolding is_signed
  signed_is =
      or_elim _ (eqb t TYPE_SFIXED64)
      (or_elim _ (eqb t TYPE_SINT64) (or_elim _ (eqb t TYPE_INT64) narrow-is (type-is P t TYPE_INT64 int64))
      (type-is P t TYPE_SINT64 sint64))
      (type-is P t TYPE_SFIXED64 sfixed64)

  integer-is : is_integer t ≡ true → P t
  unfolding is_integer
  integer-is =
      or_elim _ (eqb t TYPE_FIXED64)
      (or_elim _ (eqb t TYPE_UINT64) (or_elim (is_small t) (is_signed t) small_is signed_is) (type-is P t TYPE_UINT64 uint64))
      (type-is P t TYPE_FIXED64 fixed64)

-- ---- integers
minus-widened : (n : ℕ) → n ≤ 2 ^ 31 → value.Widened ((2 ^ 64 - n) % 2 ^ 64)
minus-widened zero h = inl (omega arith)
minus-widened (suc n) h = inr (omega arith, omega arith)

number : (t v : ℕ) → is_any (wire_of t) (VARINT ∷ I64 ∷ I32 ∷ []) ≡ true → value.Fits t v → Number t v
number t v w f = record { wire = w; fits = f }

abbrev Integral : (n t : ℕ) (minus : Bool) → Type 0
Integral n t m = n ≤ most_of m t → Number t (pattern_of m n)

by_sign : {n t : ℕ} → Integral n t true → Integral n t false → (m : Bool) → Integral n t m
by_sign f g true = f
by_sign f g false = g

integer-number : (n t : ℕ) → is_integer t ≡ true → (m : Bool) → Integral n t m
unfolding most_of is_signed is_small pattern_of wire_of value.Fits
integer-number n =
    integer-is (λ t. (m : Bool) → Integral n t m)
    (by_sign (λ h. number 5 _ refl (minus-widened n h)) (λ h. number 5 _ refl (inl (omega arith))))
    (by_sign (λ h. number 17 _ refl (minus-widened n h)) (λ h. number 17 _ refl (inl (omega arith))))
    (by_sign (λ h. number 15 _ refl (minus-widened n h)) (λ h. number 15 _ refl (inl (omega arith))))
    (by_sign (λ h. number 13 _ refl (omega arith)) (λ h. number 13 _ refl (omega arith)))
    (by_sign (λ h. number 7 _ refl (omega arith)) (λ h. number 7 _ refl (omega arith)))
    (by_sign (λ h. number 3 _ refl (omega arith)) (λ h. number 3 _ refl (omega arith)))
    (by_sign (λ h. number 18 _ refl (omega arith)) (λ h. number 18 _ refl (omega arith)))
    (by_sign (λ h. number 16 _ refl (omega arith)) (λ h. number 16 _ refl (omega arith)))
    (by_sign (λ h. number 4 _ refl (omega arith)) (λ h. number 4 _ refl (omega arith)))
    (by_sign (λ h. number 6 _ refl (omega arith)) (λ h. number 6 _ refl (omega arith)))

int-bits-lt : (f : Format) (m : Bool) (n : ℕ) → int_bits f (signed_of m n) < 2 * top f
unfolding int_bits
int-bits-lt f m n = to_bits-lt f (of_int f (signed_of m n)) (of_int-fits f (signed_of m n))

narrow-lt : (b : ℕ) → narrow_bits b < 2 ^ 32
unfolding narrow_bits narrow
narrow-lt b = go (of_bits binary64 b)
  where
    go : (x : Float) → to_bits binary32 (narrow x) < 2 ^ 32
    go nan = to_bits-lt binary32 nan (nan-fits binary32)
    go (inf s) = to_bits-lt binary32 (inf s) (inf-fits binary32 s)
    go (fin s m e) = to_bits-lt binary32 (round binary32 s (m * up e) (down e)) (round-fits binary32 s (m * up e) (down e))

-- ---- the types of other constants
float-number : (t v : ℕ) → v < 2 ^ 32 → eqb t TYPE_FLOAT ≡ true → Number t v
unfolding wire_of value.Fits
float-number t v h = type-is (λ t. Number t v) t 2 (number 2 v refl h)

double-number : (t v : ℕ) → v < 2 ^ 64 → eqb t TYPE_DOUBLE ≡ true → Number t v
unfolding wire_of value.Fits
double-number t v h = type-is (λ t. Number t v) t 1 (number 1 v refl h)

bool-number : (t v : ℕ) → v ≤ 1 → eqb t TYPE_BOOL ≡ true → Number t v
unfolding wire_of value.Fits
bool-number t v h = type-is (λ t. Number t v) t 8 (number 8 v refl h)

enum-number : (t n : ℕ) → n < 2 ^ 32 → eqb t TYPE_ENUM ≡ true → Number t (widen32_of n)
unfolding wire_of value.Fits widen32_of
enum-number t n h = type-is (λ t. Number t (widen32_of n)) t 14 (number 14 (widen32_of n) refl (go (ltb n (2 ^ 31)) refl))
  where
    go : (b : Bool) → ltb n (2 ^ 31) ≡ b → value.Widened (elim b [ true ↦ n | false ↦ n + (2 ^ 64 - 2 ^ 32) ])
    go true e = inl (ltb-true n (2 ^ 31) e)
    go false e = let l = ltb-false n (2 ^ 31) e in inr (omega arith, omega arith)

string-sized : (t : ℕ) → eqb t TYPE_STRING ≡ true → Sized t
unfolding wire_of
string-sized t = type-is Sized t 9 (record { wire = refl; plain = λ e. omega arith })

bytes-sized : (t : ℕ) → eqb t TYPE_BYTES ≡ true → Sized t
unfolding wire_of
bytes-sized t = type-is Sized t 12 (record { wire = refl; plain = λ e. omega arith })

-- ---- one constant
module _ (t : ℕ) where
  bool-fits : (b : Bool) → ScalarFits t (bool_on t b)
  unfolding bool_on
  bool-fits b = go (eqb t TYPE_BOOL) b refl
    where
      go : (x b : Bool) → eqb t TYPE_BOOL ≡ x
          → ScalarFits t (elim x [ true ↦ elim b [ true ↦ Ok (Bits 1) | false ↦ Ok (Bits 0) ] | false ↦ unsupported ])
      go true true e = bool-number t 1 (omega arith) e
      go true false e = bool-number t 0 (omega arith) e
      go false b e = tt

  integer-fits : (m : Bool) (n : ℕ) → ScalarFits t (integer_on t m n)
  unfolding integer_on
  integer-fits m n = go (is_integer t) (leb n (most_of m t)) (eqb t TYPE_FLOAT) (eqb t TYPE_DOUBLE) refl refl refl refl
    where
      go : (x y z u : Bool) → is_integer t ≡ x → leb n (most_of m t) ≡ y → eqb t TYPE_FLOAT ≡ z → eqb t TYPE_DOUBLE ≡ u
          → ScalarFits t (elim x [
            | true ↦ elim y [ true ↦ Ok (Bits (pattern_of m n)) | false ↦ Err ValueRange ]
            | false ↦ elim z [
              | true ↦ Ok (Bits (int_bits binary32 (signed_of m n)))
              | false ↦ elim u [ true ↦ Ok (Bits (int_bits binary64 (signed_of m n))) | false ↦ unsupported ]
            ]
          ])
      go true true z u e l f d = integer-number n t e m (leb-true n (most_of m t) l)
      go true false z u e l f d = tt
      go false y true u e l f d = float-number t _ (int-bits-lt binary32 m n) f
      go false y false true e l f d = double-number t _ (int-bits-lt binary64 m n) d
      go false y false false e l f d = tt

  float_fits : (b : ℕ) → b < 2 ^ 64 → ScalarFits t (float_on t b)
  unfolding float_on
  float_fits b h = go (eqb t TYPE_DOUBLE) (eqb t TYPE_FLOAT) refl refl
    where
      go : (x y : Bool) → eqb t TYPE_DOUBLE ≡ x → eqb t TYPE_FLOAT ≡ y
          → ScalarFits t (elim x [ true ↦ Ok (Bits b) | false ↦ elim y [ true ↦ Ok (Bits (narrow_bits b)) | false ↦ unsupported ] ])
      go true y d f = double-number t b h d
      go false true d f = float-number t _ (narrow-lt b) f
      go false false d f = tt

  string-fits : (r : List ℕ) (p : Span) → ScalarFits t (string_on r t p)
  unfolding string_on
  string-fits r p = go (eqb t TYPE_STRING) (is_utf8 (text r p)) (eqb t TYPE_BYTES) refl refl
    where
      go : (x y z : Bool) → eqb t TYPE_STRING ≡ x → eqb t TYPE_BYTES ≡ z
          → ScalarFits t (elim x [
            | true ↦ elim y [ true ↦ Ok (Bytes p) | false ↦ Err StrLitDecodeError ]
            | false ↦ elim z [ true ↦ Ok (Bytes p) | false ↦ unsupported ]
          ])
      go true true z e f = string-sized t e
      go true false z e f = tt
      go false y true e f = bytes-sized t f
      go false y false e f = tt

-- ---- any constant, the enums of the sheet having numbers of 32 bits
module _ (L : Lookups) (s r : List ℕ) (small : (n : List ℕ) (vs : Span) (v : Value) → value_in s n vs ≡ Some v → v.number < 2 ^ 32)
    (u : Refusal) (h : Shape) where
  ident-fits : (p : Span) → ScalarFits h.typ (ident_on L s r u h p)
  unfolding ident_on
  ident-fits p = go (eqb h.typ TYPE_ENUM) refl (L.enumeration (text s h.path))
    where
      named : eqb h.typ TYPE_ENUM ≡ true → (vs : Span) (o : Option Value) → value_in s (text r p) vs ≡ o
          → ScalarFits h.typ (listed u o)
      named e vs None q = tt
      named e vs (Some v) q = enum-number h.typ v.number (small (text r p) vs v q) e

      go : (x : Bool) → eqb h.typ TYPE_ENUM ≡ x → (v : Result Span Refusal)
          → ScalarFits h.typ (elim x [ true ↦ among u s (text r p) v | false ↦ unsupported ])
      go true e (Err w) = tt
      go true e (Ok vs) = named e vs (value_in s (text r p) vs) refl
      go false e v = tt

  pub scalar_fits : (c : Constant) → SizedBits c → ScalarFits h.typ (scalar_on L s r u h c)
  unfolding scalar_on
  scalar_fits (BoolOf b) k = bool-fits h.typ b
  scalar_fits (Integer m n) k = integer-fits h.typ m n
  scalar_fits (FloatOf x) k = float_fits h.typ _ k
  scalar_fits (NotANumber b) k = float_fits h.typ b k
  scalar_fits (Text p) k = string-fits h.typ r p
  scalar_fits (Ident p) k = ident-fits p
  scalar_fits (MessageOf p) k = tt
  scalar_fits (ListOf p) k = tt
