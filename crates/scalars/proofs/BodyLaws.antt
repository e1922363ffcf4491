-- What a scalar constant that fits holds: bytes are a string's own, all others are numbers.
-- Assumes nothing.
use Rattle.std.specs.Prelude.{◌≡◌, Bool, true, false, List, ℕ, eqb, leb, Option, None, Some, Err, Ok, Result}
use Rattle.basis.specs.Kit.{sym, ap, ◌∙◌}
use Rattle.basis.proofs.Never.{never}
use Rattle.reply.specs.declared.Refusal.{Refusal}
use Rattle.field.specs.declared.Span.{Span}
use Rattle.field.specs.Leaf.{text}
use Rattle.utf8.specs.Utf8.{is_utf8}
use Rattle.types.specs.Types.{TYPE_ENUM, TYPE_BOOL, TYPE_STRING, TYPE_BYTES, TYPE_FLOAT, TYPE_DOUBLE}
use Rattle.sheet.specs.declared.declaration.Shape.{Shape}
use Rattle.sheet.specs.declared.declaration.Value.{Value}
use Rattle.request.specs.declared.constant.Constant.{Constant}
use Rattle.request.specs.declared.constant.Constant.TheVariants.{Bool as BoolOf, Integer, Float as FloatOf, NotANumber}
use Rattle.request.specs.declared.constant.Constant.TheVariants.{Text, Ident, Message as MessageOf, List as ListOf}
use Rattle.records.specs.declared.Body.{Body}
use Rattle.records.specs.declared.Body.TheVariants.{Bits, Bytes}
use Rattle.records.specs.inner.Emits.{InBody}
use Rattle.lookups.specs.Lookups.{Lookups, value_in}
use Rattle.scalars.specs.Scalars.{unsupported, fits, is_integer, most_of, listed, among}
use Rattle.scalars.specs.Scalars.{integer_on, float_on, string_on, bool_on, ident_on, scalar_on}
use Rattle.scalars.specs.inner.Inside.{Inside}

module _ (p : Span) where
  no-bytes-bool : (t : ℕ) (b : Bool) → bool_on t b ≡ Ok (Bytes p) → ⊥
  unfolding bool_on
  no-bytes-bool t b e = go (eqb t TYPE_BOOL) b e
    where
      go : (x b : Bool)
          → ◌≡◌ {A = Result Body Refusal} (elim x [ true ↦ elim b [ true ↦ fits 1 | false ↦ fits 0 ] | false ↦ unsupported ]) (Ok (Bytes p)) → ⊥
      go true true e = never cc
      go true false e = never cc
      go false b e = never cc

  bytes-text : (r : List ℕ) (t : ℕ) (q : Span) → string_on r t q ≡ Ok (Bytes p) → q ≡ p
  unfolding string_on
  bytes-text r t q e = go (eqb t TYPE_STRING) (is_utf8 (text r q)) (eqb t TYPE_BYTES) _ e
    where
      go : (x y z : Bool) (w : Refusal)
          → ◌≡◌ {A = Result Body Refusal} (elim x [
            | true ↦ elim y [ true ↦ Ok (Bytes q) | false ↦ Err w ]
            | false ↦ elim z [ true ↦ Ok (Bytes q) | false ↦ unsupported ]
          ]) (Ok (Bytes p)) → q ≡ p
      go true true z w e = cc
      go true false z w e = never cc
      go false y true w e = cc
      go false y false w e = never cc

  no-bytes-integer : (t : ℕ) (m : Bool) (n : ℕ) → integer_on t m n ≡ Ok (Bytes p) → ⊥
  unfolding integer_on
  no-bytes-integer t m n e = go (is_integer t) (leb n (most_of m t)) (eqb t TYPE_FLOAT) (eqb t TYPE_DOUBLE) _ _ _ _ e
    where
      go : (x y z u : Bool) (a b c : ℕ) (w : Refusal)
          → ◌≡◌ {A = Result Body Refusal} (elim x [
            | true ↦ elim y [ true ↦ fits a | false ↦ Err w ]
            | false ↦ elim z [ true ↦ fits b | false ↦ elim u [ true ↦ fits c | false ↦ unsupported ] ]
          ]) (Ok (Bytes p)) → ⊥
      go true true z u a b c w e = never cc
      go true false z u a b c w e = never cc
      go false y true u a b c w e = never cc
      go false y false true a b c w e = never cc
      go false y false false a b c w e = never cc

  no-bytes-float : (t b : ℕ) → float_on t b ≡ Ok (Bytes p) → ⊥
  unfolding float_on
  no-bytes-float t b e = go (eqb t TYPE_DOUBLE) (eqb t TYPE_FLOAT) _ _ e
    where
      go : (x y : Bool) (a b : ℕ)
          → ◌≡◌ {A = Result Body Refusal} (elim x [ true ↦ fits a | false ↦ elim y [ true ↦ fits b | false ↦ unsupported ] ]) (Ok (Bytes p)) → ⊥
      go true y a b e = never cc
      go false true a b e = never cc
      go false false a b e = never cc

  no-bytes-listed : (u : Refusal) (o : Option Value) → listed u o ≡ Ok (Bytes p) → ⊥
  no-bytes-listed u None e = never cc
  no-bytes-listed u (Some v) e = never cc

  no-bytes-among : (u : Refusal) (s n : List ℕ) (v : Result Span Refusal) → among u s n v ≡ Ok (Bytes p) → ⊥
  no-bytes-among u s n (Err w) e = never cc
  no-bytes-among u s n (Ok x) e = no-bytes-listed u (value_in s n x) e

  module _ (L : Lookups) (s r : List ℕ) (u : Refusal) (h : Shape) where
    no-bytes-ident : (q : Span) → ident_on L s r u h q ≡ Ok (Bytes p) → ⊥
    unfolding ident_on
    no-bytes-ident q e = go (eqb h.typ TYPE_ENUM) e
      where
        go : (x : Bool)
            → ◌≡◌ {A = Result Body Refusal} (elim x [ true ↦ among u s (text r q) (L.enumeration (text s h.path)) | false ↦ unsupported ]) (Ok (Bytes p)) → ⊥
        go true e = no-bytes-among u s (text r q) (L.enumeration (text s h.path)) e
        go false e = never cc

    -- only a string has bytes, and they are its own
    pub bytes_of : (c : Constant) → scalar_on L s r u h c ≡ Ok (Bytes p) → c ≡ Text p
    unfolding scalar_on
    bytes_of (BoolOf b) e = absurd (no-bytes-bool h.typ b e)
    bytes_of (Integer m n) e = absurd (no-bytes-integer h.typ m n e)
    bytes_of (FloatOf x) e = absurd (no-bytes-float h.typ _ e)
    bytes_of (NotANumber b) e = absurd (no-bytes-float h.typ b e)
    bytes_of (Text q) e = ap Text (bytes-text r h.typ q e)
    bytes_of (Ident q) e = absurd (no-bytes-ident q e)
    bytes_of (MessageOf q) e = never cc
    bytes_of (ListOf q) e = never cc

-- ---- the body of a constant that fits
pub body-inside : (L : Lookups) (s r : List ℕ) (u : Refusal) (h : Shape) (c : Constant) (x : Result Body Refusal)
    → x ≡ scalar_on L s r u h c → (b : Body) → x ≡ Ok b → Inside c r → InBody b r
unfolding Inside InBody
body-inside L s r u h c x q (Bits v) g i = tt
body-inside L s r u h c x q (Bytes p) g i = rw (bytes_of p L s r u h c (sym q ∙ g)) at i
