-- The value of a record by its type: the laws of `value_of`, one for each way through the code.
-- Assumes nothing.
use Rattle.std.specs.Prelude.{◌≡◌, Bool, true, false, ◌||◌, ℕ, eqb}
use Rattle.basis.specs.Kit.{sym, ◌∙◌}
use Rattle.basis.proofs.Kit.{ne_eqb, eq-eqb}
use Rattle.types.specs.Types.{is_any, TYPE_FLOAT, TYPE_INT32, TYPE_FIXED32, TYPE_BOOL, TYPE_UINT32, TYPE_ENUM, TYPE_SFIXED32}
use Rattle.types.specs.Types.{TYPE_SINT32, TYPE_SINT64}
use Rattle.wire.specs.Numbers.{unzigzag_of, low32_of, widen32_of}
use Rattle.payloads.specs.Value.{lows, wides, value_of}

module _ (t v : ℕ) where
  pub value-bool : t ≡ TYPE_BOOL → value_of t v ≡ elim (eqb v 0) [ true ↦ 0 | false ↦ 1 ]
  unfolding value_of
  value-bool e = rw e

  module _ (b : t ≡ TYPE_BOOL → ⊥) where
    pub value_low : is_any t lows ≡ true → value_of t v ≡ low32_of v
    unfolding value_of
    value_low l = rw (value_of, ne_eqb t TYPE_BOOL b, l)

    module _ (l : is_any t lows ≡ false) where
      pub value-wide : is_any t wides ≡ true → value_of t v ≡ widen32_of (low32_of v)
      unfolding value_of
      value-wide w = rw (value_of, ne_eqb t TYPE_BOOL b, l, w)

      module _ (w : is_any t wides ≡ false) where
        pub value-sint32 : t ≡ TYPE_SINT32 → value_of t v ≡ unzigzag_of (low32_of v)
        unfolding value_of
        value-sint32 e = rw e

        pub value-sint64 : t ≡ TYPE_SINT64 → value_of t v ≡ unzigzag_of v
        unfolding value_of
        value-sint64 e = rw e

        pub value-plain : (t ≡ TYPE_SINT32 → ⊥) → (t ≡ TYPE_SINT64 → ⊥) → value_of t v ≡ v
        unfolding value_of
        value-plain c d = rw (value_of, ne_eqb t TYPE_BOOL b, l, w, ne_eqb t TYPE_SINT32 c, ne_eqb t TYPE_SINT64 d)

-- ---- the code's tests for a group
any_of : (a b c x : Bool) → (a || b || c) ≡ x → (a || (b || (c || false))) ≡ x
any_of true b c x e = e
any_of false true c x e = e
any_of false false true x e = e
any_of false false false x e = e

module _ (t v : ℕ) where
  is-low : (x : Bool) → (eqb t TYPE_UINT32 || eqb t TYPE_FIXED32 || eqb t TYPE_FLOAT) ≡ x → is_any t lows ≡ x
  is-low = any_of (eqb t TYPE_UINT32) (eqb t TYPE_FIXED32) (eqb t TYPE_FLOAT)

  is_wide : (x : Bool) → (eqb t TYPE_INT32 || eqb t TYPE_ENUM || eqb t TYPE_SFIXED32) ≡ x → is_any t wides ≡ x
  is_wide = any_of (eqb t TYPE_INT32) (eqb t TYPE_ENUM) (eqb t TYPE_SFIXED32)

  module _ (e : t ≡ TYPE_BOOL) where
    pub bool-no : v ≡ 0 → 0 ≡ value_of t v
    bool-no z = rw (value-bool t v e, eq-eqb v 0 z)

    pub bool-yes : (v ≡ 0 → ⊥) → 1 ≡ value_of t v
    bool-yes z = rw (value-bool t v e, ne_eqb v 0 z)

  module _ (b : t ≡ TYPE_BOOL → ⊥) (x : ℕ) where
    pub low_bits : (eqb t TYPE_UINT32 || eqb t TYPE_FIXED32 || eqb t TYPE_FLOAT) ≡ true → x ≡ low32_of v → x ≡ value_of t v
    low_bits l p = p ∙ sym (value_low t v b (is-low true l))

    module _ (l : (eqb t TYPE_UINT32 || eqb t TYPE_FIXED32 || eqb t TYPE_FLOAT) ≡ false) where
      pub wide-bits : (eqb t TYPE_INT32 || eqb t TYPE_ENUM || eqb t TYPE_SFIXED32) ≡ true → (y : ℕ) → y ≡ low32_of v → x ≡ widen32_of y
          → x ≡ value_of t v
      wide-bits w y p q = q ∙ rw p (sym (value-wide t v b (is-low false l) (is_wide true w)))

      module _ (w : (eqb t TYPE_INT32 || eqb t TYPE_ENUM || eqb t TYPE_SFIXED32) ≡ false) where
        pub sint32-bits : t ≡ TYPE_SINT32 → (y : ℕ) → y ≡ low32_of v → x ≡ unzigzag_of y → x ≡ value_of t v
        sint32-bits e y p q = q ∙ rw p (sym (value-sint32 t v b (is-low false l) (is_wide false w) e))

        pub sint64-bits : t ≡ TYPE_SINT64 → x ≡ unzigzag_of v → x ≡ value_of t v
        sint64-bits e q = q ∙ sym (value-sint64 t v b (is-low false l) (is_wide false w) e)

  pub plain-bits : (t ≡ TYPE_BOOL → ⊥) → (eqb t TYPE_UINT32 || eqb t TYPE_FIXED32 || eqb t TYPE_FLOAT) ≡ false
      → (eqb t TYPE_INT32 || eqb t TYPE_ENUM || eqb t TYPE_SFIXED32) ≡ false → (t ≡ TYPE_SINT32 → ⊥) → (t ≡ TYPE_SINT64 → ⊥)
      → v ≡ value_of t v
  plain-bits b l w c d = sym (value-plain t v b (is-low false l) (is_wide false w) c d)

pub ruleset value_laws = (bool-no, bool-yes, low_bits, wide-bits, sint32-bits, sint64-bits, plain-bits)
