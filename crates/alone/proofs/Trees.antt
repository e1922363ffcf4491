-- Constants in two requests at places that correspond: the same tree, its texts by their places.
--
--        SameName w l l' <-> the same name of a pair, or no name
--    SameConstant w c c' <-> the same constant as it is written
--        SameHeld w h h' <-> both are no constant, or the same
--   SameConstants w c c' <-> the same constants in order, with what they hold
--      SameOption w o o' <-> the same parts, and the same constant
--
-- Assumes nothing.
use Rattle.std.specs.Prelude.{◌≡◌, Bool, true, false, List, ℕ, zero, suc, ◌-◌, ◌^◌, eqb, ltb, get_or, None, Option, Some}
use Rattle.basis.specs.Kit.{ap}
use Rattle.basis.proofs.Kit.{arith}
use mathlib.Core.Path.{subst}
use borrow.Author.Tests.{eqb-true}
use lib.Ieee.{Float as Double, binary64, of_bits, nan_bits}
use Rattle.limits.specs.Figures.{most_constants}
use Rattle.octets.specs.Octets.{big_at}
use Rattle.field.specs.declared.Span.{Span}
use Rattle.field.specs.Leaf.{span}
use Rattle.field.specs.Walk.{Walk}
use Rattle.request.specs.declared.constant.Constant.{Constant}
use Rattle.request.specs.declared.constant.Constant.TheVariants.{Bool as BoolOf, Integer, Float, NotANumber}
use Rattle.request.specs.declared.constant.Constant.TheVariants.{Text, Ident, Message, List as ListOf}
use Rattle.request.specs.Table.{bool_tag, unsigned_tag, signed_tag, float_tag, string_tag, ident_tag, message_constant_tag, list_tag}
use Rattle.request.specs.Table.{pair_field_tag, pair_extension_tag}
use Rattle.request.specs.Constant.{integer_of, float_of, bool_of, number_with, numeric_of, constant_of, is_pair_name}
use Rattle.request.specs.Tree.{PairName, unnamed, by_field, by_extension, by_url, Constants, none, scalar, message, list, ConstantReader}
use Rattle.request.specs.Tree.{pair_name_of, elements_in, pairs_in, grown, if_held, constant_in}
use Rattle.request.specs.Request.{RequestOption, constant_of_field, option_of}
use Rattle.alone.proofs.Tests.{by_cases, by-test}
use Rattle.alone.proofs.Windows.{Twin, SameSpan, here-byte, here-big, here-size}
use Rattle.alone.proofs.Walks.{SameField, both-cut, both-whole, SameWalk, dones, cuts, steps, field-same, walk_same}
use Rattle.alone.proofs.Names.{SameParts, parts_same, after_same}
use Rattle.field.specs.declared.Field.{Field}

pub data SameName {r r' : List ℕ} (w : Twin r r') : PairName → PairName → Type 0 where
  both-unnamed : SameName w unnamed unnamed
  both-field : {p p' : Span} → SameSpan w p p' → SameName w (by_field p) (by_field p')
  both-extension : {p p' : Span} → SameSpan w p p' → SameName w (by_extension p) (by_extension p')
  both-url : {p p' : Span} → SameSpan w p p' → SameName w (by_url p) (by_url p')

pub data SameConstant {r r' : List ℕ} (w : Twin r r') : Constant → Constant → Type 0 where
  both-bool : (b : Bool) → SameConstant w (BoolOf b) (BoolOf b)
  both-integer : (minus : Bool) (size : ℕ) → SameConstant w (Integer minus size) (Integer minus size)
  both-float : (x : Double) → SameConstant w (Float x) (Float x)
  both-nan : (bits : ℕ) → SameConstant w (NotANumber bits) (NotANumber bits)
  both-text : {p p' : Span} → SameSpan w p p' → SameConstant w (Text p) (Text p')
  both-ident : {p p' : Span} → SameSpan w p p' → SameConstant w (Ident p) (Ident p')
  both-message : {p p' : Span} → SameSpan w p p' → SameConstant w (Message p) (Message p')
  both-list : {p p' : Span} → SameSpan w p p' → SameConstant w (ListOf p) (ListOf p')

pub data SameHeld {r r' : List ℕ} (w : Twin r r') : Option Constant → Option Constant → Type 0 where
  both-nothing : SameHeld w None None
  both-holds : {c c' : Constant} → SameConstant w c c' → SameHeld w (Some c) (Some c')

pub data SameConstants {r r' : List ℕ} (w : Twin r r') : Constants → Constants → Type 0 where
  nones : SameConstants w none none
  scalars : {l l' : PairName} {c c' : Constant} {k k' : Constants} → SameName w l l' → SameConstant w c c' → SameConstants w k k'
      → SameConstants w (scalar l c k) (scalar l' c' k')
  messages : {l l' : PairName} {i i' k k' : Constants} → SameName w l l' → SameConstants w i i' → SameConstants w k k'
      → SameConstants w (message l i k) (message l' i' k')
  lists : {l l' : PairName} {i i' k k' : Constants} → SameName w l l' → SameConstants w i i' → SameConstants w k k'
      → SameConstants w (list l i k) (list l' i' k')

pub record SameOption {r r' : List ℕ} (w : Twin r r') (o o' : RequestOption) : Type 0 where
  pub parts : SameParts w o.parts o'.parts
  pub constant : SameConstants w o.constant o'.constant

-- ---- one constant as it is written
-- the bool of a byte
abbrev byte_of : ℕ → Option Constant
byte_of n = elim (ltb 1 n) [ true ↦ None | false ↦ Some (BoolOf (eqb n 1)) ]

module _ {r r' : List ℕ} (w : Twin r r') where
  integer-held : (b : ℕ) → SameConstant w (integer_of b) (integer_of b)
  unfolding integer_of
  integer-held b = by-test (SameConstant w) (ltb b (2 ^ 63)) (both-integer false b) (both-integer true (2 ^ 64 - b))

  float-held : (b : ℕ) → SameConstant w (float_of b) (float_of b)
  unfolding float_of
  float-held b = by-test (SameConstant w) (nan_bits binary64 b) (both-nan b) (both-float (of_bits binary64 b))

  number-held : (t b : ℕ) → SameHeld w (number_with t b) (number_with t b)
  number-held t b =
      by-test (SameHeld w) (eqb t unsigned_tag) (both-holds (both-integer false b))
      (by-test (SameHeld w) (eqb t signed_tag) (both-holds (integer-held b))
      (by-test (SameHeld w) (eqb t float_tag) (both-holds (float-held b)) both-nothing))

  module _ {x x' y y' : ℕ} (h : SameSpan w (span x x') (span y y')) where
    sized-held : (n : ℕ) {a a' : Option Constant} → (x' - x ≡ n → SameHeld w a a')
        → SameHeld w (elim (eqb (x' - x) n) [ true ↦ a | false ↦ None ]) (elim (eqb (y' - y) n) [ true ↦ a' | false ↦ None ])
    sized-held n k =
        by_cases (SameHeld w) (ap (λ (m : ℕ). eqb m n) (here-size w h.from h.to)) (λ b. k (eqb-true (x' - x) n b)) (λ _. both-nothing)

    bool-held : SameHeld w (bool_of r x x') (bool_of r' y y')
    unfolding bool_of
    bool-held =
        sized-held 1 (λ l. subst (λ (n : ℕ). SameHeld w (byte_of (get_or r x 0)) (byte_of n))
        (here-byte w h.from (omega (arith, h.to.ended)))
        (by-test (SameHeld w) (ltb 1 (get_or r x 0)) both-nothing (both-holds (both-bool (eqb (get_or r x 0) 1)))))

    numeric-held : (t : ℕ) → SameHeld w (numeric_of r t x x') (numeric_of r' t y y')
    unfolding numeric_of
    numeric-held t =
        sized-held 8 (λ l. subst (λ (b : ℕ). SameHeld w (number_with t (big_at 8 r x)) (number_with t b))
        (here-big w h.from 8 (omega (arith, h.to.ended))) (number-held t (big_at 8 r x)))

    held_same : (t : ℕ) → SameHeld w (constant_of r t x x') (constant_of r' t y y')
    unfolding constant_of
    held_same t =
        by-test (SameHeld w) (eqb t bool_tag) bool-held
        (by-test (SameHeld w) (eqb t string_tag) (both-holds (both-text h))
        (by-test (SameHeld w) (eqb t ident_tag) (both-holds (both-ident h))
        (by-test (SameHeld w) (eqb t message_constant_tag) (both-holds (both-message h))
        (by-test (SameHeld w) (eqb t list_tag) (both-holds (both-list h)) (numeric-held t)))))

  name-of-same : (t : ℕ) {p p' : Span} → SameSpan w p p' → SameName w (pair_name_of t p) (pair_name_of t p')
  name-of-same t h =
      by-test (SameName w) (eqb t pair_field_tag) (both-field h)
      (by-test (SameName w) (eqb t pair_extension_tag) (both-extension h) (both-url h))

  -- ---- constants with what they hold
  abbrev SameReader : (inner inner' : ConstantReader) → Type 0
  SameReader f f' = (l l' : PairName) → SameName w l l' → (t x x' y y' : ℕ) → SameSpan w (span x x') (span y y')
      → (k k' : Constants) → SameConstants w k k' → SameConstants w (f l t x x' k) (f' l' t y y' k')

  module _ (f f' : ConstantReader) (inner : SameReader f f') where
    elements_same : {u v : Walk} → SameWalk w u v → SameConstants w (elements_in f u) (elements_in f' v)
    elements_same dones = nones
    elements_same cuts = nones
    elements_same (steps {t} {x} {x'} {y} {y'} {u} {v} h k) =
        inner unnamed unnamed both-unnamed t x x' y y' h (elements_in f u) (elements_in f' v) (elements_same k)

    pairs-same : {u v : Walk} → SameWalk w u v → SameConstants w (pairs_in f u) (pairs_in f' v)
    pairs-same dones = nones
    pairs-same cuts = nones
    pairs-same (steps h dones) = nones
    pairs-same (steps h cuts) = nones
    pairs-same (steps {t} {x} {x'} {y} {y'} h (steps {t = t₂} {x = x₂} {x' = x₂'} {y = y₂} {y' = y₂'} {u} {v} h₂ k)) =
        by-test (SameConstants w) (is_pair_name t)
        (inner (pair_name_of t (span x x')) (pair_name_of t (span y y')) (name-of-same t h) t₂ x₂ x₂' y₂ y₂' h₂ (pairs_in f u) (pairs_in f' v)
        (pairs-same k)) nones

    module _ {l l' : PairName} (n : SameName w l l') {k k' : Constants} (rest : SameConstants w k k') where
      grown-same : {c c' : Constant} → SameConstant w c c' → SameConstants w (grown f r l k c) (grown f' r' l' k' c')
      grown-same (both-bool b) = scalars n (both-bool b) rest
      grown-same (both-integer m i) = scalars n (both-integer m i) rest
      grown-same (both-float x) = scalars n (both-float x) rest
      grown-same (both-nan b) = scalars n (both-nan b) rest
      grown-same (both-text h) = scalars n (both-text h) rest
      grown-same (both-ident h) = scalars n (both-ident h) rest
      grown-same (both-message h) = messages n (pairs-same (walk_same w h)) rest
      grown-same (both-list h) = lists n (elements_same (walk_same w h)) rest

      if-held-same : {c c' : Option Constant} → SameHeld w c c' → SameConstants w (if_held f r l k c) (if_held f' r' l' k' c')
      if-held-same both-nothing = rest
      if-held-same (both-holds h) = grown-same h

  reader-same : (d : ℕ) → SameReader (constant_in d r) (constant_in d r')
  reader-same zero l l' n t x x' y y' h k k' rest = rest
  reader-same (suc d) l l' n t x x' y y' h k k' rest =
      if-held-same (constant_in d r) (constant_in d r') (reader-same d) n rest (held_same h t)

  -- ---- an option
  field-constant : {f f' : Option Field} → SameField w f f' → SameConstants w (constant_of_field r f) (constant_of_field r' f')
  field-constant both-cut = nones
  field-constant (both-whole {t} {x} {x'} {y} {y'} h) = reader-same most_constants unnamed unnamed both-unnamed t x x' y y' h none none nones

  pub option-of-same : {x x' y y' : ℕ} → SameSpan w (span x x') (span y y') → SameOption w (option_of r x x') (option_of r' y y')
  unfolding option_of
  option-of-same h =
      let k = walk_same w h in
      record { parts = parts_same w k; constant = field-constant (field-same w (after_same w h.from k) h.to) }
