-- What a constant comes to on a field has the same fault, or none, in two requests at places that correspond.
--
--   SameScalar x x' <-> both scalars fit, or neither does, for one reason
--     SameMade m m' <-> records are made of both, or of neither, for one reason
--
-- Assumes nothing.
use Rattle.std.specs.Prelude.{◌≡◌, refl, List, ℕ, eqb, Err, Ok, Result}
use Rattle.basis.specs.Kit.{ap}
use mathlib.Core.Path.{subst}
use lib.Ieee.{binary64, to_bits}
use Rattle.basis.specs.First.{told}
use Rattle.reply.specs.declared.Refusal.{Refusal}
use Rattle.reply.specs.declared.Refusal.TheVariants.{UnknownEnumValue, StrLitDecodeError, UnknownFieldName}
use Rattle.reply.specs.declared.Refusal.TheVariants.{MessageFieldRequiresMessageConstant}
use Rattle.field.specs.declared.Span.{Span}
use Rattle.field.specs.Leaf.{text}
use Rattle.types.specs.Types.{TYPE_STRING, TYPE_BYTES, TYPE_ENUM, TYPE_MESSAGE}
use Rattle.utf8.specs.Utf8.{is_utf8}
use Rattle.sheet.specs.declared.declaration.Shape.{Shape}
use Rattle.scope.specs.declared.lookup.LookupScope.{LookupScope}
use Rattle.request.specs.declared.constant.Constant.{Constant}
use Rattle.request.specs.Tree.{PairName, Constants}
use Rattle.records.specs.declared.Body.{Body}
use Rattle.records.specs.Records.{Recs}
use Rattle.records.specs.Made.{Made, made, wrong, after, both, holding}
use Rattle.lookups.specs.Lookups.{Lookups, field_named}
use Rattle.scalars.specs.Scalars.{unsupported, bool_on, integer_on, float_on, string_on, among, ident_on, scalar_on}
use Rattle.values.specs.Values.{made_of, Holder, on, within, Asked, field, passed, refused, asked, on_asked, reached, in_message}
use Rattle.values.specs.Values.{scalar_made, records}
use Rattle.alone.proofs.Tests.{by_cases, by-test}
use Rattle.alone.proofs.Windows.{Twin, SameSpan, text_same}
use Rattle.alone.proofs.Trees.{SameName, both-unnamed, both-field, both-extension, both-url}
use Rattle.alone.proofs.Trees.{SameConstant, both-bool, both-integer, both-float, both-nan}
use Rattle.alone.proofs.Trees.{both-text, both-ident, both-message, both-list}
use Rattle.alone.proofs.Trees.{SameConstants, nones, scalars, messages, lists}

pub data SameScalar : Result Body Refusal → Result Body Refusal → Type 0 where
  both-fit : {b b' : Body} → SameScalar (Ok b) (Ok b')
  both-misfit : (why : Refusal) → SameScalar (Err why) (Err why)

pub data SameMade {W : Type 0} : Made W → Made W → Type 0 where
  both-made : {x y : Recs} → SameMade (made x) (made y)
  both-wrong : (why : W) → SameMade (wrong why) (wrong why)

pub scalar-refl : (x : Result Body Refusal) → SameScalar x x
scalar-refl (Ok b) = both-fit
scalar-refl (Err why) = both-misfit why

-- ---- records, one after the other and one in another
module _ {W : Type 0} where
  after_same : (a b : Recs) {m n : Made W} → SameMade m n → SameMade (after a m) (after b n)
  after_same a b both-made = both-made
  after_same a b (both-wrong why) = both-wrong why

  both-same : {m m' n n' : Made W} → SameMade m m' → SameMade n n' → SameMade (both m n) (both m' n')
  both-same (both-made {x} {y}) k = after_same x y k
  both-same (both-wrong why) k = both-wrong why

  pub holding-same : (i : ℕ) {m n : Made W} → SameMade m n → SameMade (holding i m) (holding i n)
  holding-same i both-made = both-made
  holding-same i (both-wrong why) = both-wrong why

module _ {r r' : List ℕ} (w : Twin r r') (L : Lookups) (s : List ℕ) where
  -- ---- scalars
  string-same : (t : ℕ) {p p' : Span} → SameSpan w p p' → SameScalar (string_on r t p) (string_on r' t p')
  unfolding string_on
  string-same t h =
      by-test SameScalar (eqb t TYPE_STRING)
      (by_cases SameScalar (ap is_utf8 (text_same w h)) (λ _. both-fit) (λ _. both-misfit StrLitDecodeError))
      (by-test SameScalar (eqb t TYPE_BYTES) both-fit (scalar-refl unsupported))

  ident-same : (u : Refusal) (h : Shape) {p p' : Span} → SameSpan w p p' → SameScalar (ident_on L s r u h p) (ident_on L s r' u h p')
  unfolding ident_on
  ident-same u h {p} k =
      let vs = L.enumeration (text s h.path) in
      let x = among u s (text r p) vs in
      by-test SameScalar (eqb h.typ TYPE_ENUM)
      (subst (λ (n : List ℕ). SameScalar x (among u s n vs)) (text_same w k) (scalar-refl x)) (scalar-refl unsupported)

  pub scalar-same : (unlisted : Refusal) (h : Shape) {c c' : Constant} → SameConstant w c c'
      → SameScalar (scalar_on L s r unlisted h c) (scalar_on L s r' unlisted h c')
  unfolding scalar_on
  scalar-same u h (both-bool b) = scalar-refl (bool_on h.typ b)
  scalar-same u h (both-integer m n) = scalar-refl (integer_on h.typ m n)
  scalar-same u h (both-float x) = scalar-refl (float_on h.typ (to_bits binary64 x))
  scalar-same u h (both-nan b) = scalar-refl (float_on h.typ b)
  scalar-same u h (both-text k) = string-same h.typ k
  scalar-same u h (both-ident k) = ident-same u h k
  scalar-same u h (both-message k) = scalar-refl unsupported
  scalar-same u h (both-list k) = scalar-refl unsupported

  made-same : (h : Shape) {x x' : Result Body Refusal} → SameScalar x x' → SameMade (made_of r h x) (made_of r' h x')
  made-same h both-fit = both-made
  made-same h (both-misfit why) = both-wrong why

  scalar-made-same : {c c' : Constant} → SameConstant w c c' → (h : Shape) → SameMade (scalar_made L s r c h) (scalar_made L s r' c' h)
  unfolding scalar_made
  scalar-made-same k h = made-same h (scalar-same UnknownEnumValue h k)

  -- ---- what a constant is written on
  asked-same : (k : Holder) {n n' : PairName} → SameName w n n' → asked s r k n ≡ asked s r' k n'
  asked-same (on h) n = refl
  asked-same (within p) both-unnamed = refl
  asked-same (within p) (both-field h) =
      ap (λ (n : List ℕ). told (refused UnknownFieldName) (λ d. field d.shape) (field_named s n p)) (text_same w h)
  asked-same (within p) (both-extension h) = refl
  asked-same (within p) (both-url h) = refl

  on_same : {a a' : Asked} → a ≡ a' → {f f' : Shape → Made Refusal} → ((h : Shape) → SameMade (f h) (f' h))
      → SameMade (on_asked a f) (on_asked a' f')
  on_same {a} p {f} {f'} k = subst (λ (x : Asked). SameMade (on_asked a f) (on_asked x f')) p (go a)
    where
      go : (x : Asked) → SameMade (on_asked x f) (on_asked x f')
      go (field h) = k h
      go passed = both-made
      go (refused why) = both-wrong why

  reached-same : (n : ℕ) (u : Result LookupScope Refusal) {f f' : LookupScope → Made Refusal} → ((p : LookupScope) → SameMade (f p) (f' p))
      → SameMade (reached n u f) (reached n u f')
  reached-same n (Err why) k = both-wrong why
  reached-same n (Ok p) k = holding-same n (k p)

  message-same : {f f' : LookupScope → Made Refusal} → ((p : LookupScope) → SameMade (f p) (f' p))
      → (h : Shape) → SameMade (in_message L s h f) (in_message L s h f')
  message-same k h =
      by-test SameMade (eqb h.typ TYPE_MESSAGE) (reached-same h.number (L.message (text s h.path)) k)
      (both-wrong MessageFieldRequiresMessageConstant)

  -- ---- constants in order, with what they hold
  pub records-same : {c c' : Constants} → SameConstants w c c' → (k : Holder) → SameMade (records L s r k c) (records L s r' k c')
  records-same nones k = both-made
  records-same (scalars n h rest) k = both-same (on_same (asked-same k n) (scalar-made-same h)) (records-same rest k)
  records-same (messages n h rest) k =
      both-same (on_same (asked-same k n) (message-same (λ p. records-same h (within p)))) (records-same rest k)
  records-same (lists n h rest) k = both-same (on_same (asked-same k n) (λ d. records-same h (on d))) (records-same rest k)
