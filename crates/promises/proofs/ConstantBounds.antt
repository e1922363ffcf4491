-- What a constant comes to on a field: at most the levels that it may have, and at most seven bytes for each byte of its own field, its
-- header among them; over any look-ups and of any bytes.
-- Assumes nothing.
use Rattle.std.specs.Prelude.{◌≡◌, refl, Bool, true, false, List, ℕ, zero, suc, ◌+◌, ◌-◌, ◌≤◌, eqb, length, drop, Err, None, Some, Ok, Option, Result}
use Rattle.basis.specs.Kit.{sym}
use Rattle.basis.proofs.Kit.{arith}
use lib.ListN.{length-take}
use Rattle.reply.specs.declared.Refusal.{Refusal}
use Rattle.reply.specs.declared.Refusal.TheVariants.{UnknownEnumValue, MessageFieldRequiresMessageConstant}
use Rattle.octets.specs.Octets.{part}
use Rattle.field.specs.Field.{header}
use Rattle.field.specs.Leaf.{span, text}
use Rattle.field.specs.Walk.{Walk, done, cut, step, walk}
use Rattle.types.specs.Types.{TYPE_MESSAGE}
use Rattle.sheet.specs.declared.declaration.Shape.{Shape}
use Rattle.scope.specs.declared.lookup.LookupScope.{LookupScope}
use Rattle.request.specs.declared.constant.Constant.{Constant}
use Rattle.request.specs.declared.constant.Constant.TheVariants.{Bool as BoolOf, Integer, Float as FloatOf, NotANumber}
use Rattle.request.specs.declared.constant.Constant.TheVariants.{Text, Ident, Message as MessageOf, List as ListOf}
use Rattle.request.specs.Constant.{constant_of, is_pair_name}
use Rattle.request.specs.Tree.{PairName, unnamed, none, pair_name_of, elements_in, pairs_in, grown, if_held, constant_in}
use Rattle.request.proofs.ConstantLaws.{text-span, in-message, in_list, span-place}
use Rattle.records.specs.declared.Body.{Body}
use Rattle.records.specs.declared.Body.TheVariants.{Bits, Bytes}
use Rattle.records.specs.Records.{record_of}
use Rattle.records.specs.Made.{Made, wrong}
use Rattle.records.specs.inner.Emits.{bytes_most}
use Rattle.records.proofs.RecsLaws.{number-few, bytes-few}
use Rattle.records.proofs.MadeLaws.{both-none}
use Rattle.lookups.specs.Lookups.{Lookups}
use Rattle.scalars.specs.Scalars.{scalar_on}
use Rattle.scalars.proofs.BodyLaws.{bytes_of}
use Rattle.values.specs.Values.{made_of, Holder, on, within, Asked, field, passed, refused as asked_wrong, asked, on_asked, reached, in_message}
use Rattle.values.specs.Values.{scalar_made, records}
use Rattle.values.proofs.ValueLaws.{constant-first}
use Rattle.promises.proofs.SmallLaws.{Small, small-nil, SmallMade, small, refused, made_more, both_small, holding-small}
use Rattle.promises.proofs.WidthLaws.{width, width-walk}

part-few : (s : List ℕ) (a e : ℕ) → length (part s a e) ≤ e - a
part-few s a e = omega (arith, length-take (e - a) (drop a s))

-- ---- on what a constant is written
module _ {k n : ℕ} where
  asked-small : (x : Asked) (f : Shape → Made Refusal) → ((h : Shape) → SmallMade k n (f h)) → SmallMade k n (on_asked x f)
  asked-small (field h) f u = u h
  asked-small passed f u = small small-nil
  asked-small (asked_wrong w) f u = refused

  message-small : (L : Lookups) (s : List ℕ) (h : Shape) (f : LookupScope → Made Refusal) → ((p : LookupScope) → SmallMade k n (f p))
      → SmallMade (suc k) (20 + n) (in_message L s h f)
  message-small L s h f u = go (eqb h.typ TYPE_MESSAGE) (L.message (text s h.path))
    where
      go : (b : Bool) (v : Result LookupScope Refusal) → SmallMade {W = Refusal} (suc k) (20 + n) (elim b [
        | true ↦ reached h.number v f
        | false ↦ wrong MessageFieldRequiresMessageConstant
      ])
      go true (Err w) = refused
      go true (Ok p) = holding-small h.number (u p)
      go false v = refused

module _ (L : Lookups) (s r : List ℕ) where
  -- ---- a scalar that was read, its payload from a to e
  module _ (t a e : ℕ) (c : Constant) (q : constant_of r t a e ≡ Some c) (h : Shape) where
    pub record-small : (u : Refusal) (b : Body) → scalar_on L s r u h c ≡ Ok b → Small 1 (bytes_most (header + (e - a))) (record_of r h b)
    record-small u (Bits v) g = record { levels = omega arith; few = omega (arith, number-few h.number h.typ v) }
    record-small u (Bytes p) g =
        let o = text-span c p (bytes_of p L s r u h c g) in
        let y : p ≡ span a e = span-place r t a e (Some c) (sym q) c refl p o in
        rw y (record {
          levels = omega arith;
          few = omega (arith, bytes-few h.number h.typ (part r a e), part-few r a e);
        })

    scalar-small : SmallMade 1 (bytes_most (header + (e - a))) (scalar_made L s r c h)
    unfolding scalar_made
    scalar-small = go (scalar_on L s r UnknownEnumValue h c) refl
      where
        go : (x : Result Body Refusal) → scalar_on L s r UnknownEnumValue h c ≡ x → SmallMade 1 (bytes_most (header + (e - a))) (made_of r h x)
        go (Ok b) g = small (record-small UnknownEnumValue b g)
        go (Err w) g = refused

  -- ---- what a list or a message holds, its constants being small with d levels left
  module _ (d : ℕ) (inner : (k : Holder) (n : PairName) (t a e : ℕ)
      → SmallMade d (bytes_most (header + (e - a))) (records L s r k (constant_in d r n t a e none))) where
    elements-small : (k : Holder) (w : Walk) → SmallMade d (bytes_most (width w)) (records L s r k (elements_in (constant_in d r) w))
    elements-small k done = small small-nil
    elements-small k cut = small small-nil
    elements-small k (step t a e w) =
        rw (constant-first L s r k unnamed (elements_in (constant_in d r) w) d t a e)
        (made_more (omega arith) (omega arith) (both_small (inner k unnamed t a e) (elements-small k w)))

    pairs_small : (k : Holder) (w : Walk) → SmallMade d (bytes_most (width w)) (records L s r k (pairs_in (constant_in d r) w))
    pairs_small k done = small small-nil
    pairs_small k cut = small small-nil
    pairs_small k (step t a e done) = small small-nil
    pairs_small k (step t a e cut) = small small-nil
    pairs_small k (step t a e (step u b f w)) = go (is_pair_name t) (pairs_small k w)
      where
        go : (x : Bool) → SmallMade d (bytes_most (width w)) (records L s r k (pairs_in (constant_in d r) w))
            → SmallMade d (bytes_most (width (step t a e (step u b f w))))
            (records L s r k (elim x [
              | true ↦ constant_in d r (pair_name_of t (span a e)) u b f (pairs_in (constant_in d r) w)
              | false ↦ none
            ]))
        go true v =
            rw (constant-first L s r k (pair_name_of t (span a e)) (pairs_in (constant_in d r) w) d u b f)
            (made_more (omega arith) (omega arith) (both_small (inner k (pair_name_of t (span a e)) u b f) v))
        go false v = small small-nil

    module _ (k : Holder) (n : PairName) (t a e : ℕ) where
      scalar-grown : (c : Constant) → constant_of r t a e ≡ Some c
          → SmallMade (suc d) (bytes_most (header + (e - a))) (on_asked (asked s r k n) (scalar_made L s r c))
      scalar-grown c q =
          asked-small (asked s r k n) (scalar_made L s r c) λ h. made_more (omega arith) (omega arith) (scalar-small t a e c q h)

      grown-small : (c : Constant) → constant_of r t a e ≡ Some c
          → SmallMade (suc d) (bytes_most (header + (e - a))) (records L s r k (grown (constant_in d r) r n none c))
      grown-small (BoolOf b) q = rw both-none (scalar-grown (BoolOf b) q)
      grown-small (Integer m x) q = rw both-none (scalar-grown (Integer m x) q)
      grown-small (FloatOf x) q = rw both-none (scalar-grown (FloatOf x) q)
      grown-small (NotANumber b) q = rw both-none (scalar-grown (NotANumber b) q)
      grown-small (Text p) q = rw both-none (scalar-grown (Text p) q)
      grown-small (Ident p) q = rw both-none (scalar-grown (Ident p) q)
      grown-small (MessageOf p) q =
          rw (both-none, span-place r t a e (Some (MessageOf p)) (sym q) (MessageOf p) refl p in-message)
          (asked-small (asked s r k n) _ λ h. made_more (omega arith) (omega (arith, width-walk r a e))
          (message-small L s h _ λ m. pairs_small (within m) (walk r a e)))
      grown-small (ListOf p) q =
          rw (both-none, span-place r t a e (Some (ListOf p)) (sym q) (ListOf p) refl p in_list)
          (asked-small (asked s r k n) _ λ h. made_more (omega arith) (omega (arith, width-walk r a e))
          (elements-small (on h) (walk r a e)))

      held_small : (u : Option Constant) → constant_of r t a e ≡ u
          → SmallMade (suc d) (bytes_most (header + (e - a))) (records L s r k (if_held (constant_in d r) r n none u))
      held_small None q = small small-nil
      held_small (Some c) q = grown-small c q

  -- ---- a constant with d levels left
  pub constant-small : (d : ℕ) (k : Holder) (n : PairName) (t a e : ℕ)
      → SmallMade d (bytes_most (header + (e - a))) (records L s r k (constant_in d r n t a e none))
  constant-small zero k n t a e = small small-nil
  constant-small (suc d) k n t a e = held_small d (constant-small d) k n t a e (constant_of r t a e) refl
