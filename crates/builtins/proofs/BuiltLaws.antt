-- What a builtin comes to: the ways through `put_builtin`; for callers, that its body lies in the request, and how many bytes its record
-- has.
-- Assumes nothing.
use Rattle.std.specs.Prelude.{◌≡◌, refl, Bool, true, false, List, ℕ, ◌+◌, ◌-◌, ◌≤◌, eqb, length, drop, Option, None, Some, Err, Ok, Result}
use Rattle.basis.specs.Kit.{sym, ap, ◌∙◌}
use Rattle.basis.proofs.Kit.{arith}
use Rattle.basis.proofs.Never.{never}
use native.Mathlib.Nat.{add-zero}
use lib.ListN.{length-take}
use Rattle.octets.specs.inner.Laid.{Laid}
use Rattle.limits.specs.Figures.{most_constants}
use Rattle.reply.specs.declared.Refusal.{Refusal}
use Rattle.reply.specs.declared.Refusal.TheVariants.{UnsupportedExtensionType}
use Rattle.field.specs.Leaf.{text, span}
use Rattle.types.specs.Types.{is_any}
use Rattle.sheet.specs.declared.declaration.Shape.{Shape}
use Rattle.sheet.specs.declared.declaration.Declaration.{Declaration}
use Rattle.request.specs.declared.constant.Constant.{Constant}
use Rattle.request.specs.Constant.{constant_of}
use Rattle.request.specs.Tree.{unnamed, Constants, none as no_constant, ConstantReader, grown, if_held, constant_in}
use Rattle.request.proofs.ConstantLaws.{text-span, span-place}
use Rattle.records.specs.declared.Body.{Body}
use Rattle.records.specs.declared.Body.TheVariants.{Bits, Bytes}
use Rattle.records.specs.Records.{nil, record_of, encode}
use Rattle.records.specs.inner.Emits.{InBody, bytes_most}
use Rattle.records.proofs.RecsLaws.{number-few, bytes-few}
use Rattle.lookups.specs.Lookups.{Lookups, Message, field_named}
use Rattle.scalars.specs.Scalars.{unsupported, scalar_on}
use Rattle.scalars.proofs.BodyLaws.{bytes_of, body-inside}
use Rattle.scalars.proofs.ReadLaws.{read-inside}
use Rattle.builtins.specs.declared.Built.{Built}
use Rattle.builtins.specs.Builtins.{repeated, is_skipped, built, built_of, builtin_on, builtin_field, builtin_of, built_recs}
use Rattle.builtins.specs.inner.Inside.{InBuilt}
use Rattle.builtins.proofs.BuiltinLaws.{plain, inside, held_plain, held-other}

-- ---- put_builtin
module _ (r : List ℕ) (x : Result (Option Built) Refusal) where
  nothing-laid : (l : List ℕ) (at : ℕ) → Laid l at (encode nil) l at
  unfolding encode
  nothing-laid l at = record { next = sym (add-zero at); left = refl }

  pub put-skipped : x ≡ Ok None → (l : List ℕ) (at : ℕ) → Laid l at (encode (built_recs r x)) l at
  put-skipped g l at = rw g (nothing-laid l at)

  pub put_wrong : (w : Refusal) → x ≡ Err w → (l : List ℕ) (at : ℕ) → Laid l at (encode (built_recs r x)) l at
  put_wrong w g l at = rw g (nothing-laid l at)

  module _ (y : Built) (g : x ≡ Ok (Some y)) where
    pub put-sets : (l l' : List ℕ) (at n : ℕ) → Laid l at (encode (record_of r y.shape y.body)) l' n → Laid l at (encode (built_recs r x)) l' n
    put-sets l l' at n a = rw g a

    pub put-inside : InBuilt x r → InBody y.body r
    unfolding InBuilt
    put-inside i = rw g at i

pub ruleset put_laws = (put-skipped, put_wrong, put-sets, put-inside)

-- ---- for callers: the constant that a builtin is set by, as it was read from the request
record Read (L : Lookups) (s r : List ℕ) (h : Shape) (t a e : ℕ) (b : Body) : Type 0 where
  constant : Constant
  held : Some constant ≡ constant_of r t a e
  fits : Ok b ≡ scalar_on L s r UnsupportedExtensionType h constant

module _ (L : Lookups) (s r : List ℕ) (h : Shape) (b : Body) where
  held_fits : (inner : ConstantReader) (c : Constant) → builtin_on L s r h (grown inner r unnamed no_constant c) ≡ Ok b
      → scalar_on L s r UnsupportedExtensionType h c ≡ Ok b
  held_fits inner c q = go (is_any h.typ plain) refl
    where
      go : (z : Bool) → is_any h.typ plain ≡ z → scalar_on L s r UnsupportedExtensionType h c ≡ Ok b
      go true p = held_plain L s r h inner c p ∙ q
      go false p = let o : unsupported ≡ Ok b = held-other L s r h inner c p ∙ q in never cc

  on-read : (t a e : ℕ) (v : Option Constant) → v ≡ constant_of r t a e
      → builtin_on L s r h (if_held (inside r) r unnamed no_constant v) ≡ Ok b → Read L s r h t a e b
  on-read t a e None q g = never cc
  on-read t a e (Some c) q g = record { constant = c; held = q; fits = sym (held_fits (inside r) c g) }

  module _ (k : Constants) where
    shape-sets : (x : Shape) (y : Result Body Refusal) → built_of x y ≡ Ok (Some (built h b)) → (x ≡ h) × (y ≡ Ok b)
    shape-sets x (Ok c) g =
        let same : built x c ≡ built h b = cc in
        (ap (λ (z : Built). z.shape) same, ap (λ (z : Built). Ok z.body) same)
    shape-sets x (Err w) g = never cc

    field-sets : (o : Option Declaration) → builtin_field L s r k o ≡ Ok (Some (built h b)) → builtin_on L s r h k ≡ Ok b
    field-sets None g = never cc
    field-sets (Some d) g = go (eqb d.shape.label repeated) _ g
      where
        go : (z : Bool) (w : Refusal) → ◌≡◌ {A = Result (Option Built) Refusal} (elim z [ true ↦ Err w | false ↦ built_of d.shape (builtin_on L s r d.shape k) ]) (Ok (Some (built h b)))
            → builtin_on L s r h k ≡ Ok b
        go true w g = never cc
        go false w g = let y = shape-sets d.shape (builtin_on L s r d.shape k) g in rw y.0 at y.1

    of-sets : (m : Message) (n : List ℕ) → builtin_of L s r m n k ≡ Ok (Some (built h b)) → builtin_on L s r h k ≡ Ok b
    unfolding builtin_of
    of-sets m n g = go (is_skipped m.name n) g
      where
        go : (z : Bool) → ◌≡◌ {A = Result (Option Built) Refusal} (elim z [ true ↦ Ok None | false ↦ builtin_field L s r k (field_named s n m.place) ]) (Ok (Some (built h b)))
            → builtin_on L s r h k ≡ Ok b
        go true g = never cc
        go false g = field-sets (field_named s n m.place) g

-- ---- its body lies in the request, and its record has at most as many bytes as its constant's field comes to
module _ (L : Lookups) (s r : List ℕ) (h : Shape) (t a e : ℕ) where
  read-few : (b : Body) → Read L s r h t a e b → length (encode (record_of r h b)) ≤ bytes_most (3 + (e - a))
  read-few (Bits v) k = omega (arith, number-few h.number h.typ v)
  read-few (Bytes p) k =
      let c = k.constant in
      let o = bytes_of p L s r UnsupportedExtensionType h c (sym k.fits) in
      let z = span-place r t a e (Some c) k.held c refl p (text-span c p o) in
      rw z (omega (arith, bytes-few h.number h.typ (text r (span a e)), length-take (e - a) (drop a r)))

module _ (L : Lookups) (s r : List ℕ) (m : Message) (n : List ℕ) (t a e : ℕ) where
  read_of : (h : Shape) (b : Body) → Ok (Some (built h b)) ≡ builtin_of L s r m n (constant_in most_constants r unnamed t a e no_constant)
      → Read L s r h t a e b
  read_of h b q =
      let c = constant_in most_constants r unnamed t a e no_constant in
      on-read L s r h b t a e (constant_of r t a e) refl (of-sets L s r h b c m n (sym q))

  pub built-inside : (x : Result (Option Built) Refusal) → x ≡ builtin_of L s r m n (constant_in most_constants r unnamed t a e no_constant)
      → a ≤ e → e ≤ length r → InBuilt x r
  unfolding InBuilt
  built-inside (Ok None) q i j = tt
  built-inside (Err w) q i j = tt
  built-inside (Ok (Some y)) q i j =
      let k = read_of y.shape y.body q in
      let c = k.constant in
      body-inside L s r UnsupportedExtensionType y.shape c (Ok y.body) k.fits y.body refl (read-inside r t a e i j (Some c) k.held c refl)

  pub built-few : (x : Result (Option Built) Refusal) → x ≡ builtin_of L s r m n (constant_in most_constants r unnamed t a e no_constant)
      → length (encode (built_recs r x)) ≤ bytes_most (3 + (e - a))
  unfolding encode
  built-few (Ok None) q = omega arith
  built-few (Err w) q = omega arith
  built-few (Ok (Some y)) q = read-few L s r y.shape t a e y.body (read_of y.shape y.body q)

pub ruleset built_laws = (built-inside, built-few)
