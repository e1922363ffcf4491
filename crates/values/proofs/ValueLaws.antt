-- One constant on a field: what it comes to before what follows it, and the ways through `held_at` and `put_value`.
-- Assumes nothing.
use Rattle.std.specs.Prelude.{◌≡◌, refl, List, ℕ, zero, suc, ◌+◌, ◌-◌, ◌^◌, ◌≤◌, ◌<◌, length, None, Some, Ok, Option, Result}
use Rattle.basis.specs.Kit.{sym, ap, ◌∙◌}
use Rattle.basis.proofs.Kit.{arith}
use Rattle.basis.proofs.Never.{never}
use mathlib.Core.Path.{subst}
use Rattle.reply.specs.declared.Refusal.{Refusal}
use Rattle.field.specs.Leaf.{span}
use Rattle.sheet.specs.declared.declaration.Shape.{Shape}
use Rattle.request.specs.declared.constant.Constant.{Constant}
use Rattle.request.specs.declared.constant.Constant.TheVariants.{Bool as BoolOf, Integer, Float as FloatOf, NotANumber}
use Rattle.request.specs.declared.constant.Constant.TheVariants.{Text, Ident, Message as MessageOf, List as ListOf}
use Rattle.request.specs.Constant.{constant_of}
use Rattle.request.specs.Tree.{PairName, unnamed, Constants, none, ConstantReader, grown, if_held, constant_in}
use Rattle.request.proofs.ConstantLaws.{in-text, in-message, in_list, span-place}
use Rattle.records.specs.Made.{Made, both}
use Rattle.records.specs.inner.Emits.{bytes_most, wrote_of, Emits, Roomy}
use Rattle.records.proofs.MadeLaws.{both-none, after-nil}
use Rattle.records.proofs.EmitsLaws.{wrote-tells, writes-none, emits-more}
use Rattle.lookups.specs.Lookups.{Lookups}
use Rattle.scalars.specs.inner.Inside.{Inside}
use Rattle.scalars.proofs.ReadLaws.{read-inside}
use Rattle.values.specs.declared.Kind.{Kind}
use Rattle.values.specs.declared.Kind.TheVariants.{Scalar, List as Several, Message}
use Rattle.values.specs.Values.{Holder, on, scalar_made, records}
use Rattle.values.specs.inner.Writers.{most_scalar, kind_of, held_at, value_made, list_made, pairs_made, message_made}

-- ---- one constant, before what follows it
module _ (L : Lookups) (s r : List ℕ) (k : Holder) (n : PairName) (rest : Constants) where
  one-first : (inner : ConstantReader) (c : Constant)
      → records L s r k (grown inner r n rest c) ≡ both (records L s r k (grown inner r n none c)) (records L s r k rest)
  one-first inner (BoolOf b) = rw both-none
  one-first inner (Integer m x) = rw both-none
  one-first inner (FloatOf x) = rw both-none
  one-first inner (NotANumber b) = rw both-none
  one-first inner (Text p) = rw both-none
  one-first inner (Ident p) = rw both-none
  one-first inner (MessageOf p) = rw both-none
  one-first inner (ListOf p) = rw both-none

  held_first : (inner : ConstantReader) (x : Option Constant)
      → records L s r k (if_held inner r n rest x) ≡ both (records L s r k (if_held inner r n none x)) (records L s r k rest)
  held_first inner None = sym (after-nil _)
  held_first inner (Some c) = one-first inner c

  pub constant-first : (d t a e : ℕ)
      → records L s r k (constant_in d r n t a e rest) ≡ both (records L s r k (constant_in d r n t a e none)) (records L s r k rest)
  constant-first zero t a e = sym (after-nil _)
  constant-first (suc d) t a e = held_first (constant_in d r) (constant_of r t a e)

scalar-alone : (L : Lookups) (s r : List ℕ) (h : Shape) (inner : ConstantReader) (c : Constant) → kind_of c ≡ Scalar
    → records L s r (on h) (grown inner r unnamed none c) ≡ scalar_made L s r c h
scalar-alone L s r h inner (BoolOf b) k = both-none _
scalar-alone L s r h inner (Integer m n) k = both-none _
scalar-alone L s r h inner (FloatOf x) k = both-none _
scalar-alone L s r h inner (NotANumber b) k = both-none _
scalar-alone L s r h inner (Text p) k = both-none _
scalar-alone L s r h inner (Ident p) k = both-none _
scalar-alone L s r h inner (MessageOf p) k = never cc
scalar-alone L s r h inner (ListOf p) k = never cc

-- ---- a constant that was read, its payload from a to e
module _ (r : List ℕ) (t a e : ℕ) (u : Option Constant) (q : u ≡ constant_of r t a e) where
  abbrev Here : Constant → Kind → Type 0
  Here c Scalar = Unit {0}
  Here c Several = c ≡ ListOf (span a e)
  Here c Message = c ≡ MessageOf (span a e)

  kind-here : (c : Constant) → u ≡ Some c → Here c (kind_of c)
  kind-here (BoolOf b) g = tt
  kind-here (Integer m n) g = tt
  kind-here (FloatOf x) g = tt
  kind-here (NotANumber b) g = tt
  kind-here (Text p) g = tt
  kind-here (Ident p) g = tt
  kind-here (MessageOf p) g = ap MessageOf (span-place r t a e u q (MessageOf p) g p in-message)
  kind-here (ListOf p) g = ap ListOf (span-place r t a e u q (ListOf p) g p in_list)

  scalar-small : (c : Constant) → u ≡ Some c → most_scalar c ≤ bytes_most (3 + (e - a))
  scalar-small (BoolOf b) g = omega arith
  scalar-small (Integer m n) g = omega arith
  scalar-small (FloatOf x) g = omega arith
  scalar-small (NotANumber b) g = omega arith
  scalar-small (Text p) g = rw (span-place r t a e u q (Text p) g p in-text) (omega arith)
  scalar-small (Ident p) g = omega arith
  scalar-small (MessageOf p) g = omega arith
  scalar-small (ListOf p) g = omega arith

-- ---- held_at
module _ (r : List ℕ) (d t a e : ℕ) where
  pub held_none : d ≡ 0 → None ≡ held_at d r t a e
  unfolding held_at
  held_none z = rw z

  pub held-some : (d ≡ 0 → ⊥) → (u : Option Constant) → u ≡ constant_of r t a e → u ≡ held_at d r t a e
  unfolding held_at
  held-some z u q = go d z
    where
      go : (d : ℕ) → (d ≡ 0 → ⊥) → u ≡ held_at d r t a e
      go zero z = absurd (z refl)
      go (suc d) z = q

pub ruleset held_laws = (held_none, held-some)

-- what is held was read, with a level less left
module _ (r : List ℕ) (d t a e : ℕ) (u : Option Constant) (q : u ≡ held_at d r t a e) (c : Constant) (g : u ≡ Some c) where
  pub held-level : 1 ≤ d
  unfolding held_at
  held-level = go d q
    where
      go : (d : ℕ) → u ≡ held_at d r t a e → 1 ≤ d
      go zero q = never cc
      go (suc d) q = omega arith

  held-read : u ≡ constant_of r t a e
  unfolding held_at
  held-read = go d q
    where
      go : (d : ℕ) → u ≡ held_at d r t a e → u ≡ constant_of r t a e
      go zero q = never cc
      go (suc d) q = q

  pub held-inside : a ≤ e → e ≤ length r → Inside c r
  held-inside j k = read-inside r t a e j k u held-read c g

-- ---- put_value
module _ (L : Lookups) (s r : List ℕ) (h : Shape) (d t a e : ℕ) (u : Option Constant) (q : u ≡ held_at d r t a e) where
  value-held : value_made L s r h d t a e ≡ records L s r (on h) (if_held (constant_in (d - 1) r) r unnamed none u)
  unfolding value_made held_at
  value-held = go d q
    where
      go : (d : ℕ) → u ≡ held_at d r t a e
          → records L s r (on h) (constant_in d r unnamed t a e none)
          ≡ records L s r (on h) (if_held (constant_in (d - 1) r) r unnamed none u)
      go zero q = rw q
      go (suc d) q = let p : suc d - 1 ≡ d = omega arith in rw (p, q)

  pub value_none : u ≡ None → (k at : ℕ) (l : List ℕ) → Emits wrote_of (value_made L s r h d t a e) k l at l (Ok at)
  value_none g k at l = writes-none wrote-tells (value-held ∙ rw g) refl

  module _ (c : Constant) (g : u ≡ Some c) where
    value-grown : value_made L s r h d t a e ≡ records L s r (on h) (grown (constant_in (d - 1) r) r unnamed none c)
    value-grown = value-held ∙ rw g

    module _ (x : Kind) (o : x ≡ kind_of c) (at : ℕ) (l l' : List ℕ) (y : Result ℕ Refusal) where
      -- where it comes to m, and m to no more bytes
      value_as : (m : Made Refusal) → value_made L s r h d t a e ≡ m → (k : ℕ) → Emits wrote_of m k l at l' y → k ≤ bytes_most (3 + (e - a))
          → Emits wrote_of (value_made L s r h d t a e) (bytes_most (3 + (e - a))) l at l' y
      value_as m w k i j =
          subst (λ (v : Made Refusal). Emits wrote_of v (bytes_most (3 + (e - a))) l at l' y) (sym w) (emits-more k i j)

      here : (k : Kind) → x ≡ k → Here r t a e u (held-read r d t a e u q c g) c k
      here k z = subst (Here r t a e u (held-read r d t a e u q c g) c) (sym o ∙ z) (kind-here r t a e u (held-read r d t a e u q c g) c g)

      pub value-scalar : x ≡ Scalar → Emits wrote_of (scalar_made L s r c h) (most_scalar c) l at l' y
          → Emits wrote_of (value_made L s r h d t a e) (bytes_most (3 + (e - a))) l at l' y
      value-scalar z m =
          value_as (scalar_made L s r c h) (value-grown ∙ scalar-alone L s r h (constant_in (d - 1) r) c (sym o ∙ z)) (most_scalar c) m
          (scalar-small r t a e u (held-read r d t a e u q c g) c g)

      pub value-list : x ≡ Several → Emits wrote_of (list_made L s r h (d - 1) a e) (bytes_most (e - a)) l at l' y
          → Emits wrote_of (value_made L s r h d t a e) (bytes_most (3 + (e - a))) l at l' y
      unfolding list_made
      value-list z m =
          value_as (list_made L s r h (d - 1) a e) (value-grown ∙ rw (here Several z) (both-none _)) (bytes_most (e - a)) m (omega arith)

      pub value-message : x ≡ Message → Emits wrote_of (message_made L s r h (d - 1) a e) (bytes_most (3 + (e - a))) l at l' y
          → Emits wrote_of (value_made L s r h d t a e) (bytes_most (3 + (e - a))) l at l' y
      unfolding message_made pairs_made
      value-message z m =
          value_as (message_made L s r h (d - 1) a e) (value-grown ∙ rw (here Message z) (both-none _)) (bytes_most (3 + (e - a))) m
          (omega arith)

pub roomy-scalar : (at n : ℕ) (r : List ℕ) → Roomy at n r → at + length r < 2 ^ 62
roomy-scalar at n r x = omega (arith, x.room)

pub roomy-list : (at n : ℕ) (r : List ℕ) → Roomy at (3 + n) r → Roomy at n r
roomy-list at n r x = record { room = omega (arith, x.room) }

pub ruleset value_laws = (value_none, held-level, held-inside, value-scalar, value-list, value-message, roomy-scalar, roomy-list)
