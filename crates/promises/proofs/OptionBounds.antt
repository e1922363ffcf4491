-- What one option comes to: a level for each part of its name but the last and for each level of its constant at the most, and at most seven
-- bytes for each of its own; over any look-ups and of any bytes.
--
--   SmallSettled k n x <-> the records of what one option comes to are small, where it is no fault
--
-- Assumes nothing.
use Rattle.std.specs.Prelude.{◌≡◌, refl, Bool, true, false, List, [], ◌∷◌, ℕ, suc, ◌+◌, ◌-◌, ◌*◌, ◌≤◌, eqb, length, Option, Err, None, Some, Ok, Result}
use Rattle.basis.proofs.Kit.{arith}
use Rattle.basis.proofs.Never.{never}
use Rattle.basis.specs.First.{told}
use Rattle.limits.specs.Figures.{most_constants}
use Rattle.reply.specs.declared.Refusal.{Refusal}
use Rattle.reply.specs.declared.Refusal.TheVariants.{ExtensionIsNotMessage, UnsupportedExtensionType}
use Rattle.reply.specs.declared.Refusal.TheVariants.{BuiltinOptionPointsToNonSingularField}
use Rattle.field.specs.Field.{header, field_at}
use Rattle.field.specs.Leaf.{text}
use Rattle.field.specs.Walk.{walk}
use Rattle.field.proofs.FieldLaws.{field-bounds}
use Rattle.types.specs.Types.{is_any, TYPE_GROUP, TYPE_MESSAGE, TYPE_BOOL, TYPE_ENUM, TYPE_STRING}
use Rattle.sheet.specs.declared.declaration.Shape.{Shape}
use Rattle.sheet.specs.declared.declaration.Declaration.{Declaration}
use Rattle.request.specs.declared.name.Part.{Part}
use Rattle.request.specs.declared.constant.Constant.{Constant}
use Rattle.request.specs.declared.constant.Constant.TheVariants.{Bool as BoolOf, Integer, Float as FloatOf, NotANumber}
use Rattle.request.specs.declared.constant.Constant.TheVariants.{Text, Ident, Message as MessageOf, List as ListOf}
use Rattle.request.specs.Constant.{constant_of}
use Rattle.request.specs.Name.{parts_in, after_parts}
use Rattle.request.specs.Tree.{Constants, none, scalar, unnamed, ConstantReader, if_held, constant_in}
use Rattle.request.specs.Request.{constant_of_field, option_of}
use Rattle.records.specs.declared.Body.{Body}
use Rattle.records.specs.Records.{Recs, nil, record_of}
use Rattle.records.specs.Made.{Made, made, wrong}
use Rattle.records.specs.inner.Emits.{bytes_most}
use Rattle.lookups.specs.Lookups.{Lookups, Message, field_named}
use Rattle.scalars.specs.Scalars.{scalar_on, unsupported}
use Rattle.values.specs.Values.{on, records}
use Rattle.known.specs.Known.{Known}
use Rattle.faults.specs.declared.Fault.{Fault}
use Rattle.steps.specs.Steps.{step_of}
use Rattle.options.specs.Named.{at, on_step, reached, left, option_from}
use Rattle.faults.specs.Faults.{fault_at}
use Rattle.builtins.specs.Builtins.{repeated, is_skipped, built_of, builtin_on, builtin_field, builtin_of}
use Rattle.options.specs.Settle.{Settled, known, others, fails, settled_built, settled, builtin_part, settle}
use Rattle.promises.proofs.SmallLaws.{Small, small-nil, small-more}
use Rattle.promises.proofs.SmallLaws.{SmallMade, small, refused, made_more, holding-small}
use Rattle.promises.proofs.WidthLaws.{parts-width}
use Rattle.promises.proofs.ConstantBounds.{record-small, constant-small}
use Rattle.field.specs.declared.Field.{Field}
use Rattle.scope.specs.declared.lookup.LookupScope.{LookupScope}
use Rattle.steps.specs.declared.Lack.{Lack}

-- ---- the parts of a name
module _ {k n : ℕ} where
  at_small : {m : Made Refusal} (i : ℕ) → SmallMade k n m → SmallMade k n (at i m)
  at_small i (small u) = small u
  at_small i refused = refused

  step_small : (i : ℕ) (x : Result Declaration Lack) (f : Declaration → Made Fault) → ((d : Declaration) → SmallMade k n (f d)) → SmallMade k n (on_step i x f)
  step_small i (Err l) f u = refused
  step_small i (Ok d) f u = u d

module _ (L : Lookups) (s r scope : List ℕ) where
  left-small : {k n : ℕ} (i : ℕ) (h : Shape) (f : Message → Made Fault) → ((m : Message) → SmallMade k n (f m))
      → SmallMade (suc k) (20 + n) (left L s r scope i h f)
  left-small {k} {n} i h f u = go (eqb h.typ TYPE_MESSAGE) (eqb h.typ TYPE_GROUP) (L.message (text s h.path))
    where
      go : (a b : Bool) (v : Result LookupScope Refusal) → SmallMade {W = Fault} (suc k) (20 + n) (elim a [
        | true ↦ reached i h.number (text s h.path) v f
        | false ↦ elim b [ true ↦ made nil | false ↦ wrong (fault_at i ExtensionIsNotMessage) ]
      ])
      go true b (Err w) = refused
      go true b (Ok p) = holding-small h.number (u (record { name = text s h.path; place = p }))
      go false true v = small small-nil
      go false false v = refused

  -- the last part adds no record of its own
  module _ (c : Constants) (k n : ℕ) (u : (h : Shape) → SmallMade (suc k) n (records L s r (on h) c)) where
    parts-small : (ps : List Part) (i : ℕ) (m : Message) → SmallMade (length ps + k) (20 * length ps + n) (option_from L s r scope i m ps c)
    parts-small [] i m = small small-nil
    parts-small (p ∷ []) i m =
        step_small i (step_of L s r scope m p) _ λ d. at_small i (made_more (omega arith) (omega arith) (u d.shape))
    parts-small (p ∷ q ∷ ps) i m =
        step_small i (step_of L s r scope m p) _ λ d. made_more (omega arith) (omega arith)
        (left-small i d.shape _ (parts-small (q ∷ ps) (i + 1)))

-- ---- a builtin's record
module _ (L : Lookups) (s r : List ℕ) (h : Shape) (b : Body) where
  module _ (t a e : ℕ) where
    scalar-built : (c : Constant) → constant_of r t a e ≡ Some c → builtin_on L s r h (scalar unnamed c none) ≡ Ok b
        → Small 1 (bytes_most (header + (e - a))) (record_of r h b)
    scalar-built c q = go (is_any h.typ (TYPE_BOOL ∷ TYPE_ENUM ∷ TYPE_STRING ∷ []))
      where
        go : (x : Bool) → ◌≡◌ {A = Result Body Refusal} (elim x [ true ↦ scalar_on L s r UnsupportedExtensionType h c | false ↦ unsupported ]) (Ok b)
            → Small 1 (bytes_most (header + (e - a))) (record_of r h b)
        go true g = record-small L s r t a e c q h UnsupportedExtensionType b g
        go false g = never cc

    held-built : (inner : ConstantReader) (u : Option Constant) → constant_of r t a e ≡ u → builtin_on L s r h (if_held inner r unnamed none u) ≡ Ok b
        → Small 1 (bytes_most (header + (e - a))) (record_of r h b)
    held-built inner None q g = never cc
    held-built inner (Some (BoolOf x)) q g = scalar-built (BoolOf x) q g
    held-built inner (Some (Integer m x)) q g = scalar-built (Integer m x) q g
    held-built inner (Some (FloatOf x)) q g = scalar-built (FloatOf x) q g
    held-built inner (Some (NotANumber x)) q g = scalar-built (NotANumber x) q g
    held-built inner (Some (Text p)) q g = scalar-built (Text p) q g
    held-built inner (Some (Ident p)) q g = scalar-built (Ident p) q g
    held-built inner (Some (MessageOf p)) q g = never cc
    held-built inner (Some (ListOf p)) q g = never cc

-- ---- an option's constant, from the end x of its parts up to its own end
module _ (L : Lookups) (s r : List ℕ) (x e : ℕ) where
  last_built : (f : Option Field) → f ≡ field_at r x e → (h : Shape) (b : Body) → builtin_on L s r h (constant_of_field r f) ≡ Ok b
      → Small 1 (bytes_most (e - x)) (record_of r h b)
  last_built None q h b g = never cc
  last_built (Some found) q h b g =
      let i = field-bounds r x e (Some found) q found refl in
      small-more (omega arith) (omega arith) (held-built L s r h b found.tag found.from found.to (constant_in (most_constants - 1) r) (constant_of r found.tag found.from found.to) refl g)

  last-small : (f : Option Field) → f ≡ field_at r x e → (h : Shape)
      → SmallMade most_constants (bytes_most (e - x)) (records L s r (on h) (constant_of_field r f))
  last-small None q h = small small-nil
  last-small (Some here) q h =
      let i = field-bounds r x e (Some here) q here refl in
      made_more (omega arith) (omega arith) (constant-small L s r most_constants (on h) unnamed here.tag here.from here.to)

-- ---- what one option comes to
pub data SmallSettled (k n : ℕ) : Settled → Type 0 where
  sets : {x : Known} → Small k n x.made → SmallSettled k n (known x)
  writes : {x : Recs} → Small k n x → SmallSettled k n (others x)
  faulty : {f : Fault} → SmallSettled k n (fails f)

module _ {k n : ℕ} where
  settled-small : {m : Made Fault} → SmallMade k n m → SmallSettled k n (settled m)
  settled-small (small u) = writes u
  settled-small refused = faulty

  module _ (L : Lookups) (s r : List ℕ) (c : Constants)
      (u : (h : Shape) (b : Body) → builtin_on L s r h c ≡ Ok b → Small k n (record_of r h b)) where
    field-built : (o : Option Declaration) → SmallSettled k n (settled_built r (builtin_field L s r c o))
    field-built None = faulty
    field-built (Some d) = go (eqb d.shape.label repeated) (builtin_on L s r d.shape c) refl
      where
        go : (x : Bool) (y : Result Body Refusal) → builtin_on L s r d.shape c ≡ y → SmallSettled k n (settled_built r (elim x [
          | true ↦ Err BuiltinOptionPointsToNonSingularField
          | false ↦ built_of d.shape y
        ]))
        go true y q = faulty
        go false (Ok b) q = sets (u d.shape b q)
        go false (Err w) q = faulty

    builtin-small : (m : Message) (name : List ℕ) → SmallSettled k n (settled_built r (builtin_of L s r m name c))
    unfolding builtin_of
    builtin-small m name = go (is_skipped m.name name)
      where
        go : (x : Bool) → SmallSettled k n (settled_built r (elim x [
          | true ↦ Ok None
          | false ↦ builtin_field L s r c (field_named s name m.place)
        ]))
        go true = writes small-nil
        go false = field-built (field_named s name m.place)

module _ (L : Lookups) (s r scope : List ℕ) (m : Message) where
  pub settle-small : (a e k : ℕ) → length (option_of r a e).parts + (most_constants - 1) ≤ k
      → SmallSettled k (bytes_most (e - a)) (settle L s r scope m (option_of r a e))
  unfolding settle option_of
  settle-small a e k l = go (builtin_part parts)
    where
      parts : List Part
      parts = parts_in (walk r a e)

      end : ℕ
      end = after_parts a (walk r a e)

      c : Constants
      c = constant_of_field r (field_at r end e)

      go : (o : Option Part) → SmallSettled k (bytes_most (e - a)) (told (settled (option_from L s r scope 0 m parts c))
          (λ p. settled_built r (builtin_of L s r m (text r p.name) c)) o)
      go None =
          settled-small (made_more l (omega (arith, parts-width r e a))
          (parts-small L s r scope c (most_constants - 1) (bytes_most (e - end)) (last-small L s r end e (field_at r end e) refl) parts 0 m))
      go (Some p) =
          builtin-small L s r c
          (λ h b g. small-more (omega arith) (omega (arith, parts-width r e a)) (last_built L s r end e (field_at r end e) refl h b g))
          m (text r p.name)
