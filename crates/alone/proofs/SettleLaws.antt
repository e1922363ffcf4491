-- What an option comes to has the same fault, or none, in two requests at places that correspond.
--
--     SameBuilt b b' <-> both builtins are skipped, or set, or wrong for one reason
--   SameWhole w v v' <-> the same part is the whole name of a builtin, or none is
--
-- Assumes nothing.
use Rattle.std.specs.Prelude.{◌≡◌, refl, Bool, true, false, List, [], ◌∷◌, ℕ, ◌+◌, eqb, Option, None, Some, Err, Ok, Result}
use Rattle.basis.specs.Kit.{ap}
use mathlib.Core.Path.{subst}
use Rattle.basis.specs.First.{only_if, told}
use Rattle.basis.proofs.Never.{never}
use Rattle.reply.specs.declared.Refusal.{Refusal}
use Rattle.reply.specs.declared.Refusal.TheVariants.{UnsupportedExtensionType, ExtensionIsNotMessage}
use Rattle.reply.specs.declared.Refusal.TheVariants.{BuiltinOptionNotFound, BuiltinOptionPointsToNonSingularField}
use Rattle.field.specs.Leaf.{text}
use Rattle.types.specs.Types.{is_any, TYPE_BOOL, TYPE_STRING, TYPE_ENUM, TYPE_GROUP, TYPE_MESSAGE}
use Rattle.sheet.specs.declared.declaration.Shape.{Shape}
use Rattle.sheet.specs.declared.declaration.Declaration.{Declaration}
use Rattle.request.specs.declared.name.Part.{Part}
use Rattle.request.specs.Tree.{Constants}
use Rattle.request.specs.Request.{RequestOption}
use Rattle.records.specs.declared.Body.{Body}
use Rattle.records.specs.Made.{Made}
use Rattle.lookups.specs.Lookups.{Lookups, Message, field_named}
use Rattle.scalars.specs.Scalars.{unsupported}
use Rattle.values.specs.Values.{on}
use Rattle.builtins.specs.declared.Built.{Built}
use Rattle.builtins.specs.Builtins.{repeated, is_skipped, built_of, builtin_on, builtin_field, builtin_of}
use Rattle.steps.specs.declared.Lack.TheVariants.{NoField}
use Rattle.steps.specs.Steps.{why_of, step_extension, step_of}
use Rattle.faults.specs.declared.Fault.{Fault}
use Rattle.options.specs.Named.{at, on_step, reached, left, option_from}
use Rattle.faults.specs.Faults.{fault_at}
use Rattle.options.specs.Settle.{settled_built, settled, builtin_part, settle}
use Rattle.alone.specs.Alone.{fault_of}
use Rattle.alone.proofs.Tests.{by_cases, by-test}
use Rattle.alone.proofs.Windows.{Twin, text_same}
use Rattle.alone.proofs.Names.{SamePart, SameParts, no-parts, part_then}
use Rattle.alone.proofs.Trees.{SameConstants, nones, scalars, messages, lists, SameOption}
use Rattle.alone.proofs.ValueLaws.{SameScalar, both-fit, both-misfit, SameMade, both-made, both-wrong, scalar-refl, holding-same}
use Rattle.alone.proofs.ValueLaws.{scalar-same, records-same}
use Rattle.scope.specs.declared.lookup.LookupScope.{LookupScope}
use Rattle.steps.specs.declared.Lack.{Lack}

pub data SameBuilt : Result (Option Built) Refusal → Result (Option Built) Refusal → Type 0 where
  both-skipped : SameBuilt (Ok None) (Ok None)
  both-set : {b b' : Built} → SameBuilt (Ok (Some b)) (Ok (Some b'))
  both-bad : (why : Refusal) → SameBuilt (Err why) (Err why)

pub data SameWhole {r r' : List ℕ} (w : Twin r r') : Option Part → Option Part → Type 0 where
  no_whole : SameWhole w None None
  a-whole : {p p' : Part} → SamePart w p p' → SameWhole w (Some p) (Some p')

whole_same : {r r' : List ℕ} (w : Twin r r') {ps qs : List Part} → SameParts w ps qs → SameWhole w (builtin_part ps) (builtin_part qs)
whole_same w no-parts = no_whole
whole_same w (part_then {p} {p'} q no-parts) = go p.extension p'.extension q.extension
  where
    go : (b b' : Bool) → b ≡ b' → SameWhole w (only_if b None (Some p)) (only_if b' None (Some p'))
    go true true e = no_whole
    go true false e = never cc
    go false true e = never cc
    go false false e = a-whole q
whole_same w (part_then p (part_then q ps)) = no_whole

module _ {r r' : List ℕ} (w : Twin r r') (L : Lookups) (s : List ℕ) where
  -- ---- builtins
  builtin-on : (h : Shape) {c c' : Constants} → SameConstants w c c' → SameScalar (builtin_on L s r h c) (builtin_on L s r' h c')
  builtin-on h nones = scalar-refl unsupported
  builtin-on h (scalars n k rest) =
      by-test SameScalar (is_any h.typ (TYPE_BOOL ∷ TYPE_ENUM ∷ TYPE_STRING ∷ [])) (scalar-same w L s UnsupportedExtensionType h k)
      (scalar-refl unsupported)
  builtin-on h (messages n k rest) = scalar-refl unsupported
  builtin-on h (lists n k rest) = scalar-refl unsupported

  built-of : (h : Shape) {x x' : Result Body Refusal} → SameScalar x x' → SameBuilt (built_of h x) (built_of h x')
  built-of h both-fit = both-set
  built-of h (both-misfit why) = both-bad why

  builtin-field : {c c' : Constants} → SameConstants w c c' → (d : Option Declaration)
      → SameBuilt (builtin_field L s r c d) (builtin_field L s r' c' d)
  builtin-field k None = both-bad BuiltinOptionNotFound
  builtin-field k (Some d) =
      by-test SameBuilt (eqb d.shape.label repeated) (both-bad BuiltinOptionPointsToNonSingularField)
      (built-of d.shape (builtin-on d.shape k))

  builtin-same : (m : Message) {n n' : List ℕ} → n ≡ n' → {c c' : Constants} → SameConstants w c c'
      → SameBuilt (builtin_of L s r m n c) (builtin_of L s r' m n' c')
  unfolding builtin_of
  builtin-same m {n} p {c} {c'} k =
      subst (λ (x : List ℕ). SameBuilt (builtin_of L s r m n c) (builtin_of L s r' m x c')) p
      (by-test SameBuilt (is_skipped m.name n) both-skipped (builtin-field k (field_named s n m.place)))

  module _ (scope : List ℕ) where
    -- ---- the parts of a name
    step_same : (m : Message) {p p' : Part} → SamePart w p p' → step_of L s r scope m p ≡ step_of L s r' scope m p'
    unfolding step_of
    step_same m q =
        by_cases ◌≡◌ q.extension (λ _. ap (λ (n : List ℕ). step_extension (L.extension scope m.name n)) (text_same w q.name))
        (λ _. ap (λ (n : List ℕ). told (Err NoField) Ok (field_named s n m.place)) (text_same w q.name))

    on-step : (i : ℕ) {v v' : Result Declaration Lack} → v ≡ v' → {f f' : Declaration → Made Fault} → ((d : Declaration) → SameMade (f d) (f' d))
        → SameMade (on_step i v f) (on_step i v' f')
    on-step i {v} p {f} {f'} k = subst (λ (x : Result Declaration Lack). SameMade (on_step i v f) (on_step i x f')) p (go v)
      where
        go : (x : Result Declaration Lack) → SameMade (on_step i x f) (on_step i x f')
        go (Err l) = both-wrong (fault_at i (why_of l))
        go (Ok d) = k d

    at_same : (i : ℕ) {m n : Made Refusal} → SameMade m n → SameMade (at i m) (at i n)
    at_same i both-made = both-made
    at_same i (both-wrong why) = both-wrong (fault_at i why)

    reached-same : (i n : ℕ) (name : List ℕ) (u : Result LookupScope Refusal) {f f' : Message → Made Fault} → ((m : Message) → SameMade (f m) (f' m))
        → SameMade (reached i n name u f) (reached i n name u f')
    reached-same i n name (Err why) k = both-wrong (fault_at i why)
    reached-same i n name (Ok p) k = holding-same n (k (record { name = name; place = p }))

    left-same : (i : ℕ) (h : Shape) {f f' : Message → Made Fault} → ((m : Message) → SameMade (f m) (f' m))
        → SameMade (left L s r scope i h f) (left L s r' scope i h f')
    left-same i h k =
        by-test SameMade (eqb h.typ TYPE_MESSAGE) (reached-same i h.number (text s h.path) (L.message (text s h.path)) k)
        (by-test SameMade (eqb h.typ TYPE_GROUP) both-made (both-wrong (fault_at i ExtensionIsNotMessage)))

    named-same : {c c' : Constants} → SameConstants w c c' → {ps qs : List Part} → SameParts w ps qs → (i : ℕ) (m : Message)
        → SameMade (option_from L s r scope i m ps c) (option_from L s r' scope i m qs c')
    named-same k no-parts i m = both-made
    named-same k (part_then p no-parts) i m = on-step i (step_same m p) (λ d. at_same i (records-same w L s k (on d.shape)))
    named-same k (part_then p (part_then q ps)) i m =
        on-step i (step_same m p) (λ d. left-same i d.shape (λ n. named-same k (part_then q ps) (i + 1) n))

    -- ---- the option
    settled_same : {m n : Made Fault} → SameMade m n → fault_of (settled m) ≡ fault_of (settled n)
    settled_same both-made = refl
    settled_same (both-wrong f) = refl

    settled-built : {b b' : Result (Option Built) Refusal} → SameBuilt b b' → fault_of (settled_built r b) ≡ fault_of (settled_built r' b')
    settled-built both-skipped = refl
    settled-built both-set = refl
    settled-built (both-bad why) = refl

    told_same : (m : Message) {o o' : RequestOption} → SameOption w o o' → {v v' : Option Part} → SameWhole w v v'
        → fault_of (told (settled (option_from L s r scope 0 m o.parts o.constant))
        (λ p. settled_built r (builtin_of L s r m (text r p.name) o.constant)) v)
        ≡ fault_of (told (settled (option_from L s r' scope 0 m o'.parts o'.constant))
        (λ p. settled_built r' (builtin_of L s r' m (text r' p.name) o'.constant)) v')
    told_same m k no_whole = settled_same (named-same k.constant k.parts 0 m)
    told_same m k (a-whole p) = settled-built (builtin-same m (text_same w p.name) k.constant)

    pub settle-same : (m : Message) {o o' : RequestOption} → SameOption w o o'
        → fault_of (settle L s r scope m o) ≡ fault_of (settle L s r' scope m o')
    unfolding settle
    settle-same m k = told_same m k (whole_same w k.parts)
