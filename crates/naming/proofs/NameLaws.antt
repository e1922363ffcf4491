-- The parts of a name as declarations: the ways through `declare` and `declare_behind`, of any look-ups and whichever declarations join.
--
--        of_reach s i v f == what parts left on the i-th part's declaration come to, which leads to v, f being what they come to inside
--   EnteredOn s h at p x <-> the inside that was reached from a field of the shape h, whose part ends at a place
--
-- Assumes nothing.
use Rattle.std.specs.Prelude.{◌≡◌, refl, Bool, true, false, List, [], ◌∷◌, map, ℕ, suc, ◌+◌, ◌-◌, ◌*◌, ◌≤◌, ◌<◌, eqb, length, Err, None, Some, Ok, Option, Result}
use Rattle.basis.specs.Kit.{sym, ap, ◌∙◌}
use Rattle.basis.specs.Kit.{sets}
use Rattle.basis.specs.First.{only_if}
use Rattle.basis.proofs.Kit.{arith, add-one, Fits}
use Rattle.basis.proofs.Never.{never as nothing_left}
use mathlib.Core.Path.{subst}
use native.Mathlib.Nat.{add-zero}
use lib.Seq.{length-sets}
use mir.Syntax.{w32}
use Rattle.reply.specs.declared.Refusal.{Refusal}
use Rattle.reply.specs.declared.Cause.{Cause}
use Rattle.reply.specs.declared.Refusal.TheVariants.{ExtensionIsNotMessage}
use Rattle.path.specs.Path.{components, all_ident, is_rel_or_empty}
use Rattle.field.specs.Leaf.{text, Lies}
use Rattle.field.specs.Walk.{walk}
use Rattle.types.specs.Types.{TYPE_GROUP, TYPE_MESSAGE}
use Rattle.sheet.specs.declared.declaration.Declaration.{Declaration}
use Rattle.sheet.specs.declared.declaration.Shape.{Shape}
use Rattle.scope.specs.declared.lookup.LookupScope.{LookupScope}
use Rattle.scope.specs.inner.Answers.{InSheet}
use Rattle.request.specs.declared.name.Part.{Part}
use Rattle.request.specs.Name.{part_at, parts_in}
use Rattle.request.proofs.PartLaws.{parts-nil, parts-cons, part-inside, part-further}
use Rattle.optionform.proofs.PartsLaws.{fine_part_laws, fine-part-next}
use Rattle.lookups.specs.Lookups.{Lookups, Message, walking}
use Rattle.lookups.proofs.LookupLaws.{message-lies}
use Rattle.steps.specs.declared.Lack.{Lack}
use Rattle.steps.specs.declared.Reach.{Reach}
use Rattle.steps.specs.declared.Reach.TheVariants.{Constant, Inside, Nothing}
use Rattle.steps.specs.Steps.{why_of, step_of}
use Rattle.steps.specs.inner.Reached.{message, entered, left_on, followed, behind}
use Rattle.steps.proofs.StepLaws.{step-path-ordered, step-path-within}
use Rattle.naming.specs.declared.Naming.{Naming}
use Rattle.naming.specs.declared.Naming.TheVariants.{Parts, Group}
use Rattle.naming.specs.Name.{Named, names, group, refused_at, of_part, also, on_step, on_message, left, declarations}
use Rattle.following.specs.inner.Keys.{key_of, key_words, key_at, keys_from, keys_at}
use Rattle.naming.specs.inner.Naming.{behind_part, step_part, Namable, Declares, declares, leaves-group, refuses}
use Rattle.naming.proofs.KeyLaws.{key-noted, keys-before, keys-fewer, keys-last}

-- ---- what parts left on a declaration lead to
abbrev of_reach : (s : List ℕ) (part : ℕ) → Result Reach Refusal → (Message → Named) → Named
of_reach s i (Ok (Constant h at)) f = group
of_reach s i (Ok Nothing) f = group
of_reach s i (Err w) f = refused_at i w
of_reach s i (Ok (Inside h p at)) f = f (message (text s h.path) p)

record EnteredOn (s : List ℕ) (h : Shape) (at : ℕ) (h' : Shape) (p : LookupScope) (x : ℕ) : Type 0 where
  pub shape : h' ≡ h
  pub from : x ≡ at
  pub place : InSheet s p

module _ (L : Lookups) (s : List ℕ) (h : Shape) (at : ℕ) where
  left-no-constant : {C : Type 0} (h' : Shape) (x : ℕ) → left_on L s h at ≡ Ok (Constant h' x) → C
  unfolding left_on
  left-no-constant {C} h' x e = go (eqb h.typ TYPE_MESSAGE) (eqb h.typ TYPE_GROUP) (L.message (text s h.path)) e
    where
      go : (b c : Bool) (u : Result LookupScope Refusal)
          → ◌≡◌ {A = Result Reach Refusal} (elim b [ true ↦ entered h at u | false ↦ elim c [ true ↦ Ok Nothing | false ↦ Err ExtensionIsNotMessage ] ]) (Ok (Constant h' x)) → C
      go true c (Err w) e = nothing_left cc
      go true c (Ok p) e = nothing_left cc
      go false true u e = nothing_left cc
      go false false u e = nothing_left cc

entered_on : (s : List ℕ) (h : Shape) (at : ℕ) (h' : Shape) (p : LookupScope) (x : ℕ) → left_on (walking s) s h at ≡ Ok (Inside h' p x)
    → EnteredOn s h at h' p x
unfolding left_on
entered_on s h at h' p x e =
    go (eqb h.typ TYPE_MESSAGE) (eqb h.typ TYPE_GROUP) ((walking s).message (text s h.path)) refl e
  where
    go : (b c : Bool) (u : Result LookupScope Refusal) → u ≡ (walking s).message (text s h.path)
        → ◌≡◌ {A = Result Reach Refusal} (elim b [ true ↦ entered h at u | false ↦ elim c [ true ↦ Ok Nothing | false ↦ Err ExtensionIsNotMessage ] ]) (Ok (Inside h' p x))
        → EnteredOn s h at h' p x
    go true c (Err w) q e = nothing_left cc
    go true c (Ok y) q e =
        let i : Ok y ≡ Ok p = cc in
        record { shape = cc; from = cc; place = message-lies s (text s h.path) (Ok y) q p i }
    go false true u q e = nothing_left cc
    go false false u q e = nothing_left cc

module _ (L : Lookups) (s q : List ℕ) (i : ℕ) (d : Declaration) (at : ℕ) (f : Message → Named) where
  left-reach : left L s q i d f ≡ of_reach s i (left_on L s d.shape at) f
  unfolding left_on
  left-reach = go (eqb d.shape.typ TYPE_MESSAGE) (eqb d.shape.typ TYPE_GROUP) (L.message (text s d.shape.path))
    where
      go : (b c : Bool) (u : Result LookupScope Refusal)
          → elim b [
            | true ↦ on_message i (text s d.shape.path) u f
            | false ↦ elim c [ true ↦ group | false ↦ refused_at i ExtensionIsNotMessage ]
          ]
          ≡ of_reach s i (elim b [ true ↦ entered d.shape at u | false ↦ elim c [ true ↦ Ok Nothing | false ↦ Err ExtensionIsNotMessage ] ]) f
      go true c (Err w) = refl
      go true c (Ok p) = refl
      go false true u = refl
      go false false u = refl

  also-left : also d (left L s q i d f) ≡ left L s q i d (λ m. also d (f m))
  also-left = go (eqb d.shape.typ TYPE_MESSAGE) (eqb d.shape.typ TYPE_GROUP) (L.message (text s d.shape.path))
    where
      go : (b c : Bool) (u : Result LookupScope Refusal)
          → also d (elim b [
            | true ↦ on_message i (text s d.shape.path) u f
            | false ↦ elim c [ true ↦ group | false ↦ refused_at i ExtensionIsNotMessage ]
          ])
          ≡ elim b [
            | true ↦ on_message i (text s d.shape.path) u (λ m. also d (f m))
            | false ↦ elim c [ true ↦ group | false ↦ refused_at i ExtensionIsNotMessage ]
          ]
      go true c (Err w) = refl
      go true c (Ok p) = refl
      go false true u = refl
      go false false u = refl

module _ (L : Lookups) (s q : List ℕ) (d : Declaration) (at end : ℕ) (v : Result Reach Refusal) (e : v ≡ behind L s q d.shape at end) where
  -- the constant, where no part is left
  none_left : (h : Shape) (x : ℕ) → v ≡ Ok (Constant h x) → parts_in (walk q at end) ≡ []
  unfolding behind
  none_left h x g = go (part_at q at end) refl (sym e ∙ g)
    where
      go : (r : Option Part) → r ≡ part_at q at end → followed L s d.shape at r ≡ Ok (Constant h x) → parts_in (walk q at end) ≡ []
      go None y z = parts-nil q at end None y refl
      go (Some p) y z = left-no-constant L s d.shape at h x z

  -- else what is left leads where the steps lead
  module _ (n : (h : Shape) (x : ℕ) → v ≡ Ok (Constant h x) → ⊥) where
    leads-on : v ≡ left_on L s d.shape at
    unfolding behind
    leads-on = go (part_at q at end) e
      where
        go : (r : Option Part) → v ≡ followed L s d.shape at r → v ≡ left_on L s d.shape at
        go None z = absurd (n d.shape at z)
        go (Some p) z = z

    behind-reach : (i : ℕ) → behind_part L s q i d (parts_in (walk q at end))
        ≡ of_reach s i v (λ m. declarations L s q (i + 1) m (parts_in (walk q at end)))
    unfolding behind
    behind-reach i = go (part_at q at end) refl e
      where
        go : (r : Option Part) → r ≡ part_at q at end → v ≡ followed L s d.shape at r
            → behind_part L s q i d (parts_in (walk q at end))
            ≡ of_reach s i v (λ m. declarations L s q (i + 1) m (parts_in (walk q at end)))
        go None y z = absurd (n d.shape at z)
        go (Some o) y z =
            let ps = parts_in (walk q o.name.to end) in
            subst (λ (xs : List Part). behind_part L s q i d xs ≡ of_reach s i v (λ m. declarations L s q (i + 1) m xs))
            (sym (parts-cons q at end (Some o) y o refl))
            (left-reach L s q i d at (λ m. declarations L s q (i + 1) m (o ∷ ps))
            ∙ ap (λ (u : Result Reach Refusal). of_reach s i u (λ m. declarations L s q (i + 1) m (o ∷ ps))) (sym z))

-- ---- a declaration for each part
module _ (L : Lookups) (s q : List ℕ) where
  -- a declaration in front of others
  record Behind (d : Declaration) (x : Named) (ds : List Declaration) : Type 0 where
    rest : List Declaration
    is : x ≡ names rest
    one : ds ≡ d ∷ rest

  also-behind : (d : Declaration) (x : Named) (ds : List Declaration) → also d x ≡ names ds → Behind d x ds
  also-behind d (names es) ds e = record { rest = es; is = refl; one = cc }
  also-behind d group ds e = nothing_left cc
  also-behind d (refused_at i w) ds e = nothing_left cc

  record Onward (d : Declaration) (f : Message → Named) (ds : List Declaration) : Type 0 where
    message : Message
    is : also d (f message) ≡ names ds

  left-onward : (i : ℕ) (d : Declaration) (f : Message → Named) (ds : List Declaration) → left L s q i d (λ n. also d (f n)) ≡ names ds
      → Onward d f ds
  left-onward i d f ds = go (eqb d.shape.typ TYPE_MESSAGE) (eqb d.shape.typ TYPE_GROUP) (L.message (text s d.shape.path))
    where
      go : (b c : Bool) (u : Result LookupScope Refusal)
          → elim b [
            | true ↦ on_message i (text s d.shape.path) u (λ n. also d (f n))
            | false ↦ elim c [ true ↦ group | false ↦ refused_at i ExtensionIsNotMessage ]
          ]
          ≡ names ds → Onward d f ds
      go true c (Err w) e = nothing_left cc
      go true c (Ok p) e = record { message = message (text s d.shape.path) p; is = e }
      go false true u e = nothing_left cc
      go false false u e = nothing_left cc

  -- whichever places the parts behind have
  more-length : (i k : ℕ) (ds : List Declaration) (ps : List Part)
      → ((j : ℕ) (n : Message) (es : List Declaration) → declarations L s q j n ps ≡ names es → length es ≡ length ps) → (v : Result Declaration Lack)
      → on_step i v (λ d. left L s q i d (λ n. also d (declarations L s q k n ps))) ≡ names ds → length ds ≡ suc (length ps)
  more-length i k ds ps more (Err l) e = nothing_left cc
  more-length i k ds ps more (Ok d) e =
      let x = left-onward i d (λ n. declarations L s q k n ps) ds e in
      let y = also-behind d (declarations L s q k x.message ps) ds x.is in
      rw y.one (ap suc (more k x.message y.rest y.is))

  pub declarations-length : (ps : List Part) (i : ℕ) (m : Message) (ds : List Declaration) → declarations L s q i m ps ≡ names ds
      → length ds ≡ length ps
  declarations-length [] i m ds e = let z : ds ≡ [] = cc in rw z
  declarations-length (p ∷ []) i m ds e = go (step_of L s q [] m p) e
    where
      go : (v : Result Declaration Lack) → on_step i v (λ d. names (d ∷ [])) ≡ names ds → length ds ≡ 1
      go (Err l) e = nothing_left cc
      go (Ok d) e = let z : ds ≡ d ∷ [] = cc in rw z
  declarations-length (p ∷ o ∷ ps) i m ds e = more-length i _ ds (o ∷ ps) (declarations-length (o ∷ ps)) (step_of L s q [] m p) e

-- ---- the keys of declarations, one in front of others
module _ (joins : Declaration → Bool) (d : Declaration) (k : ℕ) (ws ws' : List ℕ)
    (w : ws' ≡ sets ws (k * key_words) (d.name.from ∷ only_if (joins d) 1 0 ∷ [])) (h : k * key_words + key_words ≤ length ws) where
  here-noted : key_at ws' k ≡ key_of joins d
  here-noted = ap (λ (y : List ℕ). key_at y k) w ∙ key-noted ws k d.name.from (joins d) h

  front_kept : keys_at ws' k ≡ keys_at ws k
  front_kept = ap (λ (y : List ℕ). keys_at y k) w ∙ keys-before ws k d.name.from (joins d) 0 k (omega arith)

  declares-more : {n : Named} {i : ℕ} {us us' : List ℕ} {r : Result Naming Cause} → Declares joins n i us us' r → i ≡ k + 1 → us ≡ ws'
      → Declares joins (also d n) k ws us' r
  declares-more (declares {ds} {k = i} {n} {ws = us} {ws' = us'} c m b) e y =
      let j : i ≡ suc k = e ∙ add-one k in
      let moved : keys_at us' (suc k) ≡ keys_at us (suc k) = rw j at b in
      let same : keys_at us' (suc k) ≡ keys_at ws' (suc k) = moved ∙ ap (λ xs. keys_at xs (suc k)) y in
      let tail : keys_from us' (suc k) (length ds) ≡ map (key_of joins) ds = rw j at m in
      let head : key_at us' k ≡ key_of joins d = keys-last us' ws' 0 k k (omega arith) same ∙ here-noted in
      let count : n ≡ k + length (d ∷ ds) = omega arith in
      declares {ds = d ∷ ds} count (ap (λ x. x ∷ keys_from us' (suc k) (length ds)) head ∙ ap (λ xs. key_of joins d ∷ xs) tail)
      (keys-fewer us' ws' 0 k same ∙ front_kept)
  declares-more leaves-group e y = leaves-group
  declares-more refuses e y = refuses

-- ---- what the walk over a name carries
module _ (q scope : List ℕ) (at k : ℕ) (ws : List ℕ) (o : Namable q scope at k ws) where
  pub namable-within : at ≤ length q
  namable-within = o.within

  pub namable-scope : is_rel_or_empty scope ≡ true
  unfolding is_rel_or_empty components all_ident
  namable-scope = rw o.empty refl

  pub namable-next : (r : Option Part) → r ≡ part_at q at (length q) → (p : Part) → r ≡ Some p → Namable q scope p.name.to (k + 1) ws
  namable-next r y p g = record {
    within = part-inside q at (length q) r y p g;
    parts = fine-part-next _ q at (length q) o.parts r y p g;
    empty = o.empty;
    room = omega (arith, o.room, ap length (parts-cons q at (length q) r y p g));
    few = o.few;
  }

module _ (q scope : List ℕ) (at k : ℕ) (ws : List ℕ) (o : Namable q scope at (k + 1) ws) where
  pub noted-room : k * key_words + key_words ≤ length ws
  noted-room = omega (arith, o.room)

  pub index-fits : Fits w32 (k + 1)
  index-fits = record { fits = omega (arith, o.room, o.few) }

-- ---- declare
module _ (q : List ℕ) (at : ℕ) (r : Option Part) (y : r ≡ part_at q at (length q)) where
  pub declared-none : (joins : Declaration → Bool) (L : Lookups) (s : List ℕ) (m : Message) (k : ℕ) (ws : List ℕ) → r ≡ None
      → Declares joins (declarations L s q k m (parts_in (walk q at (length q)))) k ws ws (Ok (Parts k))
  declared-none joins L s m k ws g =
      subst (λ (xs : List Part). Declares joins (declarations L s q k m xs) k ws ws (Ok (Parts k))) (sym (parts-nil q at (length q) r y g))
      (declares {ds = []} (sym (add-zero k)) refl refl)

  module _ (p : Part) (g : r ≡ Some p) (joins : Declaration → Bool) (L : Lookups) (s scope : List ℕ) (c : scope ≡ []) (m : Message) (v : Result Declaration Lack)
      (z : v ≡ step_of L s q scope m p) where
    step-empty : step_of L s q [] m p ≡ v
    step-empty = ap (λ (x : List ℕ). step_of L s q x m p) (sym c) ∙ sym z

    with-step : (k : ℕ) (ps : List Part) → declarations L s q k m (p ∷ ps) ≡ step_part L s q k v ps
    with-step k [] = ap (λ (x : Result Declaration Lack). on_step k x (λ d. names (d ∷ []))) step-empty
    with-step k (o ∷ ps) =
        ap (λ (x : Result Declaration Lack). on_step k x (λ d. left L s q k d (λ n. also d (declarations L s q (k + 1) n (o ∷ ps))))) step-empty ∙ go v
      where
        go : (v : Result Declaration Lack) → on_step k v (λ d. left L s q k d (λ n. also d (declarations L s q (k + 1) n (o ∷ ps))))
            ≡ step_part L s q k v (o ∷ ps)
        go (Err l) = refl
        go (Ok d) = sym (also-left L s q k d 0 (λ n. declarations L s q (k + 1) n (o ∷ ps)))

    pub declared-step : (k : ℕ) (ws ws' : List ℕ) (u : Result Naming Cause)
        → Declares joins (step_part L s q k v (parts_in (walk q p.name.to (length q)))) k ws ws' u
        → Declares joins (declarations L s q k m (parts_in (walk q at (length q)))) k ws ws' u
    declared-step k ws ws' u j =
        subst (λ (n : Named). Declares joins n k ws ws' u)
        (sym (ap (declarations L s q k m) (parts-cons q at (length q) r y p g) ∙ with-step k (parts_in (walk q p.name.to (length q))))) j

  pub declare-falls : (p : Part) → r ≡ Some p → (n : ℕ) → 3 * (length q - at) ≡ n → 3 * (length q - p.name.to) + 2 < n
  declare-falls p g n e = omega (arith, part-inside q at (length q) r y p g, part-further q at (length q) r y p g)

-- ---- declare_step
module _ (joins : Declaration → Bool) (L : Lookups) (s q : List ℕ) (k : ℕ) (ws ws' : List ℕ) (ps : List Part) (v : Result Declaration Lack) where
  pub step-refused : (l : Lack) → v ≡ Err l → (w : Refusal) → w ≡ why_of l
      → Declares joins (step_part L s q k v ps) k ws ws' (Err (of_part k w))
  step-refused l n w e = rw (n, e) refuses

  pub step-noted : (d : Declaration) → v ≡ Ok d → ws' ≡ sets ws (k * key_words) (d.name.from ∷ only_if (joins d) 1 0 ∷ [])
      → (scope : List ℕ) (at : ℕ) → Namable q scope at (k + 1) ws → (us : List ℕ) (u : Result Naming Cause)
      → Declares joins (behind_part L s q k d ps) (k + 1) ws' us u → Declares joins (step_part L s q k v ps) k ws us u
  step-noted d n w scope at o us u j = rw n (declares-more joins d k ws ws' w (noted-room q scope at k ws o) j refl refl)

pub step_falls : (a b n : ℕ) → 3 * (a - b) + 2 ≡ n → 3 * (a - b) + 1 < n
step_falls a b n e = omega arith

pub noted-namable : (q scope : List ℕ) (at k : ℕ) (ws : List ℕ) → Namable q scope at k ws → (ws' : List ℕ) (i : ℕ) (vs : List ℕ)
    → ws' ≡ sets ws i vs → Namable q scope at k ws'
noted-namable q scope at k ws o ws' i vs y =
    let size : length ws' ≡ length ws = ap length y ∙ length-sets ws i vs in
    record { within = o.within; parts = o.parts; empty = o.empty; room = rw size o.room; few = rw size o.few }

-- ---- declare_behind
module _ (s q : List ℕ) (d : Declaration) (at : ℕ) (v : Result Reach Refusal) where
  module _ (L : Lookups) (e : v ≡ behind L s q d.shape at (length q)) (joins : Declaration → Bool) (k : ℕ) (ws : List ℕ) where
    pub behind-last : (h : Shape) (x : ℕ) → v ≡ Ok (Constant h x)
        → Declares joins (behind_part L s q k d (parts_in (walk q at (length q)))) (k + 1) ws ws (Ok (Parts (k + 1)))
    behind-last h x g =
        subst (λ (xs : List Part). Declares joins (behind_part L s q k d xs) (k + 1) ws ws (Ok (Parts (k + 1))))
        (sym (none_left L s q d at (length q) v e h x g)) (declares {ds = []} (sym (add-zero (k + 1))) refl refl)

    pub behind-group : v ≡ Ok Nothing → Declares joins (behind_part L s q k d (parts_in (walk q at (length q)))) (k + 1) ws ws (Ok Group)
    behind-group g =
        let i = behind-reach L s q d at (length q) v e (λ h x y. nothing_left cc) k in
        rw (i, g) leaves-group

    pub behind-fails : (w : Refusal) → v ≡ Err w
        → Declares joins (behind_part L s q k d (parts_in (walk q at (length q)))) (k + 1) ws ws (Err (of_part k w))
    behind-fails w g =
        let i = behind-reach L s q d at (length q) v e (λ h x y. nothing_left cc) k in
        rw (i, g) refuses

  module _ (e : v ≡ behind (walking s) s q d.shape at (length q)) (h : Shape) (p : LookupScope) (x : ℕ) (g : v ≡ Ok (Inside h p x)) where
    inside_on : EnteredOn s d.shape at h p x
    inside_on = entered_on s d.shape at h p x (sym (leads-on (walking s) s q d at (length q) v e (λ i y z. nothing_left cc)) ∙ g)

    pub inside-lies : InSheet s p
    inside-lies = inside_on.place

    module _ (l : Lies d.shape.path s) where
      pub inside-ordered : h.path.from ≤ h.path.to
      inside-ordered = rw inside_on.shape l.0

      pub inside-within : h.path.to ≤ length s
      inside-within = rw inside_on.shape l.1

    pub inside-falls : (n : ℕ) → 3 * (length q - at) + 1 ≡ n → 3 * (length q - x) < n
    inside-falls n y = omega (arith, inside_on.from)

    pub inside-namable : (scope : List ℕ) (k : ℕ) (ws : List ℕ) → Namable q scope at k ws → Namable q scope x k ws
    inside-namable scope k ws o = rw inside_on.from o

    pub behind-inside : (joins : Declaration → Bool) (k : ℕ) (ws ws' : List ℕ) (r : Result Naming Cause)
        → Declares joins (declarations (walking s) s q (k + 1) (message (text s h.path) p) (parts_in (walk q x (length q)))) (k + 1) ws ws' r
        → Declares joins (behind_part (walking s) s q k d (parts_in (walk q at (length q)))) (k + 1) ws ws' r
    behind-inside joins k ws ws' r j =
        let i = behind-reach (walking s) s q d at (length q) v e (λ h x y. nothing_left cc) k in
        rw (i, g) (rw inside_on.from at j)

pub ruleset declare_laws = (namable-within, namable-scope, namable-next, declared-none, declared-step, declare-falls, fine_part_laws)

pub ruleset declare_step_laws = (noted-room, noted-namable, step-refused, step-noted, step_falls, step-path-ordered, step-path-within)

pub ruleset declare_behind_laws = (
  namable-within,
  index-fits,
  behind-last,
  behind-group,
  behind-fails,
  inside-lies,
  inside-ordered,
  inside-within,
  inside-falls,
  inside-namable,
  behind-inside,
)
