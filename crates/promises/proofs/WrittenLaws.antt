-- What a request writes is typed by the sheet: over any look-ups whose steps come to usable declarations, and of a request whose float
-- constants are of 64 bits. The statement stands at the end.
--
--     Written L s m x <-> the records x have proper numbers and types, and the sheet types them at the message m where it declares each
--                         number once
--       WrittenMade m <-> so are the records that were made, where they were
--    WrittenSettled m <-> and those of what one option comes to
--     AllWritten m ks <-> and those of the builtins that are set
--            On L s m k <-> what holds constants at the message m: a field of it, or the message itself
--
-- Assumes nothing.
use Rattle.std.specs.Prelude.{◌≡◌, refl, Bool, true, false, List, [], ◌∷◌, ℕ, ◌+◌, eqb, ltb, Option, Err, Ok, Result, None, Some}
use Rattle.basis.specs.First.{told}
use Rattle.basis.proofs.Never.{never}
use borrow.Author.Tests.{eqb-true}
use Rattle.reply.specs.declared.Refusal.{Refusal}
use Rattle.reply.specs.declared.Refusal.TheVariants.{ExtensionIsNotMessage, UnknownEnumValue, UnknownFieldName, UnsupportedExtensionType}
use Rattle.reply.specs.declared.Refusal.TheVariants.{MessageFieldRequiresMessageConstant, BuiltinOptionPointsToNonSingularField}
use Rattle.field.specs.Leaf.{text}
use Rattle.types.specs.Types.{is_any, TYPE_GROUP, TYPE_MESSAGE, TYPE_BOOL, TYPE_ENUM, TYPE_STRING}
use Rattle.payloads.proofs.ValueFacts.{fits-small}
use Rattle.sheet.specs.declared.declaration.Shape.{Shape}
use Rattle.sheet.specs.declared.declaration.Declaration.{Declaration}
use Rattle.scope.specs.declared.lookup.LookupScope.{LookupScope}
use Rattle.search.specs.declared.extension.Compared.{Compared}
use Rattle.search.specs.declared.extension.Compared.TheVariants as comparison
use Rattle.request.specs.declared.name.Part.{Part}
use Rattle.request.specs.declared.constant.Constant.{Constant}
use Rattle.request.specs.Tree.{PairName, unnamed, by_field, by_extension, by_url, Constants, none, scalar, message, list}
use Rattle.request.specs.Request as request
use Rattle.records.specs.declared.Body.{Body}
use Rattle.records.specs.declared.Body.TheVariants.{Bits, Bytes}
use Rattle.records.specs.Records.{Recs, nil, append, record_of}
use Rattle.records.specs.Records as recs
use Rattle.records.specs.Raw.{Proper, proper-nil, proper-number, proper-bytes, proper-message}
use Rattle.records.specs.Made.{Made, made, wrong, both, holding}
use Rattle.lookups.specs.Lookups.{Lookups, Message, field_named}
use Rattle.scalars.specs.Scalars.{scalar_on, unsupported}
use Rattle.values.specs.Values.{made_of, Holder, on, within, asked, on_asked, reached, in_message, scalar_made, records}
use Rattle.values.specs.Values as values
use Rattle.known.specs.Known.{Known, set_known, known_recs}
use Rattle.reply.specs.declared.Cause.{Cause}
use Rattle.steps.specs.declared.Lack.TheVariants.{NoField}
use Rattle.steps.specs.Steps.{step_extension, step_of}
use Rattle.faults.specs.declared.Fault.{Fault}
use Rattle.options.specs.Named.{at, on_step, left, option_from}
use Rattle.faults.specs.Faults.{fault_at}
use Rattle.options.specs.Named as named
use Rattle.builtins.specs.Builtins.{repeated, is_skipped, built_of, builtin_on, builtin_field, builtin_of}
use Rattle.options.specs.Settle.{Settled, known, others, fails, settled_built, settled, builtin_part, settle}
use Rattle.options.specs.Options.{Gathered, gathered, stopped, next, gather}
use Rattle.options.specs.Steps.{Steps, absent, refused, steps_in, on_type, some_options, steps_of}
use Rattle.options.specs.Steps as steps
use Rattle.readback.specs.Seen.{path_of, reached_by}
use Rattle.readback.specs.Typed.{DeclaredAs, Typed}
use Rattle.readback.specs.Once.{Once}
use Rattle.promises.proofs.ScalarFits.{BodyFits, ScalarFits, SizedBits, scalar_fits}
use Rattle.promises.proofs.SizedLaws.{SizedAll, SizedOptions}
use Rattle.promises.proofs.Declarations.{Usable, Steady}
use Rattle.steps.specs.declared.Lack.{Lack}

pub record Written (L : Lookups) (s : List ℕ) (m : Message) (x : Recs) : Type 0 where
  pub proper : Proper x
  pub typed : Once L s → Typed L s m x

-- the message m was found by its name
abbrev Reached : Lookups → Message → Type 0
Reached L m = L.message m.name ≡ Ok m.place

module _ (L : Lookups) (s : List ℕ) (m : Message) where
  data WrittenMade {W : Type 0} : Made W → Type 0 where
    writes : {x : Recs} → Written L s m x → WrittenMade (made x)
    refuses : {w : W} → WrittenMade (wrong w)

  data WrittenSettled : Settled → Type 0 where
    sets : {k : Known} → Written L s m k.made → WrittenSettled (known k)
    adds : {x : Recs} → Written L s m x → WrittenSettled (others x)
    faulty : {f : Fault} → WrittenSettled (fails f)

  data WrittenGathered : Gathered → Type 0 where
    together : {ks : List Known} {x : Recs} → Written L s m (append (known_recs ks) x) → WrittenGathered (gathered ks x)
    halted : {e : Cause} → WrittenGathered (stopped e)

  abbrev AllWritten : List Known → Type 0
  AllWritten [] = Unit {0}
  AllWritten (k ∷ ks) = Written L s m k.made × AllWritten ks

  abbrev On : Holder → Type 0
  On (on h) = (d : Declaration) × Usable L s m d × (d.shape ≡ h)
  On (within p) = Reached L m × (m.place ≡ p)

-- ---- records in a row
proper-append : {a b : Recs} → Proper a → Proper b → Proper (append a b)
proper-append proper-nil q = q
proper-append (proper-number h k l p) q = proper-number h k l (proper-append p q)
proper-append (proper-bytes h k p) q = proper-bytes h k (proper-append p q)
proper-append (proper-message h i p) q = proper-message h i (proper-append p q)

module _ (L : Lookups) (s : List ℕ) (m : Message) where
  typed-append : (a b : Recs) → Typed L s m a → Typed L s m b → Typed L s m (append a b)
  typed-append recs.nil b y z = z
  typed-append (recs.number n t v r) b y z = (y.0, y.1, typed-append r b y.2 z)
  typed-append (recs.bytes n t x r) b y z = (y.0, y.1, typed-append r b y.2 z)
  typed-append (recs.message n i r) b y z = (y.0, y.1, typed-append r b y.2 z)

  written-nil : Written L s m nil
  written-nil = record { proper = proper-nil; typed = λ once. tt }

  written-append : {a b : Recs} → Written L s m a → Written L s m b → Written L s m (append a b)
  written-append {a} {b} y z = record {
    proper = proper-append y.proper z.proper;
    typed = λ once. typed-append a b (y.typed once) (z.typed once);
  }

  -- one record
  module _ {d : Declaration} (u : Usable L s m d) where
    declared-as : Once L s → DeclaredAs s m d.shape.number d.shape.typ
    declared-as once = record { by = d; declares = u.declares once; typ = refl }

    record-written : (r : List ℕ) (b : Body) → BodyFits d.shape.typ b → Written L s m (record_of r d.shape b)
    record-written r (Bits v) f = record {
      proper = proper-number u.range f.wire (fits-small d.shape.typ v f.fits) proper-nil;
      typed = λ once. (declared-as once, f.fits, tt);
    }
    record-written r (Bytes p) f = record {
      proper = proper-bytes u.range f.wire proper-nil;
      typed = λ once. (declared-as once, f.plain, tt);
    }

    message-written : d.shape.typ ≡ TYPE_MESSAGE → (p : LookupScope) → L.message (path_of s d) ≡ Ok p → (i : Recs)
        → Written L s (reached_by s d p) i → Written L s m (recs.message d.shape.number i nil)
    message-written e p g i y = record {
      proper = proper-message u.range y.proper proper-nil;
      typed = λ once. (
        record { by = d; declares = u.declares once; typ = e },
        record { place = p; found = g; inside = y.typed once },
        tt,
      );
    }

  both-written : {W : Type 0} {a b : Made W} → WrittenMade L s m a → WrittenMade L s m b → WrittenMade L s m (both a b)
  both-written (writes u) (writes v) = writes (written-append u v)
  both-written (writes u) refuses = refuses
  both-written refuses v = refuses

module _ (L : Lookups) (s : List ℕ) (m : Message) {d : Declaration} (u : Usable L s m d) where
  holding-written : {W : Type 0} → d.shape.typ ≡ TYPE_MESSAGE → (p : LookupScope) → L.message (path_of s d) ≡ Ok p → {x : Made W}
      → WrittenMade L s (reached_by s d p) x → WrittenMade L s m (holding d.shape.number x)
  holding-written e p g (writes {x = i} y) = writes (message-written L s m u e p g i y)
  holding-written e p g refuses = refuses

-- ---- constants
module _ (L : Lookups) (s r : List ℕ) (steady : Steady L s) where
  asked-written : (m : Message) (k : Holder) (n : PairName) → On L s m k → (f : Shape → Made Refusal)
      → ((d : Declaration) → Usable L s m d → WrittenMade L s m (f d.shape)) → WrittenMade L s m (on_asked (asked s r k n) f)
  asked-written m (on h) n o f g = rw o.2 at (g o.0 o.1)
  asked-written m (within p) unnamed o f g = writes (written-nil L s m)
  asked-written m (within p) (by_extension n) o f g = writes (written-nil L s m)
  asked-written m (within p) (by_url n) o f g = writes (written-nil L s m)
  asked-written m (within p) (by_field n) o f g = go (field_named s (text r n) p) refl
    where
      go : (x : Option Declaration) → field_named s (text r n) p ≡ x
          → WrittenMade L s m (on_asked (told (values.refused UnknownFieldName) (λ d. values.field d.shape) x) f)
      go None q = refuses
      go (Some d) q = g d (steady.field m o.0 (text r n) d (rw o.1 q))

  scalar-written : (m : Message) {d : Declaration} → Usable L s m d → (c : Constant) → SizedBits c
      → WrittenMade L s m (scalar_made L s r c d.shape)
  unfolding scalar_made
  scalar-written m {d} u c k =
      go (scalar_on L s r UnknownEnumValue d.shape c) (scalar_fits L s r steady.value UnknownEnumValue d.shape c k)
    where
      go : (x : Result Body Refusal) → ScalarFits d.shape.typ x → WrittenMade L s m (made_of r d.shape x)
      go (Ok b) f = writes (record-written L s m u r b f)
      go (Err w) f = refuses

  inside-written : (m : Message) {d : Declaration} → Usable L s m d → (f : LookupScope → Made Refusal)
      → ((p : LookupScope) → Reached L (reached_by s d p) → WrittenMade L s (reached_by s d p) (f p))
      → WrittenMade L s m (in_message L s d.shape f)
  inside-written m {d} u f g = go (eqb d.shape.typ TYPE_MESSAGE) refl (L.message (path_of s d)) refl
    where
      go : (b : Bool) → eqb d.shape.typ TYPE_MESSAGE ≡ b → (v : Result LookupScope Refusal) → L.message (path_of s d) ≡ v
          → WrittenMade L s m {W = Refusal} (elim b [
            | true ↦ reached d.shape.number v f
            | false ↦ wrong MessageFieldRequiresMessageConstant
          ])
      go true e (Err w) q = refuses
      go true e (Ok p) q = holding-written L s m u (eqb-true _ _ e) p q (g p q)
      go false e v q = refuses

  constants-written : (cs : Constants) → SizedAll cs → (m : Message) (k : Holder) → On L s m k → WrittenMade L s m (records L s r k cs)
  constants-written none z m k o = writes (written-nil L s m)
  constants-written (scalar n c rest) z m k o =
      both-written L s m (asked-written m k n o _ λ d u. scalar-written m u c z.0) (constants-written rest z.1 m k o)
  constants-written (list n inside rest) z m k o =
      both-written L s m
      (asked-written m k n o _ λ d u. constants-written inside z.0 m (on d.shape) (d, u, refl))
      (constants-written rest z.1 m k o)
  constants-written (message n inside rest) z m k o =
      both-written L s m
      (asked-written m k n o _ λ d u. inside-written m u _ λ p q. constants-written inside z.0 (reached_by s d p) (within p) (q, refl))
      (constants-written rest z.1 m k o)

  -- ---- the parts of a name
  module _ (scope : List ℕ) where
    step-usable : (m : Message) → Reached L m → (p : Part) (d : Declaration) → step_of L s r scope m p ≡ Ok d → Usable L s m d
    unfolding step_of
    step-usable m h p d = go p.extension
      where
        by-extension : (x : Result Compared Refusal) → L.extension scope m.name (text r p.name) ≡ x → step_extension x ≡ Ok d → Usable L s m d
        by-extension (Ok (comparison.Extends c)) q e =
            let same : d ≡ c.found.declaration = cc in
            rw same (steady.extension m h scope (text r p.name) c q)
        by-extension (Ok (comparison.ExtendsOther c)) q e = never cc
        by-extension (Err w) q e = never cc

        by-field : (x : Option Declaration) → field_named s (text r p.name) m.place ≡ x → ◌≡◌ {A = Result Declaration Lack} (told (Err NoField) Ok x) (Ok d)
            → Usable L s m d
        by-field None q e = never cc
        by-field (Some c) q e =
            let same : d ≡ c = cc in
            rw same (steady.field m h (text r p.name) c q)

        go : (b : Bool)
            → ◌≡◌ {A = Result Declaration Lack} (elim b [
              | true ↦ step_extension (L.extension scope m.name (text r p.name))
              | false ↦ told (Err NoField) Ok (field_named s (text r p.name) m.place)
            ]) (Ok d)
            → Usable L s m d
        go true = by-extension (L.extension scope m.name (text r p.name)) refl
        go false = by-field (field_named s (text r p.name) m.place) refl

    onto-written : (m : Message) (i : ℕ) (x : Result Declaration Lack) (f : Declaration → Made Fault)
        → ((d : Declaration) → x ≡ Ok d → WrittenMade L s m (f d)) → WrittenMade L s m (on_step i x f)
    onto-written m i (Err l) f g = refuses
    onto-written m i (Ok d) f g = g d refl

    at-written : (m : Message) (i : ℕ) {x : Made Refusal} → WrittenMade L s m x → WrittenMade L s m (at i x)
    at-written m i (writes y) = writes y
    at-written m i refuses = refuses

    left-written : (m : Message) (i : ℕ) {d : Declaration} → Usable L s m d → (f : Message → Made Fault)
        → ((n : Message) → Reached L n → WrittenMade L s n (f n)) → WrittenMade L s m (left L s r scope i d.shape f)
    left-written m i {d} u f g =
        go (eqb d.shape.typ TYPE_MESSAGE) refl (eqb d.shape.typ TYPE_GROUP) (L.message (path_of s d)) refl
      where
        go : (a : Bool) → eqb d.shape.typ TYPE_MESSAGE ≡ a → (b : Bool) (v : Result LookupScope Refusal) → L.message (path_of s d) ≡ v
            → WrittenMade L s m {W = Fault} (elim a [
              | true ↦ named.reached i d.shape.number (path_of s d) v f
              | false ↦ elim b [ true ↦ made nil | false ↦ wrong (fault_at i ExtensionIsNotMessage) ]
            ])
        go true e b (Err w) q = refuses
        go true e b (Ok p) q = holding-written L s m u (eqb-true _ _ e) p q (g (reached_by s d p) q)
        go false e true v q = writes (written-nil L s m)
        go false e false v q = refuses

    option-written : (c : Constants) → SizedAll c → (ps : List Part) (i : ℕ) (m : Message) → Reached L m
        → WrittenMade L s m (option_from L s r scope i m ps c)
    option-written c z [] i m h = writes (written-nil L s m)
    option-written c z (p ∷ []) i m h =
        onto-written m i (step_of L s r scope m p) _ λ d q.
        at-written m i (constants-written c z m (on d.shape) (d, step-usable m h p d q, refl))
    option-written c z (p ∷ o ∷ ps) i m h =
        onto-written m i (step_of L s r scope m p) _ λ d q.
        left-written m i (step-usable m h p d q) _ (option-written c z (o ∷ ps) (i + 1))

    -- ---- one option
    module _ (m : Message) (h : Reached L m) where
      settled-written : {x : Made Fault} → WrittenMade L s m x → WrittenSettled L s m (settled x)
      settled-written (writes y) = adds y
      settled-written refuses = faulty

      builtin-fits : (d : Shape) (c : Constants) → SizedAll c → ScalarFits d.typ (builtin_on L s r d c)
      builtin-fits d none z = tt
      builtin-fits d (scalar n c rest) z = go (is_any d.typ (TYPE_BOOL ∷ TYPE_ENUM ∷ TYPE_STRING ∷ []))
        where
          go : (x : Bool) → ScalarFits d.typ (elim x [ true ↦ scalar_on L s r UnsupportedExtensionType d c | false ↦ unsupported ])
          go true = scalar_fits L s r steady.value UnsupportedExtensionType d c z.0
          go false = tt
      builtin-fits d (list n inside rest) z = tt
      builtin-fits d (message n inside rest) z = tt

      field-written : (c : Constants) → SizedAll c → (d : Declaration) → Usable L s m d
          → WrittenSettled L s m (settled_built r (builtin_field L s r c (Some d)))
      field-written c z d u = go (eqb d.shape.label repeated) (builtin_on L s r d.shape c) (builtin-fits d.shape c z)
        where
          go : (x : Bool) (y : Result Body Refusal) → ScalarFits d.shape.typ y → WrittenSettled L s m (settled_built r (elim x [
            | true ↦ Err BuiltinOptionPointsToNonSingularField
            | false ↦ built_of d.shape y
          ]))
          go true y f = faulty
          go false (Ok b) f = sets (record-written L s m u r b f)
          go false (Err w) f = faulty

      builtin-written : (n : List ℕ) (c : Constants) → SizedAll c → WrittenSettled L s m (settled_built r (builtin_of L s r m n c))
      unfolding builtin_of
      builtin-written n c z = go (is_skipped m.name n) (field_named s n m.place) refl
        where
          go : (x : Bool) (o : Option Declaration) → field_named s n m.place ≡ o
              → WrittenSettled L s m (settled_built r (elim x [ true ↦ Ok None | false ↦ builtin_field L s r c o ]))
          go true o q = adds (written-nil L s m)
          go false None q = faulty
          go false (Some d) q = field-written c z d (steady.field m h n d q)

      settle-written : (o : request.RequestOption) → SizedAll o.constant → WrittenSettled L s m (settle L s r scope m o)
      unfolding settle
      settle-written o z = go (builtin_part o.parts)
        where
          go : (x : Option Part) → WrittenSettled L s m (told (settled (option_from L s r scope 0 m o.parts o.constant))
              (λ p. settled_built r (builtin_of L s r m (text r p.name) o.constant)) x)
          go None = settled-written (option-written o.constant z o.parts 0 m h)
          go (Some p) = builtin-written (text r p.name) o.constant z

      -- ---- options one after the other
      set-written : (k : Known) → Written L s m k.made → (ks : List Known) → AllWritten L s m ks → AllWritten L s m (set_known k ks)
      set-written k y [] z = (y, tt)
      set-written k y (x ∷ xs) z = go (ltb k.field x.field) (eqb k.field x.field) (set-written k y xs z.1)
        where
          go : (a b : Bool) → AllWritten L s m (set_known k xs)
              → AllWritten L s m (elim a [ true ↦ k ∷ x ∷ xs | false ↦ elim b [ true ↦ k ∷ xs | false ↦ x ∷ set_known k xs ] ])
          go true b w = (y, z)
          go false true w = (y, z.1)
          go false false w = (z.0, w)

      known_written : (ks : List Known) → AllWritten L s m ks → Written L s m (known_recs ks)
      known_written [] z = written-nil L s m
      known_written (k ∷ ks) z = written-append L s m z.0 (known_written ks z.1)

      next-written : (i : ℕ) (ks : List Known) (x : Recs) {y : Settled} → AllWritten L s m ks → Written L s m x → WrittenSettled L s m y
          → (f : List Known → Recs → Gathered)
          → ((ks : List Known) (x : Recs) → AllWritten L s m ks → Written L s m x → WrittenGathered L s m (f ks x))
          → WrittenGathered L s m (next i ks x y f)
      next-written i ks x u v (sets {k = k} w) f g = g (set_known k ks) x (set-written k w ks u) v
      next-written i ks x u v (adds {x = y} w) f g = g ks (append x y) u (written-append L s m v w)
      next-written i ks x u v faulty f g = halted

      gather-written : (os : List request.RequestOption) → SizedOptions os → (i : ℕ) (ks : List Known) (x : Recs) → AllWritten L s m ks
          → Written L s m x → WrittenGathered L s m (gather L s r scope m i ks x os)
      gather-written [] z i ks x u v = together (written-append L s m (known_written ks u) v)
      gather-written (o ∷ os) z i ks x u v =
          next-written i ks x u v (settle-written o z.0) _ (gather-written os z.1 (i + 1))

-- ==== the statement
-- the options message of a request, with records that it writes
pub record WrittenAt (L : Lookups) (s type : List ℕ) (x : Recs) : Type 0 where
  pub place : LookupScope
  pub found : L.message type ≡ Ok place
  pub written : Written L s (record { name = type; place = place }) x

module _ (L : Lookups) (s r : List ℕ) (steady : Steady L s) where
  abbrev type_of : request.Request → List ℕ
  type_of q = text r q.options_type

  data WrittenSteps (q : request.Request) : Steps → Type 0 where
    come : {x : Recs} → WrittenAt L s (type_of q) x → WrittenSteps q (steps.records x)
    nothing : WrittenSteps q absent
    stops : {e : Cause} → WrittenSteps q (refused e)

  gathered-written : (q : request.Request) (p : LookupScope) → L.message (type_of q) ≡ Ok p → {g : Gathered}
      → WrittenGathered L s (record { name = type_of q; place = p }) g → WrittenSteps q (steps_in g)
  gathered-written q p h (together w) = come (record { place = p; found = h; written = w })
  gathered-written q p h halted = stops

  some_written : (q : request.Request) → SizedOptions q.options → (os : List request.RequestOption) → WrittenSteps q (some_options L s r q os)
  some_written q z [] = nothing
  some_written q z (o ∷ os) = go (L.message (type_of q)) refl
    where
      go : (v : Result LookupScope Refusal) → L.message (type_of q) ≡ v → WrittenSteps q (on_type L s r q v)
      go (Err w) h = stops
      go (Ok p) h =
          let m : Message = record { name = type_of q; place = p } in
          gathered-written q p h
          (gather-written L s r steady (text r q.scope) m h q.options z 0 [] nil tt (written-nil L s m))

  -- What a request comes to is typed at its options message.
  pub steps-written : SizedOptions (request.request_of r).options → (x : Recs) → steps_of L s r ≡ steps.records x
      → WrittenAt L s (type_of (request.request_of r)) x
  unfolding steps_of
  steps-written z x e =
      go (some_options L s r q q.options) e (some_written q z q.options)
    where
      q : request.Request
      q = request.request_of r

      go : (y : Steps) → y ≡ steps.records x → WrittenSteps q y → WrittenAt L s (type_of q) x
      go (steps.records z) e (come w) = let same : x ≡ z = cc in rw same w
      go absent e nothing = never cc
      go (refused f) e stops = never cc
