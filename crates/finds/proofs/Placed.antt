-- What a scope of a fine sheet declares, at every depth: names lead by messages to the scope that declares it itself, and all these names
-- are identifiers.
--
--         Part i j <-> what the items i themselves declare is among what the items j themselves declare
--   Placed s f c b <-> names lead from the scope c to one that itself declares b; f, these names and its own are the full name of b
--
-- Assumes nothing.
use Rattle.std.specs.Prelude.{◌≡◌, refl, true, ◌&&◌, List, [], ◌∷◌, ◌++◌, ℕ}
use mathlib.Core.Bool.{and-eq-true_iff}
use Rattle.basis.specs.Among.{Among, here, there}
use Rattle.basis.proofs.AmongLaws.{among-nil, among-append-cases}
use Rattle.field.specs.Leaf.{text}
use Rattle.ident.specs.Ident.{is_ident}
use Rattle.path.specs.Path.{Name, Path, is_rel_path, all_ident}
use Rattle.path.proofs.PathLaws.{ident-cons}
use Rattle.sheet.specs.declared.declaration.Declaration.{Declaration}
use Rattle.sheet.specs.Tree as tree
use Rattle.sheet.specs.Tree.{Items}
use Rattle.sheet.specs.Members.{Message, Enumeration, messages_of, enums_of, extensions_of}
use Rattle.scope.specs.Scope.{Scope, message_scope}
use Rattle.declform.specs.Declarations.{good_shape, good_field}
use Rattle.messageform.specs.Fine.{good_values, good_items}
use Rattle.names.specs.Names.{Named, inside, declared_in}
use Rattle.finds.proofs.Spelling.{front_of, ident-one}
use Rattle.finds.proofs.Reach.{Holds, message-of, enum-of, extension-of, Reach, stays, enters}

among_cases : {A C : Type 0} {x y : A} {xs : List A} → Among x (y ∷ xs) → (x ≡ y → C) → (Among x xs → C) → C
among_cases here l r = l refl
among_cases (there m) l r = r m

record Part (i j : Items) : Type 0 where
  messages : (m : Message) → Among m (messages_of i) → Among m (messages_of j)
  enums : (e : Enumeration) → Among e (enums_of i) → Among e (enums_of j)
  extensions : (d : Declaration) → Among d (extensions_of i) → Among d (extensions_of j)

part-all : (i : Items) → Part i i
part-all i = record { messages = λ m k. k; enums = λ e k. k; extensions = λ d k. k }

module _ (s : List ℕ) where
  pub record Placed (f : List ℕ) (c : Scope) (b : Named) : Type 0 where
    pub names : Path
    pub own : Name
    pub holder : Scope
    pub reach : Reach s names c holder
    pub holds : Holds s holder own b.what
    pub spelled : b.name ≡ front_of f names ++ own
    pub idents : all_ident (names ++ own ∷ []) ≡ true
    pub names-idents : all_ident names ≡ true

  field-ident : (d : Declaration) → good_field s d ≡ true → is_ident (text s d.name) ≡ true
  unfolding good_field
  field-ident d h = ((and-eq-true_iff (is_ident (text s d.name)) (good_shape s d.shape)).0 h).0

  module _ (f : List ℕ) (c : Scope) where
    own-placed : (n : Name) (b : Named) → is_ident n ≡ true → Holds s c n b.what → b.name ≡ f ++ n → Placed f c b
    unfolding all_ident
    own-placed n b h k e = record {
      names = [];
      own = n;
      holder = c;
      reach = stays;
      holds = k;
      spelled = e;
      idents = ident-one n h;
      names-idents = refl;
    }

    inner-placed : (m : Message) → Among m (messages_of c.items) → is_ident (text s m.name) ≡ true
        → (b : Named) → Placed (inside (f ++ text s m.name)) (message_scope c m) b → Placed f c b
    inner-placed m k h b r = record {
      names = text s m.name ∷ r.names;
      own = r.own;
      holder = r.holder;
      reach = enters m k refl r.reach;
      holds = r.holds;
      spelled = r.spelled;
      idents = ident-cons (text s m.name) (r.names ++ r.own ∷ []) h r.idents;
      names-idents = ident-cons (text s m.name) r.names h r.names-idents;
    }

  placed-items : (f : List ℕ) (c : Scope) (i : Items) → Part i c.items → good_items s i ≡ true → (b : Named)
      → Among b (declared_in s f c i) → Placed f c b
  placed-items f c tree.none p h b m = among-nil m
  placed-items f c (tree.message n o i r) p h b m =
      let x = (and-eq-true_iff (is_ident (text s n) && good_items s i) (good_items s r)).0 h in
      let y = (and-eq-true_iff (is_ident (text s n)) (good_items s i)).0 x.0 in
      let l : Message = record { name = n; body = o; inside = i } in
      let k : Among l (messages_of c.items) = p.messages l here in
      let more : Part r c.items = record { messages = λ z j. p.messages z (there j); enums = p.enums; extensions = p.extensions } in
      among_cases m
      (λ e. own-placed f c (text s n) b y.0 (rw e (message-of l k refl)) (rw e))
      (among-append-cases (declared_in s (inside (f ++ text s n)) (message_scope c l) i)
      (λ u. inner-placed f c l k y.0 b (placed-items (inside (f ++ text s n)) (message_scope c l) i (part-all i) y.1 b u))
      (placed-items f c r more x.1 b))
  placed-items f c (tree.extension d r) p h b m =
      let x = (and-eq-true_iff (is_rel_path (text s d.extendee) && good_field s d) (good_items s r)).0 h in
      let y = (and-eq-true_iff (is_rel_path (text s d.extendee)) (good_field s d)).0 x.0 in
      let more : Part r c.items = record { messages = p.messages; enums = p.enums; extensions = λ z j. p.extensions z (there j) } in
      among_cases m
      (λ e. own-placed f c (text s d.name) b (field-ident d y.1) (rw e (extension-of d (p.extensions d here) refl)) (rw e))
      (placed-items f c r more x.1 b)
  placed-items f c (tree.enumeration n o vs r) p h b m =
      let x = (and-eq-true_iff (is_ident (text s n) && good_values s vs) (good_items s r)).0 h in
      let y = (and-eq-true_iff (is_ident (text s n)) (good_values s vs)).0 x.0 in
      let l : Enumeration = record { name = n; body = o; values = vs } in
      let more : Part r c.items = record { messages = p.messages; enums = λ z j. p.enums z (there j); extensions = p.extensions } in
      among_cases m
      (λ e. own-placed f c (text s n) b y.0 (rw e (enum-of l (p.enums l here) refl)) (rw e))
      (placed-items f c r more x.1 b)
  placed-items f c (tree.field d r) p h b m =
      let y = (and-eq-true_iff (good_field s d) (good_items s r)).0 h in
      placed-items f c r (record { messages = p.messages; enums = p.enums; extensions = p.extensions }) y.1 b m

  pub placed : (f : List ℕ) (c : Scope) → good_items s c.items ≡ true → (b : Named) → Among b (declared_in s f c c.items) → Placed f c b
  placed f c h b m = placed-items f c c.items (part-all c.items) h b m
