-- A clean sheet declares each number once; and a clean sheet that is contained in another clean one keeps to it: what both declare at a
-- message they declare alike. The statements stand at the end of each part.
--
--   One s t m m' <-> the messages m of the older sheet s and m' of the newer one t have one full name, by which both are found
--
-- Assumes nothing.
use Rattle.std.specs.Prelude.{◌≡◌, refl, Bool, true, ◌&&◌, List, [], ◌∷◌, ℕ, eqb, Some, Ok}
use Rattle.basis.specs.Kit.{sym, ap, ◌∙◌}
use Rattle.basis.specs.Among.{Among, here}
use Rattle.basis.proofs.CountLaws.{any-passing, every-among}
use mathlib.Core.Path.{subst}
use mathlib.Core.Bool.{and-eq-true_iff}
use borrow.Author.Tests.{eqb-true}
use Rattle.octets.specs.Octets.{same_bytes}
use Rattle.octets.proofs.SameBytes.{same-sound}
use Rattle.field.specs.Leaf.{text}
use Rattle.types.specs.Types.{TYPE_MESSAGE}
use Rattle.path.specs.Path.{components, all_ident}
use Rattle.sheet.specs.declared.declaration.Declaration.{Declaration}
use Rattle.sheet.specs.Tree.{tree_of}
use Rattle.sheet.specs.Members.{every_extension}
use Rattle.sheetform.specs.Form.{judge_sheet}
use Rattle.scope.specs.declared.lookup.LookupScope.{LookupScope}
use Rattle.scope.specs.Scope.{Scope, holding, extends}
use Rattle.fullname.specs.FullName.{messages_at, looked_up}
use Rattle.fullname.proofs.LiesLaws.{looked-up-is}
use Rattle.lookups.specs.Lookups.{Message, walking}
use Rattle.names.specs.Names.{message, every_declared}
use Rattle.names.specs.Numbers.{Number, every_number}
use Rattle.names.specs.Clean.{clean}
use Rattle.names.specs.Contained.{alike, kept_number, kept_name, kept_at, contained}
use Rattle.finds.proofs.Reach.{named}
use Rattle.finds.proofs.Finds.{message-borne, message-declared, message-found, names-path, extension-named}
use Rattle.entries.specs.Item.{declared}
use Rattle.readback.specs.Seen.{path_of, reached_by, Names}
use Rattle.readback.specs.Once.{DeclaredAt, as-field, as-extension, Once}
use Rattle.readback.specs.Older.{Kept, Keeps}
use Rattle.readback.proofs.OnceLaws.{declared-only}
use Rattle.promises.proofs.CleanLaws.{number, number_of, field-number, extension-number}
use Rattle.promises.proofs.CleanLaws.{clean-name, number-once, path-message, extendee-message}
use Rattle.reply.specs.Verdicts.{fine}

-- ---- a clean sheet
module _ (s : List ℕ) (good : judge_sheet s ≡ fine) (c : clean s ≡ true) where
  only : (m : Message) → (walking s).message m.name ≡ Ok m.place → messages_at s (components m.name) ≡ holding s m.place ∷ []
  only m at = looked-up-is s (components m.name) ((walking s).message m.name) refl m.place at

  among-only : (m : Message) → (walking s).message m.name ≡ Ok m.place
      → Among (holding s m.place) (messages_at s (components m.name))
  among-only m at = rw (only m at) here

  -- an extension's extendee is a path
  extendee-path : (d : Declaration) → Among d (every_extension (tree_of s)) → all_ident (components (text s d.extendee)) ≡ true
  extendee-path d k =
      let e = extension-named s d k in
      let x = extendee-message s c e.0 d e.1 in
      names-path s good (named (text s d.extendee) (message x.scope)) x.among

  extension-at : (m : Message) (d : Declaration) → Among d (every_extension (tree_of s)) → extends s m.name d ≡ true
      → Among (number m.name d) (every_number s)
  extension-at m d k x =
      let e = extension-named s d k in
      subst (λ t. Among (number t d) (every_number s)) (sym (same-sound m.name (text s d.extendee) x))
      (extension-number s e.0 d e.1)

  module _ (m : Message) (at : (walking s).message m.name ≡ Ok m.place) where
    -- what is declared at a message is among its numbers, by the name by which it is found, where that is a path
    pub declared-number : all_ident (components m.name) ≡ true → (d : Declaration) → DeclaredAt s m d
        → Among (number m.name d) (every_number s)
    declared-number p d (as-field k) =
        field-number s m.name (holding s m.place) d (message-declared s m.name p (holding s m.place) (among-only m at)) k
    declared-number p d (as-extension k x) = extension-at m d k x

    name-path : (d : Declaration) → Among d (every_extension (tree_of s)) → extends s m.name d ≡ true
        → all_ident (components m.name) ≡ true
    name-path d k x =
        subst (λ t. all_ident (components t) ≡ true) (sym (same-sound m.name (text s d.extendee) x)) (extendee-path d k)

    by_name : (d e : Declaration) → DeclaredAt s m d → DeclaredAt s m e → d.shape.number ≡ e.shape.number
        → all_ident (components m.name) ≡ true → d ≡ e
    by_name d e k l q p = number-once s c m.name d e (declared-number p d k) (declared-number p e l) q

    once-at : (d e : Declaration) → DeclaredAt s m d → DeclaredAt s m e → d.shape.number ≡ e.shape.number → d ≡ e
    once-at d e (as-field k) (as-field l) q =
        let b = message-borne s (components m.name) (holding s m.place) (among-only m at) in
        number-once s c b.0 d e (field-number s b.0 (holding s m.place) d b.1 k)
        (field-number s b.0 (holding s m.place) e b.1 l) q
    once-at d e (as-field k) (as-extension l x) q = by_name d e (as-field k) (as-extension l x) q (name-path e l x)
    once-at d e (as-extension k x) l q = by_name d e (as-extension k x) l q (name-path d k x)

  -- ==== each number is declared once for a message
  pub clean-once : Once (walking s) s
  clean-once m at d e k l q = once-at m at d e k l q

  -- a message that is declared is found
  pub clean_found : (t : List ℕ) (x : Scope) → Among (named t (message x)) (every_declared s) → (walking s).message t ≡ Ok x.place
  clean_found t x k = ap looked_up (message-found s good (clean-name s c) t x k)

-- ---- two sheets, the older contained in the newer
module _ (s t : List ℕ) (good : judge_sheet s ≡ fine) (clear : clean s ≡ true) (good' : judge_sheet t ≡ fine) (clear' : clean t ≡ true)
    (within : contained s t ≡ true) where
  pub record One (m m' : Message) : Type 0 where
    pub name : m.name ≡ m'.name
    pub path : all_ident (components m.name) ≡ true
    pub found : (walking s).message m.name ≡ Ok m.place
    pub found' : (walking t).message m'.name ≡ Ok m'.place

  -- the number of the newer that is like one of the older
  record Alike (n : List ℕ) (d : Declaration) : Type 0 where
    one : Declaration
    among : Among (number n one) (every_number t)
    like : alike s t d one ≡ true

  alike_of : (n : List ℕ) (d : Declaration) (y : Number) → Among y (every_number t)
      → (same_bytes n y.for && alike s t d y.by) ≡ true → Alike n d
  alike_of n d y k p =
      let both = (and-eq-true_iff (same_bytes n y.for) (alike s t d y.by)).0 p in
      record {
        one = y.by;
        among = subst (λ x. Among (number x y.by) (every_number t)) (sym (same-sound n y.for both.0)) k;
        like = both.1;
      }

  kept-alike : (n : List ℕ) (d : Declaration) → Among (number n d) (every_number s) → Alike n d
  unfolding contained
  kept-alike n d k =
      let r = number_of s (number n d) (every_declared s) k in
      let b = r.by in
      let at = every-among (kept_at s t) r.among within in
      let all = ((and-eq-true_iff (kept_name t b.name b.what) _).0 at).1 in
      let kept = every-among (kept_number s t) r.own all in
      let y = any-passing (λ y. same_bytes n y.for && alike s t d y.by) (every_number t) kept in
      alike_of n d y.one y.among y.passes

  module _ (d e : Declaration) (like : alike s t d e ≡ true) where
    abbrev same_types : Bool
    same_types = eqb d.shape.number e.shape.number && eqb d.shape.typ e.shape.typ

    abbrev same_names : Bool
    same_names = same_types && same_bytes (text s d.name) (text t e.name)

    like-path : text s d.shape.path ≡ text t e.shape.path
    like-path = same-sound _ _ ((and-eq-true_iff same_names (same_bytes (text s d.shape.path) (text t e.shape.path))).0 like).1

    like-types : same_types ≡ true
    like-types =
        ((and-eq-true_iff same_types (same_bytes (text s d.name) (text t e.name))).0
        ((and-eq-true_iff same_names (same_bytes (text s d.shape.path) (text t e.shape.path))).0 like).0).0

    like-number : d.shape.number ≡ e.shape.number
    like-number =
        eqb-true d.shape.number e.shape.number
        ((and-eq-true_iff (eqb d.shape.number e.shape.number) (eqb d.shape.typ e.shape.typ)).0 like-types).0

    like-typ : d.shape.typ ≡ e.shape.typ
    like-typ =
        eqb-true d.shape.typ e.shape.typ
        ((and-eq-true_iff (eqb d.shape.number e.shape.number) (eqb d.shape.typ e.shape.typ)).0 like-types).1

  module _ (m m' : Message) (one : One m m') (n : ℕ) (d d' : Declaration) (q : declared s m n ≡ Some d) (q' : declared t m' n ≡ Some d') where
    older : Among (number m.name d) (every_number s)
    older = declared-number s good clear m one.found one.path d (declared-only s m n d q).0

    newer : Among (number m.name d') (every_number t)
    newer =
        subst (λ x. Among (number x d') (every_number t)) (sym one.name)
        (declared-number t good' clear' m' one.found' (subst (λ x. all_ident (components x) ≡ true) one.name one.path) d'
        (declared-only t m' n d' q').0)

    kept : Alike m.name d
    kept = kept-alike m.name d older

    -- what the newer declares there is that one
    same : kept.one ≡ d'
    same =
        number-once t clear' m.name kept.one d' kept.among newer
        (sym (like-number d kept.one kept.like) ∙ (declared-only s m n d q).1 ∙ sym (declared-only t m' n d' q').1)

    like : alike s t d d' ≡ true
    like = subst (λ x. alike s t d x ≡ true) same kept.like

    reaches : d'.shape.typ ≡ TYPE_MESSAGE → (p : LookupScope) → (walking t).message (path_of t d') ≡ Ok p
        → Names (walking s) s d (λ k. One k (reached_by t d' p))
    reaches h p f =
        let x = path-message s clear m.name d older (like-typ d d' like ∙ h) in
        record {
          place = x.scope.place;
          found = clean_found s good clear (text s d.shape.path) x.scope x.among;
          inside = record {
            name = like-path d d' like;
            path = names-path s good (named (text s d.shape.path) (message x.scope)) x.among;
            found = clean_found s good clear (text s d.shape.path) x.scope x.among;
            found' = f;
          };
        }

    keeps-one : Kept (walking s) s (walking t) t One d d'
    keeps-one = record { typ = like-typ d d' like; path = reaches }

  -- ==== the older keeps to the newer
  pub contained-keeps : Keeps (walking s) s (walking t) t One
  contained-keeps m m' one n d d' q q' = keeps-one m m' one n d d' q q'
