-- The look-ups in a scope against what the scope declares: what is found is declared there, and where no two that the scope declares, at
-- every depth, share a full name, what is declared is found.
--
--   Chosen s n name xs x <-> x is one of xs, and its name is n
--            Alone s f c <-> no two of all that the scope c declares at every depth share a full name, f standing before them
--
-- Assumes nothing.
use Rattle.std.specs.Prelude.{◌≡◌, refl, Bool, List, [], ◌∷◌, ◌++◌, ℕ, Option, None, Some}
use Rattle.basis.specs.Kit.{sym, ap, ◌∙◌}
use Rattle.basis.specs.First.{first}
use Rattle.basis.specs.Among.{Among}
use Rattle.basis.proofs.AmongLaws.{behind-among}
use Rattle.basis.proofs.AmongFirsts.{given-some, first-none, first-some}
use Rattle.octets.proofs.SameBytes.{same_refl, same-sound}
use Rattle.field.specs.declared.Span.{Span}
use Rattle.field.specs.Leaf.{text, is_text}
use Rattle.path.specs.Path.{Name, Path}
use Rattle.sheet.specs.declared.declaration.Declaration.{Declaration}
use Rattle.sheet.specs.Table.{extension_tag}
use Rattle.sheet.specs.Members.{Message, Enumeration, messages_of, enums_of, extensions_of}
use Rattle.scope.specs.Scope.{Scope, message_scope, down, enum_named, declaration_named}
use Rattle.scopes.specs.Scopes.{follow}
use Rattle.names.specs.Names.{What, message, enumeration, extension, Named, inside}
use Rattle.finds.proofs.Reach.{named, Holds, message-of, enum-of, extension-of, Reach, stays, enters}
use Rattle.finds.proofs.Reach.{Under, holds-under, inside_under}

-- ---- the first of a name
record Chosen {A : Type 0} (s : List ℕ) (n : Name) (name : A → Span) (xs : List A) (x : A) : Type 0 where
  among : Among x xs
  is : text s (name x) ≡ n

module _ {A : Type 0} (s : List ℕ) (n : Name) (name : A → Span) where
  abbrev good : A → Bool
  good x = is_text s n (name x)

  chosen : (xs : List A) (x : A) → first good xs ≡ Some x → Chosen s n name xs x
  chosen xs x e =
      let r = first-some good xs e in
      record { among = behind-among r.behind; is = sym (same-sound n (text s (name x)) r.passes) }

  -- where any of the name is this one, the first is
  the-first : (xs : List A) (x : A) → Among x xs → text s (name x) ≡ n → ((y : A) → Chosen s n name xs y → y ≡ x) → first good xs ≡ Some x
  the-first xs x m e h = go (first good xs) refl
    where
      go : (o : Option A) → first good xs ≡ o → first good xs ≡ Some x
      go None q = absurd (first-none good q m (rw e (same_refl n)))
      go (Some y) q = q ∙ ap Some (h y (chosen xs y q))

module _ (s : List ℕ) where
  -- ---- what is found is declared
  down_holds : (n : Name) (c d : Scope) → down s n c ≡ Some d → Holds s c n (message d)
  down_holds n c d e =
      let r = given-some (first (λ m. is_text s n m.name) (messages_of c.items)) (λ m. Some (message_scope c m)) d e in
      let q : message_scope c r.0 ≡ d = cc in
      let h = chosen s n (λ (m : Message). m.name) (messages_of c.items) r.0 r.1 in
      rw (← q) (message-of r.0 h.among h.is)

  pub enum_holds : (n : Name) (c : Scope) (x : Enumeration) → enum_named s n c ≡ Some x → Holds s c n (enumeration x)
  enum_holds n c x e = let h = chosen s n (λ (m : Enumeration). m.name) (enums_of c.items) x e in enum-of x h.among h.is

  pub extension-holds : (n : Name) (c : Scope) (d : Declaration) → declaration_named extension_tag s n c ≡ Some d → Holds s c n (extension d)
  extension-holds n c d e =
      let h = chosen s n (λ (m : Declaration). m.name) (extensions_of c.items) d e in
      extension-of d h.among h.is

  held-enters : {n : Name} {ns : Path} {c e : Scope} (d : Scope) → Holds s c n (message d) → Reach s ns d e → Reach s (n ∷ ns) c e
  held-enters d (message-of m k e) r = enters m k e r

  pub follow-reach : (ns : Path) (c d : Scope) → follow s ns c ≡ Some d → Reach s ns c d
  follow-reach [] c d e = let q : c ≡ d = cc in rw (← q) stays
  follow-reach (n ∷ ns) c d e =
      let r = given-some (down s n c) (follow s ns) d e in
      held-enters r.0 (down_holds n c r.0 r.1) (follow-reach ns r.0 d r.2)

  -- ---- what is declared is found
  abbrev pub Alone : (front : List ℕ) → Scope → Type 0
  Alone f c = (a b : Named) → Under s f c a → Under s f c b → a.name ≡ b.name → a ≡ b

  module _ (f : List ℕ) (c : Scope) (alone : Alone f c) (n : Name) where
    same-held : (v w : What) → Holds s c n v → Holds s c n w → v ≡ w
    same-held v w h k =
        ap (λ (b : Named). b.what) (alone (named (f ++ n) v) (named (f ++ n) w) (holds-under s f c n h) (holds-under s f c n k) refl)

    pub holds-message : (m : Message) → Among m (messages_of c.items) → text s m.name ≡ n → down s n c ≡ Some (message_scope c m)
    holds-message m k e = go (first good-message (messages_of c.items)) refl
      where
        good-message : Message → Bool
        good-message m = is_text s n m.name

        go : (o : Option Message) → first good-message (messages_of c.items) ≡ o → down s n c ≡ Some (message_scope c m)
        go None q = absurd (first-none good-message q k (rw e (same_refl n)))
        go (Some l) q =
            let h = chosen s n (λ (m : Message). m.name) (messages_of c.items) l q in
            let z = same-held (message (message_scope c l)) (message (message_scope c m))
            (message-of l h.among h.is) (message-of m k e) in
            let y : message_scope c l ≡ message_scope c m = cc in
            rw q (ap Some y)

    pub holds_enum : (x : Enumeration) → Among x (enums_of c.items) → text s x.name ≡ n → enum_named s n c ≡ Some x
    holds_enum x k e = the-first s n (λ (m : Enumeration). m.name) (enums_of c.items) x k e λ y h.
        let z = same-held (enumeration y) (enumeration x) (enum-of y h.among h.is) (enum-of x k e) in cc

    pub holds-extension : (d : Declaration) → Among d (extensions_of c.items) → text s d.name ≡ n
        → declaration_named extension_tag s n c ≡ Some d
    holds-extension d k e = the-first s n (λ (m : Declaration). m.name) (extensions_of c.items) d k e λ y h.
        let z = same-held (extension y) (extension d) (extension-of y h.among h.is) (extension-of d k e) in cc

  pub reach-follow : (f : List ℕ) {ns : Path} {c d : Scope} → Alone f c → Reach s ns c d → follow s ns c ≡ Some d
  reach-follow f alone stays = refl
  reach-follow f alone (enters {n} {ns} {c} m k e r) =
      let below : Alone (inside (f ++ n)) (message_scope c m) =
      λ a b i j. alone a b (inside_under s f c n m k e a i) (inside_under s f c n m k e b j) in
      rw (holds-message f c alone n m k e) (reach-follow (inside (f ++ n)) below r)
