-- In a sheet that is fine, and in which no two share a full name, a full name is found exactly if it is declared, and then it is that
-- declaration. The statements stand at the end.
-- Assumes nothing.
use Rattle.std.specs.Prelude.{◌≡◌, refl, true, List, [], ◌∷◌, ◌++◌, ℕ, Option, None, Some}
use Rattle.basis.specs.Kit.{sym, ap, ◌∙◌}
use Rattle.basis.proofs.Never.{never}
use Rattle.basis.specs.First.{first_some, collect}
use Rattle.basis.specs.Among.{Among}
use Rattle.basis.proofs.AmongLaws.{among-nil, behind-among}
use Rattle.basis.proofs.AmongFirsts.{given-some, firsts-none, firsts-some}
use Rattle.field.specs.Leaf.{text}
use Rattle.path.specs.Path.{Name, Path, components, spell, all_ident, parent, last}
use Rattle.path.proofs.PathLaws.{spell-components, parent-snoc, last-append, parent-last}
use Rattle.sheet.specs.declared.declaration.Declaration.{Declaration}
use Rattle.sheet.specs.Table.{extension_tag}
use Rattle.sheet.specs.Tree.{tree_of}
use Rattle.sheet.specs.Members.{Enumeration, every_extension}
use Rattle.scope.specs.Scope.{Scope, enum_named, declaration_named}
use Rattle.scopes.specs.Scopes.{scopes}
use Rattle.search.specs.declared.extension.Found.{Found}
use Rattle.search.specs.Answers.{Gives}
use Rattle.search.specs.Lookup.{found_in, found_at}
use Rattle.fullname.specs.FullName.{message_of, messages_at, enums_at}
use Rattle.sheetform.specs.Form.{judge_sheet}
use Rattle.names.specs.Names.{message, enumeration, extension, Named, file_front, every_declared}
use Rattle.names.specs.Clean.{clean_name}
use Rattle.finds.proofs.Spelling.{parent-idents}
use Rattle.finds.proofs.Reach.{named, Holds, enum-of, extension-of}
use Rattle.finds.proofs.Follows.{Alone, enum_holds, extension-holds, holds_enum, holds-extension}
use Rattle.finds.proofs.Files.{Filed}
use Rattle.finds.proofs.Declared.{made, collected, message-some, scopes-led, filed-declared, filed-message, gives-message}
use Rattle.finds.proofs.Declared.{gives-holds, scope-declared, look-declared, look_one, single-unique}
use Rattle.finds.proofs.Located.{located, before, holder-alone, path-before, holder-at, message-at}
use Rattle.finds.proofs.Extensions.{extension_borne, extension-borne, extensions-by}
use Rattle.reply.specs.Verdicts.{fine}

module _ (s : List ℕ) where
  -- ---- messages
  message-sound : (p : Path) (c : Scope) (i : ℕ) (g : Gives s p i c) (d : Scope) → message_of c ≡ Some d
      → Filed s i g.file (named (spell p) (message d))
  message-sound p c i g d e =
      let r = message-some c d e in
      let h : c.place.message ≡ true = rw r.0 r.1 in
      rw r.0 at (gives-message s p i c g h)

  message-path : (p : Path) → all_ident p ≡ true → (c : Scope) → Among c (messages_at s p)
      → Among (named (spell p) (message c)) (every_declared s)
  unfolding messages_at
  message-path p h c m = look-declared s p h message_of (spell p) message (message-sound p) c m

  message-of-made : (c : Scope) → c.place.message ≡ true → message_of c ≡ Some c
  message-of-made c h = rw h

  -- ---- enums
  enum-sound : (q : Path) (n : Name) (c : Scope) (i : ℕ) (g : Gives s q i c) (x : Enumeration) → enum_named s n c ≡ Some x
      → Filed s i g.file (named (spell (q ++ n ∷ [])) (enumeration x))
  enum-sound q n c i g x e = gives-holds s q i c g n (enumeration x) (enum_holds s n c x e)

  enums-snoc : (q : Path) (n : Name) → enums_at s (q ++ n ∷ []) ≡ collect (enum_named s n) (scopes s q)
  unfolding enums_at last parent
  enums-snoc [] n = refl
  enums-snoc (m ∷ q) n = rw (last-append (m ∷ q) n, parent-snoc (m ∷ q) n)

  enum-path : (p : Path) → all_ident p ≡ true → (x : Enumeration) → Among x (enums_at s p)
      → Among (named (spell p) (enumeration x)) (every_declared s)
  unfolding enums_at
  enum-path [] h x m = among-nil m
  enum-path (n ∷ ns) h x m =
      let q = parent (n ∷ ns) in
      let l = last (n ∷ ns) in
      rw (parent-last n ns) at
      (look-declared s q (parent-idents n ns h) (enum_named s l) (spell (q ++ l ∷ [])) enumeration (enum-sound q l) x m)

  enum-held : (f : List ℕ) (c : Scope) → Alone s f c → (n : Name) (x : Enumeration) → Holds s c n (enumeration x) → enum_named s n c ≡ Some x
  enum-held f c alone n x (enum-of _ k q) = holds_enum s f c alone n x k q

  -- ---- extensions
  extension-in-scope : (n : Name) (c : Scope) (f : Found) → found_in s n c ≡ Some f
      → declaration_named extension_tag s n c ≡ Some f.declaration
  extension-in-scope n c f e =
      let r = given-some (declaration_named extension_tag s n c) (λ d. Some (record { file = c.place.file; declaration = d })) f e in
      let q : ◌≡◌ {A = Found} (record { file = c.place.file; declaration = r.0 }) f = cc in
      r.1 ∙ ap (λ (x : Found). Some x.declaration) q

  extension-sound : (q : Path) (n : Name) (c : Scope) (i : ℕ) (g : Gives s q i c) (f : Found) → found_in s n c ≡ Some f
      → Filed s i g.file (named (spell (q ++ n ∷ [])) (extension f.declaration))
  extension-sound q n c i g f e =
      gives-holds s q i c g n (extension f.declaration) (extension-holds s n c f.declaration (extension-in-scope n c f e))

  found-snoc : (q : Path) (n : Name) → found_at s (q ++ n ∷ []) ≡ first_some (found_in s n) (scopes s q)
  unfolding found_at last parent
  found-snoc [] n = refl
  found-snoc (m ∷ q) n = rw (last-append (m ∷ q) n, parent-snoc (m ∷ q) n)

  extension-path : (p : Path) → all_ident p ≡ true → (f : Found) → found_at s p ≡ Some f
      → Among (named (spell p) (extension f.declaration)) (every_declared s)
  unfolding found_at
  extension-path [] h f e = never cc
  extension-path (n ∷ ns) h f e =
      let q = parent (n ∷ ns) in
      let l = last (n ∷ ns) in
      let r = firsts-some (found_in s l) (scopes s q) e in
      rw (parent-last n ns) at
      (scope-declared s q (parent-idents n ns h) (found_in s l) (spell (q ++ l ∷ [])) (λ f. extension f.declaration) (extension-sound q l)
      r.of (behind-among r.behind) f r.makes)

  extension-held : (f : List ℕ) (c : Scope) → Alone s f c → (n : Name) (d : Declaration) → Holds s c n (extension d)
      → declaration_named extension_tag s n c ≡ Some d
  extension-held f c alone n d (extension-of _ k q) = holds-extension s f c alone n d k q

  -- ==== the statements
  -- A message that is found at a path is declared.
  pub message-borne : (p : Path) (c : Scope) → Among c (messages_at s p) → (t : List ℕ) × Among (named t (message c)) (every_declared s)
  unfolding messages_at
  message-borne p c m =
      let r = made message_of (scopes s p) c m in
      let e = message-some r.of c r.makes in
      let l = scopes-led s p c (rw e.0 at r.among) in
      let t = file_front (text s l.file.package_name) ++ spell l.names in
      (t, filed-declared s l.k l.file l.is (named t (message c)) (filed-message s l.k l.file c l.names l.leads e.1))

  -- A message that is found under a full name is declared under it.
  pub message-declared : (t : List ℕ) → all_ident (components t) ≡ true → (c : Scope) → Among c (messages_at s (components t))
      → Among (named t (message c)) (every_declared s)
  message-declared t h c m = rw (spell-components t) at (message-path (components t) h c m)

  -- An enum that is found under a full name is declared under it.
  pub enum-declared : (t : List ℕ) → all_ident (components t) ≡ true → (e : Enumeration) → Among e (enums_at s (components t))
      → Among (named t (enumeration e)) (every_declared s)
  enum-declared t h e m = rw (spell-components t) at (enum-path (components t) h e m)

  -- An extension that is found under a full name is declared under it.
  pub extension-declared : (t : List ℕ) → all_ident (components t) ≡ true → (f : Found) → found_at s (components t) ≡ Some f
      → Among (named t (extension f.declaration)) (every_declared s)
  extension-declared t h f e = rw (spell-components t) at (extension-path (components t) h f e)

  -- The extensions of the tree are those that the sheet declares, in the same order.
  pub extensions-named : every_extension (tree_of s) ≡ collect extension_borne (every_declared s)
  unfolding every_declared
  extensions-named = extensions-by s 0 (tree_of s)

  -- Every extension of the tree is declared under a full name.
  pub extension-named : (d : Declaration) → Among d (every_extension (tree_of s))
      → (t : List ℕ) × Among (named t (extension d)) (every_declared s)
  extension-named d m =
      let r = made extension_borne (every_declared s) d (rw extensions-named at m) in
      let e : r.of ≡ named r.of.name (extension d) = ap (named r.of.name) (extension-borne r.of.what d r.makes) in
      (r.of.name, rw e at r.among)

  -- Every extension that is declared is one of the tree.
  pub named-extension : (t : List ℕ) (d : Declaration) → Among (named t (extension d)) (every_declared s)
      → Among d (every_extension (tree_of s))
  named-extension t d m = rw extensions-named (collected extension_borne m refl)

  module _ (fine : judge_sheet s ≡ fine) where
    -- Every full name of a fine sheet is a path of identifiers.
    pub names-path : (b : Named) → Among b (every_declared s) → all_ident (components b.name) ≡ true
    names-path b m = (located s fine b m).idents

    module _ (single : (b : Named) → Among b (every_declared s) → clean_name s b ≡ true) where
      -- A message that is declared under a full name is found under it, and nothing else is.
      pub message-found : (t : List ℕ) (c : Scope) → Among (named t (message c)) (every_declared s) → messages_at s (components t) ≡ c ∷ []
      unfolding messages_at
      message-found t c m =
          let r = located s fine (named t (message c)) m in
          let k = message-at s fine single (named t (message c)) r c refl in
          let p = components t in
          look_one s p r.idents message_of (spell p) message (message-sound p) single c
          (collected message_of k.0 (message-of-made c k.1))

      -- An enum that is declared under a full name is found under it, and nothing else is.
      pub enum-found : (t : List ℕ) (e : Enumeration) → Among (named t (enumeration e)) (every_declared s)
          → enums_at s (components t) ≡ e ∷ []
      enum-found t e m =
          let b = named t (enumeration e) in
          let r = located s fine b m in
          let q = before s fine single b r in
          let n = r.place.own in
          let z = path-before s fine single b r in
          let k = enum-held _ r.place.holder (holder-alone s fine single b r) n e r.place.holds in
          rw (z, enums-snoc q n)
          (look_one s q r.before-idents (enum_named s n) (spell (q ++ n ∷ [])) enumeration (enum-sound q n) single e
          (collected (enum_named s n) (holder-at s fine single b r) k))

      -- An extension that is declared under a full name is the one that is found under it.
      pub extension-found : (t : List ℕ) (d : Declaration) → Among (named t (extension d)) (every_declared s)
          → (f : Found) × (found_at s (components t) ≡ Some f) × (f.declaration ≡ d)
      extension-found t d m = go (found_at s (components t)) refl
        where
          b : Named
          b = named t (extension d)

          go : (o : Option Found) → found_at s (components t) ≡ o → (f : Found) × (found_at s (components t) ≡ Some f) × (f.declaration ≡ d)
          go None e =
              let r = located s fine b m in
              let q = before s fine single b r in
              let n = r.place.own in
              let k = extension-held _ r.place.holder (holder-alone s fine single b r) n d r.place.holds in
              let x = firsts-none (found_in s n) (sym (found-snoc q n) ∙ ap (found_at s) (sym (path-before s fine single b r)) ∙ e)
              (holder-at s fine single b r) in
              let y : found_in s n r.place.holder ≡ Some (record { file = r.place.holder.place.file; declaration = d }) = rw k in
              never cc
          go (Some f) e =
              let j = extension-declared t (names-path b m) f e in
              let x = ap (λ (x : Named). x.what) (single-unique s single (named t (extension f.declaration)) b j m refl) in
              let y : f.declaration ≡ d = cc in
              (f, e, y)
