-- What a look-up by full name finds is declared under that name; and where no two share a full name, it finds no more than one.
--
--   Made f xs y <-> f makes y of one of xs
--       Led s c <-> names lead from a file to the scope c
--      Single s <-> no two of all that the sheet declares share a full name
--
-- Assumes nothing.
use Rattle.std.specs.Prelude.{◌≡◌, refl, Bool, true, ◌&&◌, List, [], ◌∷◌, ◌++◌, ℕ, ◌≤◌, Option, None, Some}
use Rattle.basis.specs.Kit.{sym, ap, ◌∙◌}
use Rattle.basis.proofs.Kit.{arith}
use mathlib.Core.Option as option
use lib.ListN.{get_elem?}
use mathlib.Core.Bool.{true≢false}
use mathlib.Core.List.{append_assoc}
use borrow.Author.Tests.{eqb-true}
use Rattle.basis.specs.First.{onto, collect}
use Rattle.basis.specs.Count.{count}
use Rattle.basis.proofs.CountLaws.{once-unique}
use Rattle.basis.specs.Among.{Among, here, there, Ordered, next}
use Rattle.basis.proofs.AmongLaws.{among-nil, among_one, among-append-cases, among-onto-first, among-onto, among-onto-cases, ordered-mono}
use Rattle.octets.proofs.SameBytes.{same_refl}
use Rattle.field.specs.Leaf.{text}
use Rattle.path.specs.Path.{Name, Path, components, spell, all_ident}
use Rattle.sheet.specs.Tree.{File, tree_of}
use Rattle.scope.specs.Scope.{Scope, file_scope}
use Rattle.scopes.specs.Scopes.{follow, scopes_in, scopes_from, scopes}
use Rattle.scopes.proofs.ScopeFiles.{only-some, comes, follows}
use Rattle.search.specs.Answers.{Gives, Earlier}
use Rattle.search.proofs.ScopeOrder.{from-ordered, earlier-apart, from_gives}
use Rattle.fullname.specs.FullName.{message_of}
use Rattle.names.specs.Names.{What, message, Named, file_front, declared_by, every_declared, any_kind, of_kind, bears}
use Rattle.names.specs.Clean.{clean_name}
use Rattle.finds.proofs.Spelling.{package-spell, full-spell, front_of}
use Rattle.finds.proofs.Reach.{named, Holds, holds-under, reach-under, reach-message}
use Rattle.finds.proofs.Follows.{follow-reach}
use Rattle.finds.proofs.Files.{Filed, stood, one-file}

-- ---- what is made of a list
pub record Made {A B : Type 0} (f : A → Option B) (xs : List A) (y : B) : Type 0 where
  pub of : A
  pub among : Among of xs
  pub makes : f of ≡ Some y

module _ {A B : Type 0} (f : A → Option B) where
  pub made : (xs : List A) (y : B) → Among y (collect f xs) → Made f xs y
  made [] y m = among-nil m
  made (x ∷ xs) y m = among-onto-cases (f x) now (λ j. later (made xs y j)) m
    where
      now : f x ≡ Some y → Made f (x ∷ xs) y
      now e = record { of = x; among = here; makes = e }

      later : Made f xs y → Made f (x ∷ xs) y
      later r = record { of = r.of; among = there r.among; makes = r.makes }

  pub collected : {x : A} {xs : List A} {y : B} → Among x xs → f x ≡ Some y → Among y (collect f xs)
  collected (here {xs}) e = among-onto-first (f _) (collect f xs) e
  collected (there {y} m) e = among-onto (f y) (collected m e)

  none_made : (xs : List A) → ((x : A) → Among x xs → (b : B) → f x ≡ Some b → ⊥) → collect f xs ≡ []
  none_made [] h = refl
  none_made (x ∷ xs) h = go (f x) refl (none_made xs λ y m. h y (there m))
    where
      go : (o : Option B) → f x ≡ o → collect f xs ≡ [] → onto o (collect f xs) ≡ []
      go None e q = q
      go (Some b) e q = absurd (h x here b e)

  -- where something is made of one alone
  pub one-made : {xs : List A} {y : B} → Ordered (λ u v. (a b : B) → f u ≡ Some a → f v ≡ Some b → ⊥) xs → Among y (collect f xs)
      → collect f xs ≡ y ∷ []
  one-made Ordered.none m = among-nil m
  one-made {y = y} (next {x} {xs} h o) m = go (f x) refl (one-made o) m
    where
      go : (r : Option B) → f x ≡ r → (Among y (collect f xs) → collect f xs ≡ y ∷ []) → Among y (onto r (collect f xs))
          → onto r (collect f xs) ≡ y ∷ []
      go None e k j = k j
      go (Some a) e k j =
          let q = none_made xs λ v l b. h v l a b e in
          let z : y ≡ a = among_one (rw q at j) in
          rw (q, z)

-- ---- the scopes at a path
pub message-some : (c d : Scope) → message_of c ≡ Some d → (c ≡ d) × (d.place.message ≡ true)
message-some c d e =
    let r = only-some c.place.message (Some c) d e in
    let q : c ≡ d = cc in
    (q, rw q at r.0)

module _ (s : List ℕ) where
  pub record Led (c : Scope) : Type 0 where
    pub k : ℕ
    pub file : File
    pub is : get_elem? (tree_of s) k ≡ option.some file
    pub names : Path
    pub leads : follow s names (file_scope k file) ≡ Some c

  in-led : (t : List ℕ) (ns : Path) (c : Scope) → Among c (scopes_in s t ns 0 (tree_of s)) → Led c
  in-led t ns c m =
      let r = comes s t ns 0 (tree_of s) c m in
      let q : r.k ≡ r.at = omega (arith, r.counted) in
      record {
        k = r.at;
        file = r.file;
        is = rw q at r.is;
        names = ns;
        leads = (follows s t ns r.at r.file c r.gives).1;
      }

  from-led : (q ns : Path) (c : Scope) → Among c (scopes_from s q ns) → Led c
  from-led q [] c m = in-led (spell q) [] c m
  from-led q (n ∷ ns) c m =
      among-append-cases (scopes_in s (spell q) (n ∷ ns) 0 (tree_of s)) (in-led (spell q) (n ∷ ns) c) (from-led (q ++ n ∷ []) ns c) m

  pub scopes-led : (p : Path) (c : Scope) → Among c (scopes s p) → Led c
  unfolding scopes
  scopes-led p c m = from-led [] p c m

  pub scopes-gives : (p : Path) → all_ident p ≡ true → (c : Scope) → Among c (scopes s p) → Gives s p c.place.file c
  unfolding scopes all_ident
  scopes-gives p h c m = from_gives s [] p refl h c m

  -- ---- what a file declares
  pub filed-declared : (k : ℕ) (f : File) → get_elem? (tree_of s) k ≡ option.some f → (b : Named) → Filed s k f b → Among b (every_declared s)
  unfolding every_declared
  filed-declared k f e b m = stood s 0 (tree_of s) b k k (omega arith) f e m

  module _ (k : ℕ) (f : File) (c : Scope) where
    pub filed-message : (ns : Path) → follow s ns (file_scope k f) ≡ Some c → c.place.message ≡ true
        → Filed s k f (named (file_front (text s f.package_name) ++ spell ns) (message c))
    filed-message [] e h = let q : file_scope k f ≡ c = cc in absurd (true≢false (sym h ∙ ap (λ (x : Scope). x.place.message) (sym q)))
    filed-message (n ∷ ns) e h = reach-message s (file_front (text s f.package_name)) n ns (follow-reach s (n ∷ ns) (file_scope k f) c e)

  module _ (p : Path) (i : ℕ) (c : Scope) (g : Gives s p i c) where
    abbrev pack : List ℕ
    pack = text s g.file.package_name

    pub gives-message : c.place.message ≡ true → Filed s i g.file (named (spell p) (message c))
    gives-message h = go g.rest g.leads (filed-message i g.file c g.rest g.follows h) g.follows
      where
        go : (ns : Path) → components pack ++ ns ≡ p → Filed s i g.file (named (file_front pack ++ spell ns) (message c))
            → follow s ns (file_scope i g.file) ≡ Some c → Filed s i g.file (named (spell p) (message c))
        go [] e m q = let z : file_scope i g.file ≡ c = cc in absurd (true≢false (sym h ∙ ap (λ (x : Scope). x.place.message) (sym z)))
        go (n ∷ ns) e m q = rw (← e, ← package-spell pack n ns) m

    pub gives-holds : (n : Name) (w : What) → Holds s c n w → Filed s i g.file (named (spell (p ++ n ∷ [])) w)
    gives-holds n w h =
        let f = file_front pack in
        let r = follow-reach s g.rest (file_scope i g.file) c g.follows in
        let m = reach-under s f r (named (front_of f g.rest ++ n) w) (holds-under s (front_of f g.rest) c n h) in
        let e : front_of f g.rest ++ n ≡ spell (p ++ n ∷ []) =
        full-spell pack g.rest n ∙ ap spell (sym (append_assoc (components pack) g.rest (n ∷ [])) ∙ ap (◌++ n ∷ []) g.leads) in
        rw e at m

  -- ---- no two share a full name
  abbrev pub Single : Type 0
  Single = (b : Named) → Among b (every_declared s) → clean_name s b ≡ true

  abbrev sharing : List ℕ → Named → Bool
  sharing t b = of_kind any_kind b && bears t b

  pub single-unique : Single → (a b : Named) → Among a (every_declared s) → Among b (every_declared s) → a.name ≡ b.name → a ≡ b
  single-unique h a b m j e =
      once-unique (sharing a.name) (h a m) m (same_refl a.name) j (rw e (same_refl b.name))

  -- ---- a look-up in the scopes at a path, where what it finds is declared
  module _ {W : Type 0} (q : Path) (idents : all_ident q ≡ true) (look : Scope → Option W) (t : List ℕ) (what : W → What)
      (sound : (c : Scope) (i : ℕ) (g : Gives s q i c) (w : W) → look c ≡ Some w → Filed s i g.file (named t (what w))) where
    pub scope-declared : (c : Scope) → Among c (scopes s q) → (w : W) → look c ≡ Some w → Among (named t (what w)) (every_declared s)
    scope-declared c m w e =
        let g = scopes-gives q idents c m in
        filed-declared c.place.file g.file g.is (named t (what w)) (sound c c.place.file g w e)

    pub look-declared : (w : W) → Among w (collect look (scopes s q)) → Among (named t (what w)) (every_declared s)
    look-declared w m = let r = made look (scopes s q) w m in scope-declared r.of r.among w r.makes

    apart : Single → (w : W) → Among w (collect look (scopes s q)) → (c d : Scope) → Among c (scopes s q) → Among d (scopes s q)
        → Earlier s c d → (a b : W) → look c ≡ Some a → look d ≡ Some b → ⊥
    unfolding every_declared
    apart h w m c d j k l a b x y =
        let g = scopes-gives q idents c j in
        let f = scopes-gives q idents d k in
        let few : count (sharing t) (declared_by s 0 (tree_of s)) ≤ 1 =
        omega (arith, eqb-true (count (sharing t) (declared_by s 0 (tree_of s))) 1 (h (named t (what w)) (look-declared w m))) in
        earlier-apart s c d l
        (one-file s (sharing t) 0 (tree_of s) few
        c.place.file c.place.file (omega arith) g.file g.is (named t (what a)) (sound c c.place.file g a x) (same_refl t)
        d.place.file d.place.file (omega arith) f.file f.is (named t (what b)) (sound d d.place.file f b y) (same_refl t))

    pub look_one : Single → (w : W) → Among w (collect look (scopes s q)) → collect look (scopes s q) ≡ w ∷ []
    unfolding scopes all_ident
    look_one h w m = one-made look (ordered-mono (apart h w m) (from-ordered s [] q refl idents)) m
