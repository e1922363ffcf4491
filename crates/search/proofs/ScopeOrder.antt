-- The scopes at a path, package by package: the order they stand in, and the files that give them.
-- Assumes nothing.
use Rattle.std.specs.Prelude.{◌≡◌, refl, true, List, [], ◌∷◌, ◌++◌, map, ℕ, zero, suc, ◌≤◌, ◌<◌, length, get_or}
use Rattle.basis.specs.Kit.{sym, ap, ◌∙◌}
use Rattle.basis.proofs.Kit.{arith}
use mathlib.Core.Path.{subst}
use mathlib.Core.List.{append-nil, append_assoc}
use lib.ListN.{get_elem?, length-append}
use mathlib.Core.Option as option
use Rattle.basis.proofs.Never.{never}
use Rattle.field.specs.Leaf.{text}
use Rattle.path.specs.Path.{Name, Path, components, spell, all_ident}
use Rattle.path.proofs.PathLaws.{ident-first, ident-rest, ident-cons, idents-append}
use Rattle.sheet.specs.Tree.{File, tree_of}
use Rattle.scope.specs.Scope.{Scope}
use Rattle.scopes.specs.Scopes.{scopes_in, scopes_from}
use Rattle.basis.specs.Among.{Among, Ordered}
use Rattle.search.specs.Answers.{Gives, package_of, Earlier, fewer, sooner}
use Rattle.basis.proofs.AmongLaws.{among-append-left, among-append-right, among-append-cases, ordered-append, ordered-mono}
use Rattle.scopes.proofs.ScopeFiles.{same-components, components-same, Comes, comes, goes, follows, index, files-rise}

get_or-map-some : {A B : Type 0} (g : A → B) (xs : List A) (k : ℕ) (x : A) (d : B) → get_elem? xs k ≡ option.some x → get_or (map g xs) k d ≡ g x
get_or-map-some g [] k x d e = never cc
get_or-map-some g (y ∷ xs) zero x d e = let q : y ≡ x = cc in ap g q
get_or-map-some g (y ∷ xs) (suc k) x d e = get_or-map-some g xs k x d e

-- one name more of a path of identifiers
ident-snoc : (p : Path) (n : Name) (ns : Path) → all_ident p ≡ true → all_ident (n ∷ ns) ≡ true → all_ident (p ++ n ∷ []) ≡ true
unfolding all_ident
ident-snoc p n ns h k = idents-append p (n ∷ []) h (ident-cons n [] (ident-first n ns k) refl)

module _ (s : List ℕ) where
  abbrev package-at : File → Path
  package-at f = components (text s f.package_name)

  abbrev level : Path → Path → List Scope
  level q ns = scopes_in s (spell q) ns 0 (tree_of s)

  -- ---- the scopes of one package
  module _ (q ns : Path) (h : all_ident q ≡ true) (c : Scope) (r : Comes s (spell q) ns 0 (tree_of s) c) where
    package-file : package-at r.file ≡ q
    package-file =
        same-components (text s r.file.package_name) q h (follows s (spell q) ns r.at r.file c r.gives).0

    package-comes : package_of s c ≡ q
    package-comes =
        let n : c.place.file ≡ r.k = omega (arith, index s (spell q) ns r.at r.file c r.gives) in
        ap (λ (k : ℕ). get_or (map package-at (tree_of s)) k []) n
        ∙ get_or-map-some package-at (tree_of s) r.k r.file [] r.is
        ∙ package-file

    comes-gives : Gives s (q ++ ns) c.place.file c
    comes-gives =
        let at : r.k ≡ r.at = omega arith in
        subst (λ i. Gives s (q ++ ns) i c) (sym (index s (spell q) ns r.at r.file c r.gives)) (record {
          file = r.file;
          is = rw (← at) r.is;
          rest = ns;
          leads = ap (◌++ ns) package-file;
          follows = (follows s (spell q) ns r.at r.file c r.gives).1;
        })

  module _ (q ns : Path) (h : all_ident q ≡ true) where
    package-is : (c : Scope) → Among c (level q ns) → package_of s c ≡ q
    package-is c m = package-comes q ns h c (comes s (spell q) ns 0 (tree_of s) c m)

    level-gives : (c : Scope) → Among c (level q ns) → Gives s (q ++ ns) c.place.file c
    level-gives c m = comes-gives q ns h c (comes s (spell q) ns 0 (tree_of s) c m)

    level-ordered : Ordered (Earlier s) (level q ns)
    level-ordered = ordered-mono earlier (files-rise s (spell q) ns 0 (tree_of s))
      where
        earlier : (c d : Scope) → Among c (level q ns) → Among d (level q ns) → c.place.file < d.place.file → Earlier s c d
        earlier c d m k l = sooner (ap length (package-is c m ∙ sym (package-is d k))) l

  -- ---- the order of all
  package-wide : (q ns : Path) → all_ident q ≡ true → all_ident ns ≡ true → (c : Scope) → Among c (scopes_from s q ns)
      → length q ≤ length (package_of s c)
  package-wide q [] h k c m = omega (arith, ap length (package-is q [] h c m))
  package-wide q (n ∷ ns) h k c m =
      among-append-cases (level q (n ∷ ns))
      (λ j. omega (arith, ap length (package-is q (n ∷ ns) h c j)))
      (λ j. omega (arith, length-append q (n ∷ []), package-wide (q ++ n ∷ []) ns (ident-snoc q n ns h k) (ident-rest n ns k) c j))
      m

  pub from-ordered : (q ns : Path) → all_ident q ≡ true → all_ident ns ≡ true → Ordered (Earlier s) (scopes_from s q ns)
  from-ordered q [] h k = level-ordered q [] h
  from-ordered q (n ∷ ns) h k =
      ordered-append (scopes_from s (q ++ n ∷ []) ns)
      (level-ordered q (n ∷ ns) h)
      (from-ordered (q ++ n ∷ []) ns (ident-snoc q n ns h k) (ident-rest n ns k))
      earlier
    where
      earlier : (c d : Scope) → Among c (level q (n ∷ ns)) → Among d (scopes_from s (q ++ n ∷ []) ns) → Earlier s c d
      earlier c d l m =
          let wide = package-wide (q ++ n ∷ []) ns (ident-snoc q n ns h k) (ident-rest n ns k) d m in
          fewer (omega (arith, wide, ap length (package-is q (n ∷ ns) h c l), length-append q (n ∷ [])))

  pub earlier-apart : (c d : Scope) → Earlier s c d → c.place.file ≡ d.place.file → ⊥
  earlier-apart c d (fewer h) e = omega (arith, ap (λ (k : ℕ). length (get_or (map package-at (tree_of s)) k [])) e)
  earlier-apart c d (sooner h k) e = omega arith

  -- ---- the file that gives a scope, and the scope that a file gives
  pub from_gives : (q ns : Path) → all_ident q ≡ true → all_ident ns ≡ true → (c : Scope) → Among c (scopes_from s q ns)
      → Gives s (q ++ ns) c.place.file c
  from_gives q [] h k c m = level-gives q [] h c m
  from_gives q (n ∷ ns) h k c m =
      among-append-cases (level q (n ∷ ns))
      (level-gives q (n ∷ ns) h c)
      (λ j. rw (append_assoc q (n ∷ []) ns) at (from_gives (q ++ n ∷ []) ns (ident-snoc q n ns h k) (ident-rest n ns k) c j))
      m

  from-level : (p q ns : Path) (c : Scope) → Among c (level (p ++ q) ns) → Among c (scopes_from s p (q ++ ns))
  from-level p [] [] c m = rw (append-nil p) at m
  from-level p [] (n ∷ ns) c m = among-append-left (scopes_from s (p ++ n ∷ []) ns) (rw (append-nil p) at m)
  from-level p (n ∷ q) ns c m =
      among-append-right (level p (n ∷ q ++ ns)) (from-level (p ++ n ∷ []) q ns c (rw (append_assoc p (n ∷ []) q) m))

  gives-comes : (p : Path) (i : ℕ) (c : Scope) (g : Gives s p i c) → Comes s (spell (package-at g.file)) g.rest 0 (tree_of s) c
  gives-comes p i c g = record {
    k = i;
    at = i;
    counted = omega arith;
    file = g.file;
    is = g.is;
    gives = rw (components-same (text s g.file.package_name) (package-at g.file) refl) g.follows;
  }

  pub gives-from : (p : Path) (i : ℕ) (c : Scope) → Gives s p i c → Among c (scopes_from s [] p)
  gives-from p i c g =
      let q = package-at g.file in
      rw (← g.leads) (from-level [] q g.rest c (goes s (spell q) g.rest 0 (tree_of s) c (gives-comes p i c g)))
