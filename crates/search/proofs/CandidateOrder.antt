-- The candidates of a name get shorter, and those of a name and a scope of the right form are paths of identifiers, not empty.
-- Assumes nothing.
use Rattle.std.specs.Prelude.{◌≡◌, refl, Bool, true, false, List, [], ◌∷◌, ◌++◌, map, ℕ, ◌≤◌, ◌<◌, leb, length}
use Rattle.basis.proofs.Kit.{arith}
use mathlib.Core.Bool.{and-eq-true_iff}
use lib.ListN.{length-append}
use Rattle.limits.specs.Figures.{most_path}
use Rattle.path.specs.Path.{Name, Path, split, components, spell, all_ident, is_rel_or_empty, is_abs, rootless, is_path}
use Rattle.path.specs.Path.{parent}
use Rattle.candidates.specs.Candidates.{ancestors}
use Rattle.candidates.specs.Candidates.{candidates}
use Rattle.path.proofs.AbsLaws.{rootless-rel}
use Rattle.path.proofs.PathLaws.{spell-components, ident-some, ident-first, ident-rest, ident-cons}
use Rattle.path.proofs.PathLaws.{idents-append, rel-idents, path-idents}
use Rattle.basis.specs.Among.{Among, Ordered}
use Rattle.basis.proofs.AmongLaws.{among_one, among-append-cases, ordered-one, ordered-append, among-map, ordered-map}

abbrev Longer : Path → Path → Type 0
Longer p q = length q < length p

longer-last : (n : Name) (ps : List Path) (p q : Path) → Among p (map (n ∷◌) ps) → Among q ([] ∷ []) → Longer p q
longer-last n ps p q m k = rw (among_one k) (among-map (n ∷◌) (λ p. Longer p []) ps (λ r k. omega arith) p m)

ancestors-fall : (p : Path) → Ordered Longer (ancestors p)
unfolding ancestors
ancestors-fall [] = ordered-one []
ancestors-fall (n ∷ p) =
    ordered-append ([] ∷ [])
    (ordered-map (n ∷◌) (λ q r (h : Longer q r). omega arith) (ancestors-fall p))
    (ordered-one [])
    (longer-last n (ancestors p))

-- the one candidate of an absolute name, or those of a relative one
module _ (scope name : List ℕ) where
  abbrev full : Path
  full = components (rootless name)

  candidates-cases : (C : List Path → Type 0) → C (full ∷ []) → C (map (◌++ full) (ancestors (components scope)))
      → C (candidates scope name)
  unfolding candidates
  candidates-cases C a r = go (is_abs name) refl
    where
      go : (b : Bool) → is_abs name ≡ b
          → C (elim b [ true ↦ full ∷ [] | false ↦ map (◌++ components name) (ancestors (components scope)) ])
      go true e = a
      go false e = rw (rootless-rel name e) at r

  pub candidates-fall : Ordered Longer (candidates scope name)
  candidates-fall =
      candidates-cases (Ordered Longer)
      (ordered-one full)
      (ordered-map (◌++ full) (λ p q (h : Longer p q). simp length-append (omega arith)) (ancestors-fall (components scope)))

  candidates-length-le : (p : Path) → Among p (candidates scope name) → length full ≤ length p
  candidates-length-le =
      candidates-cases (λ ps. (p : Path) → Among p ps → length full ≤ length p)
      (λ p m. rw (among_one m) (omega arith))
      (among-map (◌++ full) (λ p. length full ≤ length p) (ancestors (components scope)) λ p m. simp length-append (omega arith))

-- the one piece of the empty text is no identifier
split-some : (t : List ℕ) → all_ident (split t) ≡ true → 0 < length t
unfolding split
split-some [] h = absurd (ident-some [] (ident-first [] [] h) refl)
split-some (c ∷ cs) h = omega arith

spelled-some : (p : Path) → 0 < length (spell p) → 0 < length p
unfolding spell
spelled-some [] h = h
spelled-some (n ∷ p) h = omega arith

-- a name of the right form has a component at least, and so has each candidate
pub candidates-some : (scope name : List ℕ) → is_path name ≡ true → (p : Path) → Among p (candidates scope name) → 0 < length p
unfolding is_path
candidates-some scope name h p m =
    let t = rootless name in
    let some : 0 < length t = split-some t ((and-eq-true_iff (leb (length name) most_path) (all_ident (split t))).0 h).1 in
    let whole : 0 < length (components t) = spelled-some (components t) (rw (spell-components t) some) in
    omega (arith, candidates-length-le scope name p m)

-- ---- identifiers
no-idents : all_ident [] ≡ true
unfolding all_ident
no-idents = refl

ancestors-idents : (p : Path) → all_ident p ≡ true → (q : Path) → Among q (ancestors p) → all_ident q ≡ true
unfolding ancestors
ancestors-idents [] h q m = rw (among_one m) h
ancestors-idents (n ∷ p) h q m =
    among-append-cases (map (n ∷◌) (ancestors p))
    (among-map (n ∷◌) (λ q. all_ident q ≡ true) (ancestors p)
    (λ r k. ident-cons n r (ident-first n p h) (ancestors-idents p (ident-rest n p h) r k))
    q)
    (λ (k : Among q ([] ∷ [])). rw (among_one k) no-idents)
    m

pub candidates-idents : (scope name : List ℕ) → is_rel_or_empty scope ≡ true → is_path name ≡ true
    → (p : Path) → Among p (candidates scope name) → all_ident p ≡ true
candidates-idents scope name h k =
    let full = components (rootless name) in
    let named : all_ident full ≡ true = path-idents name k in
    candidates-cases scope name (λ ps. (p : Path) → Among p ps → all_ident p ≡ true)
    (λ p m. rw (among_one m) named)
    (among-map (◌++ full) (λ p. all_ident p ≡ true) (ancestors (components scope))
    λ p m. idents-append p full (ancestors-idents (components scope) (rel-idents scope h) p m) named)

pub parent-idents : (p : Path) → all_ident p ≡ true → all_ident (parent p) ≡ true
unfolding parent
parent-idents [] h = h
parent-idents (n ∷ []) h = no-idents
parent-idents (n ∷ m ∷ p) h = ident-cons n (parent (m ∷ p)) (ident-first n (m ∷ p) h) (parent-idents (m ∷ p) (ident-rest n (m ∷ p) h))
