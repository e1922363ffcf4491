-- Paths and their texts, identifiers and parents: the laws that the crates above cite.
-- Assumes nothing.
use Rattle.std.specs.Prelude.{◌≡◌, refl, true, List, [], ◌∷◌, ◌++◌, ℕ, zero, suc, ◌+◌, ◌≤◌, ◌<◌, leb, length, get_or, take, drop}
use Rattle.basis.specs.Kit.{ap, ◌∙◌}
use Rattle.basis.proofs.Kit.{arith}
use mathlib.Core.Bool.{and-eq-true_iff}
use borrow.Author.Tests.{leb-true}
use lib.ListN.{length-append}
use Rattle.limits.specs.Figures.{most_path}
use Rattle.ident.specs.Ident.{is_ident}
use Rattle.path.specs.Path.{Name, Path, dot, split, components, spell, all_ident, is_rel_or_empty}
use Rattle.path.specs.inner.Places.{until_dot}
use Rattle.path.specs.Path.{rootless, is_path, parent, last}
pub use Rattle.ident.proofs.IdentLaws.{ident-some}
pub use Rattle.path.proofs.IdentLaws.{ident-dotless}
use Rattle.path.proofs.Pieces.{text, piece-length-le, piece-take, piece-dotless, piece-dot, piece-last, piece-more}
use Rattle.path.proofs.Pieces.{pieces-append, pieces-length-le, pieces-spell, pieces-dotless, Dotless, none, more}

-- ---- the pieces of a text
module _ (t : List ℕ) where
  pub until-length-le : length (until_dot t) ≤ length t
  until-length-le = piece-length-le (text t)

  pub until-take : take (length (until_dot t)) t ≡ until_dot t
  until-take = piece-take (text t)

  pub until-dotless : until_dot (until_dot t) ≡ until_dot t
  until-dotless = piece-dotless (text t)

  -- what follows the first piece, if anything does
  pub until-dot : length (until_dot t) < length t → get_or t (length (until_dot t)) 0 ≡ dot
  until-dot = piece-dot (text t)

  -- the text ends with its first piece
  pub split-last : length (until_dot t) ≡ length t → split t ≡ until_dot t ∷ []
  split-last = piece-last (text t)

  -- a dot follows the first piece
  pub split-more : length (until_dot t) < length t → split t ≡ until_dot t ∷ split (drop (suc (length (until_dot t))) t)
  split-more = piece-more (text t)

  -- what holds no dot is one piece
  pub split-dotless : until_dot t ≡ t → split t ≡ t ∷ []
  split-dotless e = split-last (ap length e) ∙ ap (λ (n : Name). n ∷ []) e

  pub split-append : (b : List ℕ) → split (t ++ dot ∷ b) ≡ split t ++ split b
  split-append = pieces-append (text t)

  pub spell-split : spell (split t) ≡ t
  spell-split = pieces-spell (text t)

-- ---- the components of a text
pub spell-components : (t : List ℕ) → spell (components t) ≡ t
unfolding components spell
spell-components [] = refl
spell-components (c ∷ cs) = spell-split (c ∷ cs)

pub components-nil : (t : List ℕ) → length t ≡ 0 → components t ≡ []
unfolding components
components-nil [] h = refl
components-nil (c ∷ cs) h = absurd (omega arith)

pub components-split : (t : List ℕ) → (length t ≡ 0 → ⊥) → components t ≡ split t
unfolding components
components-split [] h = absurd (h refl)
components-split (c ∷ cs) h = refl

pub components-length-le : (t : List ℕ) → length (components t) ≤ suc (length t)
unfolding components
components-length-le [] = omega arith
components-length-le (c ∷ cs) = pieces-length-le (text (c ∷ cs))

pub components-dotless : (t : List ℕ) → Dotless (components t)
unfolding components
components-dotless [] = none
components-dotless (c ∷ cs) = pieces-dotless (text (c ∷ cs))

-- a text up to its last dot, and what follows that
pub components-snoc : (a b : List ℕ) → until_dot b ≡ b → components (a ++ dot ∷ b) ≡ split a ++ (b ∷ [])
components-snoc a b h =
    components-split (a ++ dot ∷ b) (λ e. omega (arith, length-append a (dot ∷ b))) ∙ rw (split-append a b, split-dotless b h)

-- ---- the text of a path
spell-length-le : (n : Name) (p : Path) → length n ≤ length (spell (n ∷ p))
unfolding spell
spell-length-le n [] = omega arith
spell-length-le n (m ∷ p) = omega (arith, length-append n (dot ∷ spell (m ∷ p)))

pub spell-take-le : (k : ℕ) (p : Path) → length (spell (take k p)) ≤ length (spell p)
unfolding spell
spell-take-le zero p = omega arith
spell-take-le (suc k) [] = omega arith
spell-take-le (suc zero) (n ∷ p) = spell-length-le n p
spell-take-le (suc (suc k)) (n ∷ []) = omega arith
spell-take-le (suc (suc k)) (n ∷ m ∷ p) = simp length-append (omega (arith, spell-take-le (suc k) (m ∷ p)))

pub spell-append-le : (p q : Path) → length (spell (p ++ q)) ≤ length (spell p) + suc (length (spell q))
unfolding spell
spell-append-le [] q = omega arith
spell-append-le (n ∷ []) [] = omega arith
spell-append-le (n ∷ []) (m ∷ q) = simp length-append (omega arith)
spell-append-le (n ∷ m ∷ p) q = simp length-append (omega (arith, spell-append-le (m ∷ p) q))

pub split-spell : (n : Name) (p : Path) → Dotless (n ∷ p) → split (spell (n ∷ p)) ≡ n ∷ p
unfolding spell
split-spell n [] (more e d) = split-dotless n e
split-spell n (m ∷ p) (more e d) = split-append n (spell (m ∷ p)) ∙ rw (split-dotless n e, split-spell m p d)

pub dotless-take : (k : ℕ) (p : Path) → Dotless p → Dotless (take k p)
dotless-take zero p d = none
dotless-take (suc k) [] none = none
dotless-take (suc k) (n ∷ p) (more e d) = more e (dotless-take k p d)

-- ---- paths of identifiers
pub ident-first : (n : Name) (p : Path) → all_ident (n ∷ p) ≡ true → is_ident n ≡ true
unfolding all_ident
ident-first n p h = ((and-eq-true_iff (is_ident n) (all_ident p)).0 h).0

pub ident-rest : (n : Name) (p : Path) → all_ident (n ∷ p) ≡ true → all_ident p ≡ true
unfolding all_ident
ident-rest n p h = ((and-eq-true_iff (is_ident n) (all_ident p)).0 h).1

pub ident-cons : (n : Name) (p : Path) → is_ident n ≡ true → all_ident p ≡ true → all_ident (n ∷ p) ≡ true
unfolding all_ident
ident-cons n p h k = (and-eq-true_iff (is_ident n) (all_ident p)).1 (h, k)

pub idents-append : (p q : Path) → all_ident p ≡ true → all_ident q ≡ true → all_ident (p ++ q) ≡ true
idents-append [] q h k = k
idents-append (n ∷ p) q h k = ident-cons n (p ++ q) (ident-first n p h) (idents-append p q (ident-rest n p h) k)

pub idents-take : (k : ℕ) (p : Path) → all_ident p ≡ true → all_ident (take k p) ≡ true
unfolding all_ident
idents-take zero p h = refl
idents-take (suc k) [] h = refl
idents-take (suc k) (n ∷ p) h = ident-cons n (take k p) (ident-first n p h) (idents-take k p (ident-rest n p h))

pub idents-dotless : (p : Path) → all_ident p ≡ true → Dotless p
idents-dotless [] h = none
idents-dotless (n ∷ p) h = more (ident-dotless n (ident-first n p h)) (idents-dotless p (ident-rest n p h))

-- a path of identifiers is read back from its text
pub components-spell : (p : Path) → all_ident p ≡ true → components (spell p) ≡ p
unfolding components spell
components-spell [] h = refl
components-spell (n ∷ p) h =
    let some : length (spell (n ∷ p)) ≡ 0 → ⊥ = λ e. ident-some n (ident-first n p h) (omega (arith, spell-length-le n p)) in
    components-split (spell (n ∷ p)) some ∙ split-spell n p (idents-dotless (n ∷ p) h)

pub rel-idents : (t : List ℕ) → is_rel_or_empty t ≡ true → all_ident (components t) ≡ true
unfolding is_rel_or_empty
rel-idents t h = ((and-eq-true_iff (leb (length t) most_path) (all_ident (components t))).0 h).1

pub rel-length-le : (t : List ℕ) → is_rel_or_empty t ≡ true → length t ≤ most_path
unfolding is_rel_or_empty
rel-length-le t h = leb-true (length t) most_path ((and-eq-true_iff (leb (length t) most_path) (all_ident (components t))).0 h).0

-- the empty text has no component, and one piece
idents-components : (t : List ℕ) → all_ident (split t) ≡ true → all_ident (components t) ≡ true
unfolding components all_ident
idents-components [] h = refl
idents-components (c ∷ cs) h = h

pub path-idents : (t : List ℕ) → is_path t ≡ true → all_ident (components (rootless t)) ≡ true
unfolding is_path
path-idents t h =
    idents-components (rootless t) ((and-eq-true_iff (leb (length t) most_path) (all_ident (split (rootless t)))).0 h).1

pub path-length-le : (t : List ℕ) → is_path t ≡ true → length t ≤ most_path
unfolding is_path
path-length-le t h = leb-true (length t) most_path ((and-eq-true_iff (leb (length t) most_path) (all_ident (split (rootless t)))).0 h).0

-- the text of one path followed by another
pub components-joined : (a b : List ℕ) → is_rel_or_empty a ≡ true → is_rel_or_empty b ≡ true
    → components (spell (components a ++ components b)) ≡ components a ++ components b
components-joined a b h k =
    components-spell (components a ++ components b) (idents-append (components a) (components b) (rel-idents a h) (rel-idents b k))

-- ---- parents
pub parent-snoc : (p : Path) (n : Name) → parent (p ++ (n ∷ [])) ≡ p
unfolding parent
parent-snoc [] n = refl
parent-snoc (m ∷ []) n = refl
parent-snoc (m ∷ l ∷ p) n = ap (λ (q : Path). m ∷ q) (parent-snoc (l ∷ p) n)

pub parent-take : (k : ℕ) (p : Path) → k < length p → parent (take (suc k) p) ≡ take k p
unfolding parent
parent-take k [] h = absurd (omega arith)
parent-take zero (n ∷ p) h = refl
parent-take (suc k) (n ∷ []) h = absurd (omega arith)
parent-take (suc k) (n ∷ m ∷ p) h = ap (λ (q : Path). n ∷ q) (parent-take k (m ∷ p) (omega arith))

-- the path of one empty name has the text of the empty path, and the same parent
pub parent-spell : (p : Path) → Dotless p → parent (components (spell p)) ≡ parent p
unfolding parent components spell
parent-spell [] d = refl
parent-spell ([] ∷ []) d = refl
parent-spell ((c ∷ n) ∷ []) d = ap parent (split-spell (c ∷ n) [] d)
parent-spell ([] ∷ m ∷ p) d = ap parent (split-spell [] (m ∷ p) d)
parent-spell ((c ∷ n) ∷ m ∷ p) d = ap parent (split-spell (c ∷ n) (m ∷ p) d)

-- what holds no dot has no parent
pub parent-dotless : (t : List ℕ) → until_dot t ≡ t → parent (components t) ≡ []
unfolding components parent
parent-dotless [] h = refl
parent-dotless (c ∷ cs) h = rw (split-dotless (c ∷ cs) h)

-- ---- the last name
pub last-append : (p : Path) (n : Name) → last (p ++ (n ∷ [])) ≡ n
unfolding last
last-append [] n = refl
last-append (m ∷ []) n = refl
last-append (m ∷ l ∷ p) n = last-append (l ∷ p) n

-- what holds no dot is one name
pub last-dotless : (t : List ℕ) → until_dot t ≡ t → last (components t) ≡ t
unfolding components last
last-dotless [] h = refl
last-dotless (c ∷ cs) h = rw (split-dotless (c ∷ cs) h)

-- a path that is not empty is its parent and its last name
pub parent-last : (n : Name) (p : Path) → parent (n ∷ p) ++ (last (n ∷ p) ∷ []) ≡ n ∷ p
unfolding parent last
parent-last n [] = refl
parent-last n (m ∷ p) = ap (λ (q : Path). n ∷ q) (parent-last m p)
