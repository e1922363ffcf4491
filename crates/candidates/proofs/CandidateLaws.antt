-- The laws of ancestors and candidates: the ways through `ancestor`, `candidates` and `candidate`, and what the crates above cite.
-- Assumes nothing.
use Rattle.std.specs.Prelude.{◌≡◌, refl, Bool, true, false, List, [], ◌∷◌, ◌++◌, map, ℕ, zero, suc, ◌+◌, ◌-◌, ◌*◌, ◌^◌, ◌≤◌, ◌<◌, length, get_or, take}
use Rattle.basis.specs.Kit.{sym, ap, ◌∙◌}
use Rattle.basis.proofs.Kit.{arith, add-one, w64, Fits}
use native.Mathlib.Decide.{dec_lt}
use lib.ListN.{length-append, length-map, length-take, get_or-append}
use lib.Seq.{get_or_at, take-length}
use Rattle.limits.specs.Figures.{most_path, most_candidate}
use Rattle.octets.specs.inner.Laid.{Laid}
use Rattle.path.specs.Path.{Name, Path, split, components, spell, all_ident, is_rel_or_empty, is_abs, rootless, is_path, parent}
use Rattle.path.proofs.AbsLaws.{rootless-rel, rootless-length-le}
use Rattle.path.proofs.PathLaws.{spell-components, components-length-le, spell-take-le, split-spell, parent-spell, parent-take}
use Rattle.path.proofs.PathLaws.{spell-append-le, components-dotless, dotless-take, components-spell}
use Rattle.path.proofs.PathLaws.{idents-append, idents-take, rel-idents, rel-length-le, path-idents, path-length-le}
use Rattle.path.proofs.Pieces.{Dotless}
use Rattle.path.proofs.JoinLaws.{alone-fits}
use Rattle.path.proofs.Scans.{front_length}
use Rattle.candidates.specs.Candidates.{ancestors, candidates, candidate}

-- ---- ancestors
pub ancestors-length : (p : Path) → length (ancestors p) ≡ suc (length p)
unfolding ancestors
ancestors-length [] = refl
ancestors-length (n ∷ p) = simp (length-append, length-map, ancestors-length p) (omega arith)

get_or-map-lt : {A B : Type 0} (f : A → B) (l : List A) (i : ℕ) (d : A) (e : B) → i < length l → get_or (map f l) i e ≡ f (get_or l i d)
get_or-map-lt f [] i d e h = absurd (omega arith)
get_or-map-lt f (x ∷ l) zero d e h = refl
get_or-map-lt f (x ∷ l) (suc i) d e h = get_or-map-lt f l i d e (omega arith)

module _ (n : Name) (p : Path) (i : ℕ) where
  under : Path → Path
  under q = n ∷ q

  under-length : length (map under (ancestors p)) ≡ suc (length p)
  under-length = length-map (ancestors p) under ∙ ancestors-length p

  ancestor-under : i ≤ length p → get_or (ancestors p) i [] ≡ take (length p - i) p
      → get_or (ancestors (n ∷ p)) i [] ≡ take (suc (length p) - i) (n ∷ p)
  unfolding ancestors under
  ancestor-under h e =
      let one_more : suc (length p) - i ≡ suc (length p - i) = omega arith in
      get_or-append (map under (ancestors p)) ([] ∷ []) [] i (omega (arith, under-length))
      ∙ get_or-map-lt under (ancestors p) i [] [] (omega (arith, ancestors-length p))
      ∙ rw (one_more, e)

  ancestor-last : i ≡ suc (length p) → get_or (ancestors (n ∷ p)) i [] ≡ take (suc (length p) - i) (n ∷ p)
  unfolding ancestors under
  ancestor-last e =
      let no_more : suc (length p) - i ≡ 0 = omega arith in
      get_or_at (map under (ancestors p)) [] [] [] i (omega (arith, under-length)) ∙ rw no_more

-- the i-th ancestor is the path without its last i components
pub ancestors-at : (p : Path) (i : ℕ) → i ≤ length p → get_or (ancestors p) i [] ≡ take (length p - i) p
unfolding ancestors
ancestors-at [] zero h = refl
ancestors-at [] (suc i) h = absurd (omega arith)
ancestors-at (n ∷ p) i h = elim (dec_lt i (suc (length p))) [
  | yes k ↦ ancestor-under n p i (omega arith) (ancestors-at p i (omega arith))
  | no k ↦ ancestor-last n p i (omega arith)
]

-- ---- candidates
module _ (scope name : List ℕ) where
  -- an absolute name has one candidate, itself
  pub candidates-abs : is_abs name ≡ true → candidates scope name ≡ components (rootless name) ∷ []
  unfolding candidates
  candidates-abs h = simp (candidates, h)

  candidates-rel : is_abs name ≡ false → candidates scope name ≡ map (λ (p : Path). p ++ components name) (ancestors (components scope))
  unfolding candidates
  candidates-rel h = simp (candidates, h)

  pub candidates-length-abs : is_abs name ≡ true → length (candidates scope name) ≡ 1
  candidates-length-abs h = rw (candidates-abs h)

  pub candidates-length-rel : is_abs name ≡ false → length (candidates scope name) ≡ suc (length (components scope))
  candidates-length-rel h = rw (candidates-rel h, length-map, ancestors-length)

  -- the i-th candidate of a relative name is the scope without its last i components, plus the name
  pub candidate-rel : is_abs name ≡ false → (i : ℕ) → i ≤ length (components scope)
      → candidate scope name i ≡ take (length (components scope) - i) (components scope) ++ components name
  unfolding candidate
  candidate-rel h i w =
      let join : Path → Path = λ p. p ++ components name in
      rw (candidates-rel h)
      (get_or-map-lt join (ancestors (components scope)) i [] [] (omega (arith, ancestors-length (components scope)))
      ∙ ap join (ancestors-at (components scope) i w))

-- ---- ancestor: the first `end` bytes are the k-th ancestor
pub record Climbed (s : List ℕ) (i end k : ℕ) : Type 0 where
  pub few : k ≤ i
  pub inside : end ≤ length s
  pub spelt : take end s ≡ spell (take (length (components s) - k) (components s))

pub climbed-start : (s : List ℕ) (i : ℕ) → Climbed s i (length s) 0
climbed-start s i =
    let all : length (components s) - 0 ≡ length (components s) = omega arith in
    let whole : take (length (components s) - 0) (components s) ≡ components s = rw (all, take-length (components s)) in
    record { few = omega arith; inside = omega arith; spelt = take-length s ∙ rw whole (sym (spell-components s)) }

module _ (s : List ℕ) (i end k : ℕ) (c : Climbed s i end k) (w : i ≤ length (components s)) where
  pub climbed-end : i ≤ k → take end s ≡ spell (get_or (ancestors (components s)) i [])
  climbed-end h = let e : k ≡ i = omega arith in c.spelt ∙ rw (e, ancestors-at (components s) i w)

  pub climbed-next : k < i → (r : ℕ) → r ≤ end → take r s ≡ spell (parent (components (take end s))) → Climbed s i r (k + 1)
  climbed-next h r l p =
      let n = length (components s) in
      let one : n - k ≡ suc (n - (k + 1)) = omega arith in
      let up : parent (components (take end s)) ≡ take (n - (k + 1)) (components s) =
      rw (c.spelt, parent-spell (take (n - k) (components s)) (dotless-take (n - k) (components s) (components-dotless s)), one)
      (parent-take (n - (k + 1)) (components s) (omega arith)) in
      record { few = omega arith; inside = omega (arith, c.inside); spelt = p ∙ ap spell up }

pub ruleset climbed_laws = (front_length, climbed-start, climbed-end, climbed-next)

-- ---- how many candidates there are
module _ (scope name : List ℕ) (r : Bool) (q : r ≡ is_abs name) where
  pub candidates-one : r ≡ true → 1 ≡ length (candidates scope name)
  candidates-one e = sym (candidates-length-abs scope name (sym q ∙ e))

  pub candidates-more : r ≡ false → (n : ℕ) → n ≡ length (components scope) → n + 1 ≡ length (candidates scope name)
  candidates-more e n p = rw (p, candidates-length-rel scope name (sym q ∙ e)) (add-one (length (components scope)))

pub candidates-fit : (scope : List ℕ) → length scope * 1 < 2 ^ 63 → (n : ℕ) → n ≡ length (components scope) → Fits w64 (n + 1)
candidates-fit scope h n p = record { fits = omega (arith, components-length-le scope) }

pub ruleset candidates_laws = (candidates-one, candidates-more, candidates-fit)

-- ---- candidate
pub rootless-short : (name x : List ℕ) → x ≡ rootless name → length name * 1 < 2 ^ 63 → 0 + length x < 2 ^ 64
rootless-short name x p h = rw p (omega (arith, rootless-length-le name))

-- a path that is not empty is read back from its text, whatever its names
split-some : (p : Path) → 0 < length p → Dotless p → split (spell p) ≡ p
split-some [] h d = absurd (omega arith)
split-some (n ∷ p) h d = split-spell n p d

module _ (scope name : List ℕ) (i : ℕ) (w : i < length (candidates scope name)) (r : Bool) (q : r ≡ is_abs name) where
  pub candidate-whole : r ≡ true → (x : List ℕ) → x ≡ rootless name
      → (l l' : List ℕ) (n : ℕ) → Laid l 0 x l' n → Laid l 0 (spell (candidate scope name i)) l' n
  unfolding candidate
  candidate-whole e x p l l' n d =
      let only : i ≡ 0 = omega (arith, candidates-length-abs scope name (sym q ∙ e)) in
      rw (only, candidates-abs scope name (sym q ∙ e), spell-components (rootless name), ← p) d

  module _ (e : r ≡ false) where
    pub candidate-within : i ≤ length (components scope)
    candidate-within = omega (arith, candidates-length-rel scope name (sym q ∙ e))

    module _ (k : ℕ) (c : k ≡ length (components scope)) where
      pub candidate-joined : i < k → (x : List ℕ) → x ≡ spell (get_or (ancestors (components scope)) i [])
          → (l l' : List ℕ) (n : ℕ) → Laid l 0 (spell (split x ++ components name)) l' n → Laid l 0 (spell (candidate scope name i)) l' n
      candidate-joined h x p l l' n d =
          let cs = components scope in
          let some : 0 < length (take (length cs - i) cs) = rw length-take (omega arith) in
          let text : split x ≡ take (length cs - i) cs =
          ap split (p ∙ ap spell (ancestors-at cs i candidate-within))
          ∙ split-some _ some (dotless-take (length cs - i) cs (components-dotless scope)) in
          rw (candidate-rel scope name (sym q ∙ e) i candidate-within, ← text) d

      pub candidate-alone : k ≤ i → (l l' : List ℕ) (n : ℕ) → Laid l 0 name l' n → Laid l 0 (spell (candidate scope name i)) l' n
      candidate-alone h l l' n d =
          let cs = components scope in
          let none : length cs - i ≡ 0 = omega arith in
          rw (candidate-rel scope name (sym q ∙ e) i candidate-within, none, spell-components name) d

-- a buffer of this size holds every candidate of paths as written
pub candidate-length-le : (scope name : List ℕ) (i : ℕ) → i < length (candidates scope name)
    → length scope ≤ most_path → length name ≤ most_path → length (spell (candidate scope name i)) ≤ most_candidate
unfolding candidate
candidate-length-le scope name i w h k = go (is_abs name) refl
  where
    go : (b : Bool) → is_abs name ≡ b → length (spell (candidate scope name i)) ≤ most_candidate
    go true e =
        let only : i ≡ 0 = omega (arith, candidates-length-abs scope name e) in
        rw (only, candidates-abs scope name e, spell-components (rootless name)) (omega (arith, rootless-length-le name))
    go false e =
        let cs = components scope in
        let within : i ≤ length cs = candidate-within scope name i w (is_abs name) refl e in
        let front = take (length cs - i) cs in
        let whole = spell-append-le front (components name) in
        let scoped : length (spell cs) ≡ length scope = ap length (spell-components scope) in
        let named : length (spell (components name)) ≡ length name = ap length (spell-components name) in
        rw (candidate-rel scope name e i within) (omega (arith, whole, spell-take-le (length cs - i) cs))

-- the candidates of a name and a scope of the right form are paths of identifiers, read back from their texts
module _ (scope name : List ℕ) (h : is_rel_or_empty scope ≡ true) (k : is_path name ≡ true)
    (i : ℕ) (w : i < length (candidates scope name)) where
  candidate-idents : all_ident (candidate scope name i) ≡ true
  unfolding candidate
  candidate-idents = go (is_abs name) refl
    where
      go : (b : Bool) → is_abs name ≡ b → all_ident (candidate scope name i) ≡ true
      go true e =
          let only : i ≡ 0 = omega (arith, candidates-length-abs scope name e) in
          rw (only, candidates-abs scope name e) (path-idents name k)
      go false e =
          let cs = components scope in
          let within : i ≤ length cs = candidate-within scope name i w (is_abs name) refl e in
          let named : all_ident (components name) ≡ true = rw (rootless-rel name e) at (path-idents name k) in
          rw (candidate-rel scope name e i within)
          (idents-append (take (length cs - i) cs) (components name) (idents-take (length cs - i) cs (rel-idents scope h)) named)

  pub candidate-components : components (spell (candidate scope name i)) ≡ candidate scope name i
  candidate-components = components-spell (candidate scope name i) candidate-idents

  pub candidate-text-le : length (spell (candidate scope name i)) ≤ most_candidate
  candidate-text-le = candidate-length-le scope name i w (rel-length-le scope h) (path-length-le name k)

pub ruleset candidate_laws = (rootless-short, alone-fits, candidate-whole, candidate-within, candidate-joined, candidate-alone)
