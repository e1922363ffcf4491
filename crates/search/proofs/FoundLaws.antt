-- What is found against what is declared: in a scope, at a path, and by a whole search.
-- Assumes nothing.
use Rattle.std.specs.Prelude.{◌≡◌, refl, Bool, true, false, List, [], ◌∷◌, ℕ, zero, suc, ◌+◌, ◌<◌, ltb, length, get_or, Option, None, Some, Err, Ok}
use Rattle.basis.specs.Kit.{sym, ap, ◌∙◌}
use Rattle.basis.proofs.Kit.{arith}
use borrow.Author.Tests.{ltb-true, ltb-false}
use Rattle.basis.proofs.Never.{never}
use Rattle.path.specs.Path.{Path, is_path, parent, last}
use Rattle.candidates.specs.Candidates.{candidates, candidate}
use Rattle.sheet.specs.declared.declaration.Declaration.{Declaration}
use Rattle.sheet.specs.Members.{extensions_of}
use Rattle.search.specs.declared.extension.Found.{Found}
use Rattle.search.specs.declared.extension.Candidate.{Candidate}
use Rattle.basis.specs.First.{first, given, or_else, first_some}
use Rattle.scope.specs.Scope.{Scope}
use Rattle.field.specs.Leaf.{is_text}
use Rattle.scopes.specs.Scopes.{scopes}
use Rattle.search.specs.Lookup.{found_in, found_at, found_among, or_not_found, tried, find_extension_by_path}
use Rattle.basis.specs.Among.{Among, here, there, Behind, Ordered, next}
use Rattle.search.specs.Answers.{Declares, Undeclared, Answers, AnswersAt}
use Rattle.basis.proofs.AmongLaws.{behind-among, behind-map, behind-ordered, behind-here, behind-next}
use Rattle.basis.proofs.AmongFirsts.{given-some, firsts-none, none-firsts, Makes, firsts-some, some-firsts}
use Rattle.basis.proofs.AmongFirsts.{first-none, none_first, Passes, first-some, some_first}
use Rattle.search.proofs.CandidateOrder.{candidates-fall, candidates-some}
use Rattle.search.proofs.TriedLaws.{tried-some, unplaced, among-unplaced, by-path-some, some-by-path}

-- ---- in a scope
given-none : {A B : Type 0} (o : Option A) (g : A → B) → given o (λ a. Some (g a)) ≡ None → o ≡ None
given-none None g e = refl
given-none (Some a) g e = never cc

module _ (s : List ℕ) (p : Path) (c : Scope) where
  abbrev named : Declaration → Bool
  named d = is_text s (last p) d.name

  abbrev extensions : List Declaration
  extensions = extensions_of c.items

  pub found_none : found_in s (last p) c ≡ None → (d : Declaration) → Declares s p d c → ⊥
  found_none e d h = first-none named (given-none (first named extensions) _ e) h.extension h.name

  pub none_found : Among c (scopes s (parent p)) → ((d : Declaration) → Declares s p d c → ⊥) → found_in s (last p) c ≡ None
  none_found m h = rw (none_first named extensions λ d k q. h d (record { scope = m; extension = k; name = q }))

  module _ (f : Found) where
    abbrev at : Declaration → Found
    at d = record { file = c.place.file; declaration = d }

    found : found_in s (last p) c ≡ Some f → (d : Declaration) × (first named extensions ≡ Some d) × (Some (at d) ≡ Some f)
    found e = given-some (first named extensions) (λ d. Some (at d)) f e

    pub found-file : found_in s (last p) c ≡ Some f → f.file ≡ c.place.file
    found-file e = let r = found e in let q : at r.0 ≡ f = cc in ap (λ (g : Found). g.file) (sym q)

    pub found-passes : found_in s (last p) c ≡ Some f → Passes named f.declaration extensions
    found-passes e =
        let r = found e in
        let q : at r.0 ≡ f = cc in
        first-some named extensions (r.1 ∙ ap (λ (g : Found). Some g.declaration) q)

    pub declares-found : f.file ≡ c.place.file → Declares s p f.declaration c
        → Behind (λ d. Declares s p d c → ⊥) f.declaration extensions → found_in s (last p) c ≡ Some f
    declares-found e k b =
        let others : Behind (λ d. named d ≡ true → ⊥) f.declaration extensions =
        behind-map (λ d m h q. h (record { scope = k.scope; extension = m; name = q })) b in
        rw (some_first named others k.name, ← e)

-- ---- at a path
module _ (s : List ℕ) where
  find-scopes : (p : Path) → 0 < length p → found_at s p ≡ first_some (found_in s (last p)) (scopes s (parent p))
  unfolding found_at
  find-scopes [] h = absurd (omega arith)
  find-scopes (n ∷ p) h = refl

  pub find_none : (p : Path) → 0 < length p → found_at s p ≡ None → Undeclared s p
  find_none p h e d c k = found_none s p c (firsts-none (found_in s (last p)) (sym (find-scopes p h) ∙ e) k.scope) d k

  pub none-find : (p : Path) → Undeclared s p → found_at s p ≡ None
  unfolding found_at
  none-find [] h = refl
  none-find (n ∷ p) h = none-firsts (found_in s (last (n ∷ p))) (scopes s (parent (n ∷ p))) λ c m. none_found s (n ∷ p) c m λ d. h d c

  pub find-some : (p : Path) (f : Found) → found_at s p ≡ Some f → Makes (found_in s (last p)) f (scopes s (parent p))
  unfolding found_at
  find-some [] f e = never cc
  find-some (n ∷ p) f e = firsts-some (found_in s (last (n ∷ p))) (scopes s (parent (n ∷ p))) e

  pub some-find : (p : Path) (c : Scope) (f : Found) → 0 < length p → found_in s (last p) c ≡ Some f
      → Behind (λ c. (d : Declaration) → Declares s p d c → ⊥) c (scopes s (parent p)) → found_at s p ≡ Some f
  some-find p c f h e b = find-scopes p h ∙ some-firsts (found_in s (last p)) (behind-map (none_found s p) b) e

-- ---- a whole search
module _ (s scope name : List ℕ) (f : Found) where
  -- what is found under a candidate, and under none before it
  makes-answers : (a : Makes (found_at s) f (candidates scope name)) → (x : Answers s scope name f) × (x.path ≡ a.of)
  makes-answers a =
      let b = find-some s a.of f a.makes in
      let c = found-passes s a.of b.of f b.makes in
      let longer = behind-ordered (candidates-fall scope name) a.behind in (
        record {
          path = a.of;
          holder = b.of;
          declares = record { scope = behind-among b.behind; extension = behind-among c.behind; name = c.passes };
          file = found-file s a.of b.of f b.makes;
          first-candidate = behind-map (λ p m k. find_none s p (omega (arith, k.0)) k.1) longer;
          first-scope = behind-map (λ d m. found_none s a.of d) b.behind;
          first-declared = behind-map (λ d m k q. k q.name) c.behind;
        },
        refl,
      )

  pub found-answers : find_extension_by_path s scope name ≡ Ok f → Answers s scope name f
  found-answers e = (makes-answers (firsts-some (found_at s) (candidates scope name) (by-path-some s scope name f e))).0

  answers-some : is_path name ≡ true → Answers s scope name f → first_some (found_at s) (candidates scope name) ≡ Some f
  answers-some h a =
      let p = a.path in
      let c = a.holder in
      let Some : 0 < length p = candidates-some scope name h p (behind-among a.first-candidate) in
      some-firsts (found_at s)
      (behind-map (λ q m. none-find s q) a.first-candidate)
      (some-find s p c f Some (declares-found s p c f a.file a.declares a.first-declared) a.first-scope)

  pub answers-found : is_path name ≡ true → Answers s scope name f → find_extension_by_path s scope name ≡ Ok f
  answers-found h a = some-by-path s scope name f (answers-some h a)

-- ---- the position of the candidate that answers: the first of the paths at which something is found
record Reaches (s : List ℕ) (ps : List Path) (i : ℕ) (f : Found) : Type 0 where
  within : i < length ps
  makes : found_at s (get_or ps i []) ≡ Some f
  behind : Behind (λ p. found_at s p ≡ None) (get_or ps i []) ps
  before : (j : ℕ) → j < i → found_at s (get_or ps j []) ≡ None

module _ (s : List ℕ) (p : Path) (ps : List Path) (f : Found) where
  reaches_here : found_at s p ≡ Some f → Reaches s (p ∷ ps) 0 f
  reaches_here h = record { within = omega arith; makes = h; behind = behind-here p ps; before = λ j k. absurd (omega arith) }

  reaches-next : found_at s p ≡ None → (i : ℕ) → Reaches s ps i f → Reaches s (p ∷ ps) (suc i) f
  reaches-next h i r = record { within = omega (arith, r.within); makes = r.makes; behind = behind-next h r.behind; before = before }
    where
      before : (j : ℕ) → j < suc i → found_at s (get_or (p ∷ ps) j []) ≡ None
      before zero k = h
      before (suc j) k = r.before j (omega arith)

among-reaches : (s : List ℕ) (at : ℕ) (ps : List Path) (c : Candidate) → found_among s at ps ≡ Some c
    → (i : ℕ) × (c.position ≡ at + i) × Reaches s ps i c.found
among-reaches s at [] c e = never cc
among-reaches s at (p ∷ ps) c e = go (found_at s p) refl e (among-reaches s (at + 1) ps c)
  where
    go : (o : Option Found) → found_at s p ≡ o
        → or_else (given o λ f. Some (record { position = at; found = f })) (found_among s (at + 1) ps) ≡ Some c
        → (found_among s (at + 1) ps ≡ Some c → (i : ℕ) × (c.position ≡ at + 1 + i) × Reaches s ps i c.found)
        → (i : ℕ) × (c.position ≡ at + i) × Reaches s (p ∷ ps) i c.found
    go (Some f) h q ih =
        let u : c ≡ record { position = at; found = f } = cc in
        rw u (zero, omega arith, reaches_here s p ps f h)
    go None h q ih =
        let r = ih q in
        (suc r.0, omega (arith, r.1), reaches-next s p ps c.found h r.0 r.2)

among-at : {A : Type 0} (d : A) (xs : List A) (i : ℕ) → i < length xs → Among (get_or xs i d) xs
among-at d [] i h = absurd (omega arith)
among-at d (x ∷ xs) zero h = here
among-at d (x ∷ xs) (suc i) h = there (among-at d xs i (omega arith))

ordered_at : {A : Type 0} {R : A → A → Type 0} (d : A) {xs : List A} → Ordered R xs → (i j : ℕ) → i < j → j < length xs
    → R (get_or xs i d) (get_or xs j d)
ordered_at d Ordered.none i j h k = absurd (omega arith)
ordered_at d (next {x} {xs} b o) i zero h k = absurd (omega arith)
ordered_at d (next {x} {xs} b o) zero (suc j) h k = b (get_or xs j d) (among-at d xs j (omega arith))
ordered_at d (next {x} {xs} b o) (suc i) (suc j) h k = ordered_at d o i j (omega arith) (omega arith)

module _ (s scope name : List ℕ) where
  reaches : (c : Candidate) → found_among s 0 (candidates scope name) ≡ Some c → Reaches s (candidates scope name) c.position c.found
  reaches c e =
      let r = among-reaches s 0 (candidates scope name) c e in
      let same : c.position ≡ r.0 = omega (arith, r.1) in
      rw same r.2

  pub tried-answers : (c : Candidate) → tried s scope name ≡ Ok c → AnswersAt s scope name c
  unfolding candidate tried
  tried-answers c e =
      let ps = candidates scope name in
      let r = reaches c (tried-some (found_among s 0 ps) c e) in
      let a = makes-answers s scope name c.found (record { of = get_or ps c.position []; makes = r.makes; behind = r.behind }) in
      record {
        answers = a.0;
        within = r.within;
        path = a.1;
        before = λ i k.
            let longer = ordered_at [] (candidates-fall scope name) i c.position k r.within in
            find_none s (get_or ps i []) (omega (arith, longer)) (r.before i k);
      }

  module _ (h : is_path name ≡ true) (c : Candidate) (a : AnswersAt s scope name c) where
    at_some : found_at s (candidate scope name c.position) ≡ None → ⊥
    at_some e =
        let p = a.answers.path in
        let Some : 0 < length p = candidates-some scope name h p (behind-among a.answers.first-candidate) in
        find_none s p Some (ap (found_at s) a.path ∙ e) c.found.declaration a.answers.holder a.answers.declares

    -- there is one such position only
    position-same : (d : Candidate) → found_among s 0 (candidates scope name) ≡ Some d → d.position ≡ c.position
    unfolding candidate
    position-same d e = go (ltb d.position c.position) refl (ltb c.position d.position) refl
      where
        go : (x : Bool) → ltb d.position c.position ≡ x → (y : Bool) → ltb c.position d.position ≡ y
            → d.position ≡ c.position
        go true u y v =
            let less = ltb-true d.position c.position u in
            let nothing = none-find s (candidate scope name d.position) (a.before d.position less) in
            let found = (reaches d e).makes in
            never cc
        go false u true v = absurd (at_some ((reaches d e).before c.position (ltb-true c.position d.position v)))
        go false u false v =
            omega (arith, ltb-false d.position c.position u, ltb-false c.position d.position v)

    pub answers-tried : tried s scope name ≡ Ok c
    unfolding tried
    answers-tried = go (found_among s 0 (candidates scope name)) refl
        (among-unplaced s 0 (candidates scope name) ∙ answers-some s scope name c.found h a.answers)
      where
        go : (o : Option Candidate) → found_among s 0 (candidates scope name) ≡ o → unplaced o ≡ Some c.found
            → or_not_found Ok Err o ≡ Ok c
        go None e q = never cc
        go (Some d) e q =
            let u : d.found ≡ c.found = cc in
            rw (position-same d e, u)
