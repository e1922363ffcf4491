-- What a look-up of an extension answers against what there is: back from the answer, and the search with its positions left out.
-- Assumes nothing.
use Rattle.std.specs.Prelude.{◌≡◌, refl, Bool, true, false, List, [], ◌∷◌, ℕ, ◌+◌, Option, None, Some, Err, Ok, Result}
use Rattle.basis.specs.Kit.{ap, ◌∙◌}
use Rattle.basis.proofs.Never.{never}
use Rattle.basis.specs.First.{given, or_else, first_some}
use Rattle.reply.specs.declared.Refusal.{Refusal}
use Rattle.reply.specs.declared.Refusal.TheVariants.{ExtensionNotFound}
use Rattle.path.specs.Path.{Path}
use Rattle.candidates.specs.Candidates.{candidates}
use Rattle.search.specs.declared.extension.Found.{Found}
use Rattle.search.specs.declared.extension.Candidate.{Candidate}
use Rattle.search.specs.declared.extension.Compared.TheVariants.{Extends, ExtendsOther}
use Rattle.scope.specs.Scope.{extends}
use Rattle.search.specs.Lookup.{found_at, found_among, or_not_found, tried, resolved, find_extension_by_path, extended, compared}

-- ---- back from an answer
module _ (o : Option Found) (r : Result Found Refusal) (q : r ≡ or_not_found Ok Err o) where
  pub resolved-none : (w : Refusal) → r ≡ Err w → o ≡ None
  resolved-none w g = go o q
    where
      go : (o : Option Found) → r ≡ or_not_found Ok Err o → o ≡ None
      go None q = refl
      go (Some f) q = never cc

  pub resolved-why : (w : Refusal) → r ≡ Err w → w ≡ ExtensionNotFound
  resolved-why w g = go o q
    where
      go : (o : Option Found) → r ≡ or_not_found Ok Err o → w ≡ ExtensionNotFound
      go None q = cc
      go (Some f) q = never cc

  pub resolved-some : (f : Found) → r ≡ Ok f → o ≡ Some f
  resolved-some f g = go o q
    where
      go : (o : Option Found) → r ≡ or_not_found Ok Err o → o ≡ Some f
      go None q = never cc
      go (Some x) q = let u : x ≡ f = cc in rw u

pub tried-some : (o : Option Candidate) (c : Candidate) → or_not_found Ok Err o ≡ Ok c → o ≡ Some c
tried-some None c q = never cc
tried-some (Some x) c q = let u : x ≡ c = cc in rw u

pub resolved-tried : (t : Result Candidate Refusal) (w : Refusal) → resolved t ≡ Err w → t ≡ Err w
resolved-tried (Ok c) w q = never cc
resolved-tried (Err v) w q = let u : v ≡ w = cc in rw u

module _ (s m : List ℕ) where
  pub compared-refused : (t : Result Candidate Refusal) (w : Refusal) → compared s m t ≡ Err w → t ≡ Err w
  compared-refused (Err v) w q = let u : v ≡ w = cc in rw u
  compared-refused (Ok d) w q = go (extends s m d.found.declaration) q
    where
      go : (b : Bool) → extended b d ≡ Err w → Ok d ≡ Err w
      go true q = never cc
      go false q = never cc

  module _ (c : Candidate) where
    pub compared-extends : (t : Result Candidate Refusal) → compared s m t ≡ Ok (Extends c) → t ≡ Ok c
    compared-extends (Err w) q = never cc
    compared-extends (Ok d) q = go (extends s m d.found.declaration) q
      where
        go : (b : Bool) → extended b d ≡ Ok (Extends c) → ◌≡◌ {A = Result Candidate Refusal} (Ok d) (Ok c)
        go true q = let u : d ≡ c = cc in rw u
        go false q = never cc

    pub compared-other : (t : Result Candidate Refusal) → compared s m t ≡ Ok (ExtendsOther c) → t ≡ Ok c
    compared-other (Err w) q = never cc
    compared-other (Ok d) q = go (extends s m d.found.declaration) q
      where
        go : (b : Bool) → extended b d ≡ Ok (ExtendsOther c) → ◌≡◌ {A = Result Candidate Refusal} (Ok d) (Ok c)
        go true q = never cc
        go false q = let u : d ≡ c = cc in rw u

pub extended-same : (c : Candidate) (b : Bool) → extended b c ≡ Ok (Extends c) → b ≡ true
extended-same c true q = refl
extended-same c false q = never cc

pub extended-other : (c : Candidate) (b : Bool) → extended b c ≡ Ok (ExtendsOther c) → b ≡ false
extended-other c true q = never cc
extended-other c false q = refl

-- ---- without positions
abbrev pub unplaced : Option Candidate → Option Found
unplaced o = given o λ c. Some c.found

pub among-unplaced : (s : List ℕ) (at : ℕ) (ps : List Path) → unplaced (found_among s at ps) ≡ first_some (found_at s) ps
among-unplaced s at [] = refl
among-unplaced s at (p ∷ ps) = go (found_at s p) (found_among s (at + 1) ps) (among-unplaced s (at + 1) ps)
  where
    go : (o : Option Found) (x : Option Candidate) → unplaced x ≡ first_some (found_at s) ps
        → unplaced (or_else (given o λ f. Some (record { position = at; found = f })) x) ≡ or_else o (first_some (found_at s) ps)
    go None x h = h
    go (Some f) x h = refl

tried-unplaced : (o : Option Candidate) → resolved (or_not_found Ok Err o) ≡ or_not_found Ok Err (unplaced o)
tried-unplaced None = refl
tried-unplaced (Some c) = refl

pub by-path : (s scope name : List ℕ)
    → find_extension_by_path s scope name ≡ or_not_found Ok Err (first_some (found_at s) (candidates scope name))
unfolding find_extension_by_path tried
by-path s scope name =
    tried-unplaced (found_among s 0 (candidates scope name)) ∙ ap (or_not_found Ok Err) (among-unplaced s 0 (candidates scope name))

module _ (s scope name : List ℕ) where
  pub by-path-some : (f : Found) → find_extension_by_path s scope name ≡ Ok f → first_some (found_at s) (candidates scope name) ≡ Some f
  by-path-some f = resolved-some (first_some (found_at s) (candidates scope name)) (find_extension_by_path s scope name) (by-path s scope name) f

  pub some-by-path : (f : Found) → first_some (found_at s) (candidates scope name) ≡ Some f → find_extension_by_path s scope name ≡ Ok f
  some-by-path f h = by-path s scope name ∙ rw h

  pub by-path-none : (w : Refusal) → find_extension_by_path s scope name ≡ Err w → first_some (found_at s) (candidates scope name) ≡ None
  by-path-none w = resolved-none (first_some (found_at s) (candidates scope name)) (find_extension_by_path s scope name) (by-path s scope name) w

  pub by-path-why : (w : Refusal) → find_extension_by_path s scope name ≡ Err w → w ≡ ExtensionNotFound
  by-path-why w = resolved-why (first_some (found_at s) (candidates scope name)) (find_extension_by_path s scope name) (by-path s scope name) w

  pub none-by-path : first_some (found_at s) (candidates scope name) ≡ None → find_extension_by_path s scope name ≡ Err ExtensionNotFound
  none-by-path h = by-path s scope name ∙ rw h
