-- The answers of the functions: what an answer tells of that which it stands for, the first of two that tells of something, and a
-- declaration where it passes a test.
-- Assumes nothing.
use Rattle.std.specs.Prelude.{◌≡◌, refl, Bool, true, false, List, ◌++◌, Option, None, Some}
use Rattle.basis.specs.Kit.{sym, ap, ◌∙◌}
use Rattle.basis.proofs.Never.{never}
use Rattle.sheet.specs.declared.declaration.Declaration.{Declaration}
use Rattle.sheet.proofs.MemberLaws.{listed}
use Rattle.scope.specs.declared.lookup.LookupScope.{LookupScope}
use Rattle.basis.specs.First.{only_if, told, first, or_else}
use Rattle.scope.specs.Scope.{Scope}
use Rattle.scope.specs.inner.Answers.{placed, declared}
use Rattle.scope.specs.inner.Steps.{tells_declared, first_of, whose}
use Rattle.basis.proofs.FirstLaws.{first-append}

-- ---- what there is, of which the answer tells
module _ (r : Option LookupScope) where
  pub placed-nowhere : (o : Option Scope) → r ≡ placed o → r ≡ None → o ≡ None
  placed-nowhere None q g = refl
  placed-nowhere (Some c) q g = never cc

  -- of a scope the answer is the place alone
  pub placed-to : (o : Option Scope) → r ≡ placed o → (p : LookupScope) → r ≡ Some p → (P : Type 0)
      → ((c : Scope) → o ≡ Some c → p ≡ c.place → P) → P
  placed-to None q p g P k = never cc
  placed-to (Some c) q p g P k = let u : p ≡ c.place = cc in k c refl u

module _ (r : Option Declaration) where
  pub declared-none : (o : Option Declaration) → r ≡ declared o → r ≡ None → o ≡ None
  declared-none None q g = refl
  declared-none (Some d) q g = never cc

  pub declared-some : (o : Option Declaration) → r ≡ declared o → (d : Declaration) → r ≡ Some d → o ≡ Some d
  declared-some None q d g = never cc
  declared-some (Some x) q d g = let u : x ≡ d = cc in rw u

-- ---- the first of two lists: an answer that tells of something is the first of two, and one that does not is passed over
module _ {A B R : Type 0} (nothing : R) (thing : B → R) (tells : R → Option A)
    (passed : (q : R) → first_of tells nothing q ≡ q) (taken : (b : B) (q : R) → first_of tells (thing b) q ≡ thing b) where
  pub told-or-else : (o p : Option B) → told nothing thing (or_else o p) ≡ first_of tells (told nothing thing o) (told nothing thing p)
  told-or-else None p = sym (passed (told nothing thing p))
  told-or-else (Some b) p = sym (taken b (told nothing thing p))

  pub told-append : (good : B → Bool) (xs ys : List B)
      → told nothing thing (first good (xs ++ ys)) ≡ first_of tells (told nothing thing (first good xs)) (told nothing thing (first good ys))
  told-append good xs ys = ap (told nothing thing) (first-append good xs ys) ∙ told-or-else (first good xs) (first good ys)

pub declared-or-else : (o p : Option Declaration) → declared (or_else o p) ≡ first_of tells_declared (declared o) (declared p)
declared-or-else = told-or-else None Some tells_declared (λ q. refl) (λ d q. refl)

module _ (good : Declaration → Bool) where
  pub declared-append : (xs ys : List Declaration)
      → declared (first good (xs ++ ys)) ≡ first_of tells_declared (declared (first good xs)) (declared (first good ys))
  declared-append = told-append None Some tells_declared (λ q. refl) (λ d q. refl) good

  pub declared-listed : (r : Option Declaration) → declared (first good (listed r)) ≡ whose None tells_declared good r
  unfolding whose
  declared-listed None = refl
  declared-listed (Some d) = go (good d)
    where
      go : (b : Bool) → declared (only_if b (Some d) None) ≡ only_if b (Some d) None
      go true = refl
      go false = refl

-- ---- a declaration, where it passes a test
module _ (good : Declaration → Bool) (r x : Option Declaration) (q : r ≡ x) where
  pub whose-none : r ≡ None → None ≡ whose None tells_declared good x
  unfolding whose
  whose-none g = rw (← q, g)

  module _ (d : Declaration) (g : r ≡ Some d) where
    pub whose-other : good d ≡ false → None ≡ whose None tells_declared good x
    unfolding whose
    whose-other h = rw (← q, g, h)

    pub whose-some : good d ≡ true → Some d ≡ whose None tells_declared good x
    unfolding whose
    whose-some h = rw (← q, g, h)

pub ruleset whose_laws = (whose-none, whose-other, whose-some)
