-- The first option that is refused, and what the call comes to by it.
--
--   FirstFault f os k e <-> the option at the position k of os is the first that has a fault, e, by f, which says what an option comes to
--          Resolves s r <-> what `resolve` comes to: it is refused at the first option that has a fault, or no option is, and then it is
--                           refused nowhere, if at all
--
-- Assumes nothing.
use Rattle.std.specs.Prelude.{◌≡◌, refl, List, [], ◌∷◌, ℕ, zero, suc, ◌+◌, ◌<◌, length, None, Some, Err, Ok, Result}
use Rattle.basis.specs.Kit.{sym, ap, ◌∙◌}
use Rattle.basis.specs.Among.{Among, here, there}
use Rattle.basis.proofs.Kit.{arith}
use Rattle.basis.proofs.AmongLaws.{among-nil}
use mathlib.Core.Path.{subst}
use native.Mathlib.Nat.{zero-add, add-zero}
use mathlib.Core.Option.{some}
use lib.ListN.{get_elem?}
use Rattle.basis.proofs.Never.{never}
use Rattle.reply.specs.declared.Refusal.{Refusal}
use Rattle.reply.specs.declared.Cause.{Cause}
use Rattle.reply.specs.declared.Where.TheVariants.{Nowhere}
use Rattle.reply.specs.Reply.{bare}
use Rattle.reply.specs.Verdicts.{first_fault, Verdict, fine}
use Rattle.reply.proofs.VerdictLaws.{refused-fine}
use Rattle.scope.specs.declared.lookup.LookupScope.{LookupScope}
use Rattle.sheetform.specs.Form.{judge_sheet}
use Rattle.request.specs.Request.{RequestOption, Request, request_of}
use Rattle.requestform.specs.Form.{judge_request}
use Rattle.records.specs.Records.{Recs, nil}
use Rattle.lookups.specs.Lookups.{Lookups, Message, walking}
use Rattle.known.specs.Known.{Known}
use Rattle.faults.specs.declared.Fault.{Fault}
use Rattle.options.specs.Settle.{Settled, known, others, fails, settle}
use Rattle.faults.specs.Faults.{cause_at}
use Rattle.options.specs.Options.{Gathered, gathered, stopped, next, gather}
use Rattle.options.specs.Steps.{Steps, refused, steps_in, on_type, some_options, request_steps, steps_of, resolving_by, resolving}
use Rattle.alone.specs.Alone.{fault_of}
use Rattle.places.specs.Places.{scope_of, options_type, options_at, settled_in, OptionRefused}

-- ---- the options in order
pub record FirstFault (f : RequestOption → Settled) (os : List RequestOption) (k : ℕ) (e : Fault) : Type 0 where
  pub option : RequestOption
  pub at : get_elem? os k ≡ some option
  pub fault : f option ≡ fails e
  pub before : (j : ℕ) → j < k → (o : RequestOption) → get_elem? os j ≡ some o → fault_of (f o) ≡ None

pub at-below : (os : List RequestOption) (k : ℕ) (o : RequestOption) → get_elem? os k ≡ some o → k < length os
at-below [] zero o e = never cc
at-below [] (suc k) o e = never cc
at-below (x ∷ os) zero o e = omega arith
at-below (x ∷ os) (suc k) o e = let h = at-below os k o e in omega (arith, h)

pub at_some : (os : List RequestOption) (k : ℕ) → k < length os → (o : RequestOption) × (get_elem? os k ≡ some o)
at_some [] k h = absurd (omega (arith, h))
at_some (x ∷ os) zero h = (x, refl)
at_some (x ∷ os) (suc k) h = at_some os k (omega (arith, h))

pub at-among : (os : List RequestOption) (k : ℕ) (o : RequestOption) → get_elem? os k ≡ some o → Among o os
at-among [] zero o e = never cc
at-among [] (suc k) o e = never cc
at-among (x ∷ os) zero o e = let y : x ≡ o = cc in subst (λ (z : RequestOption). Among z (x ∷ os)) y here
at-among (x ∷ os) (suc k) o e = there (at-among os k o e)

-- all options pass, or one is the first that does not
pub data Searched (f : RequestOption → Settled) (os : List RequestOption) : Type 0 where
  passed : ((o : RequestOption) → Among o os → fault_of (f o) ≡ None) → Searched f os
  fault : (k : ℕ) (e : Fault) → FirstFault f os k e → Searched f os

module _ (f : RequestOption → Settled) where
  pub fails-none : {v : Settled} {e : Fault} → v ≡ fails e → fault_of v ≡ None → ⊥
  fails-none {v} {e} g h = let y : Some e ≡ None = sym (ap fault_of g) ∙ h in never cc

  pub first-here : (x : RequestOption) (os : List RequestOption) (e : Fault) → f x ≡ fails e → FirstFault f (x ∷ os) 0 e
  first-here x os e g = record { option = x; at = refl; fault = g; before = λ j h. absurd (omega (arith, h)) }

  module _ (x : RequestOption) (os : List RequestOption) (g : fault_of (f x) ≡ None) where
    first-there : {k : ℕ} {e : Fault} → FirstFault f os k e → FirstFault f (x ∷ os) (suc k) e
    first-there {k} {e} u = record { option = u.option; at = u.at; fault = u.fault; before = earlier }
      where
        earlier : (j : ℕ) → j < suc k → (o : RequestOption) → get_elem? (x ∷ os) j ≡ some o → fault_of (f o) ≡ None
        earlier zero h o y = let z : x ≡ o = cc in subst (λ (v : RequestOption). fault_of (f v) ≡ None) z g
        earlier (suc j) h o y = u.before j (omega (arith, h)) o y

    searched-there : Searched f os → Searched f (x ∷ os)
    searched-there (fault k e u) = fault (suc k) e (first-there u)
    searched-there (passed h) = passed all
      where
        all : (o : RequestOption) → Among o (x ∷ os) → fault_of (f o) ≡ None
        all o here = g
        all o (there m) = h o m

  search-here : (x : RequestOption) (os : List RequestOption) (v : Settled) → f x ≡ v → Searched f os → Searched f (x ∷ os)
  search-here x os (known k) g more = searched-there x os (ap fault_of g) more
  search-here x os (others y) g more = searched-there x os (ap fault_of g) more
  search-here x os (fails e) g more = fault 0 e (first-here x os e g)

  pub searched : (os : List RequestOption) → Searched f os
  searched [] = passed λ o m. among-nil m
  searched (x ∷ os) = search-here x os (f x) refl (searched os)

-- ---- what they come to together
module _ (L : Lookups) (s r scope : List ℕ) (m : Message) where
  abbrev come : RequestOption → Settled
  come o = settle L s r scope m o

  pub record Gathers (g : Gathered) : Type 0 where
    pub knowns : List Known
    pub rest : Recs
    pub is : g ≡ gathered knowns rest

  module _ (i : ℕ) (ks : List Known) (x : Recs) (o : RequestOption) (os : List RequestOption) where
    gather-next : (v : Settled) → come o ≡ v
        → gather L s r scope m i ks x (o ∷ os) ≡ next i ks x v (λ ks' x'. gather L s r scope m (i + 1) ks' x' os)
    gather-next v g = ap (λ (z : Settled). next i ks x z (λ ks' x'. gather L s r scope m (i + 1) ks' x' os)) g

  pub gather-passed : (os : List RequestOption) → ((o : RequestOption) → Among o os → fault_of (come o) ≡ None) → (i : ℕ) (ks : List Known)
      (x : Recs) → Gathers (gather L s r scope m i ks x os)
  gather-passed [] h i ks x = record { knowns = ks; rest = x; is = refl }
  gather-passed (o ∷ os) h i ks x =
      go (come o) refl (h o here) (λ ks' x'. gather-passed os (λ y z. h y (there z)) (i + 1) ks' x')
    where
      go : (v : Settled) → come o ≡ v → fault_of (come o) ≡ None
          → ((ks' : List Known) (x' : Recs) → Gathers (gather L s r scope m (i + 1) ks' x' os)) → Gathers (gather L s r scope m i ks x (o ∷ os))
      go (known k) g n more = subst Gathers (sym (gather-next i ks x o os (known k) g)) (more _ x)
      go (others y) g n more = subst Gathers (sym (gather-next i ks x o os (others y) g)) (more ks _)
      go (fails e) g n more = absurd (fails-none come g n)

  first_rest : {x : RequestOption} {os : List RequestOption} {k : ℕ} {e : Fault} → FirstFault come (x ∷ os) (suc k) e → FirstFault come os k e
  first_rest u =
      record { option = u.option; at = u.at; fault = u.fault; before = λ j h o y. u.before (suc j) (omega (arith, h)) o y }

  pub gather-first : (os : List RequestOption) (k : ℕ) (e : Fault) → FirstFault come os k e → (i : ℕ) (ks : List Known) (x : Recs)
      → gather L s r scope m i ks x os ≡ stopped (cause_at (i + k) e)
  gather-first [] k e u i ks x = absurd (omega (arith, at-below [] k u.option u.at))
  gather-first (o ∷ os) zero e u i ks x =
      let y : u.option ≡ o = let z = u.at in cc in
      gather-next i ks x o os (fails e) (ap come (sym y) ∙ u.fault) ∙ ap (λ (n : ℕ). stopped (cause_at n e)) (sym (add-zero i))
  gather-first (o ∷ os) (suc k) e u i ks x =
      go (come o) refl (u.before 0 (omega arith) o refl) (λ ks' x'. gather-first os k e (first_rest u) (i + 1) ks' x')
    where
      behind : stopped (cause_at (i + 1 + k) e) ≡ stopped (cause_at (i + suc k) e)
      behind = let n : i + 1 + k ≡ i + suc k = omega arith in ap (λ (z : ℕ). stopped (cause_at z e)) n

      go : (v : Settled) → come o ≡ v → fault_of (come o) ≡ None
          → ((ks' : List Known) (x' : Recs) → gather L s r scope m (i + 1) ks' x' os ≡ stopped (cause_at (i + 1 + k) e))
          → gather L s r scope m i ks x (o ∷ os) ≡ stopped (cause_at (i + suc k) e)
      go (known y) g n more = gather-next i ks x o os (known y) g ∙ more _ x ∙ behind
      go (others y) g n more = gather-next i ks x o os (others y) g ∙ more ks _ ∙ behind
      go (fails y) g n more = absurd (fails-none come g n)

-- ---- the call
pub data Resolves (s r : List ℕ) : Type 0 where
  refuses : (p : LookupScope) (k : ℕ) (e : Fault) → judge_sheet s ≡ fine → judge_request r ≡ fine
      → (walking s).message (options_type r) ≡ Ok p → FirstFault (settled_in s r p) (request_of r).options k e
      → resolving s r ≡ refused (cause_at k e) → Resolves s r
  passes : (OptionRefused s r → ⊥) → ((c : Cause) → resolving s r ≡ refused c → c.place ≡ Nowhere) → Resolves s r

-- what is refused nowhere is
refused-bare : {x : Steps} (w : Refusal) → x ≡ refused (bare w) → (c : Cause) → x ≡ refused c → c.place ≡ Nowhere
refused-bare w e c h = let y : bare w ≡ c = cc in sym (ap (λ (z : Cause). z.place) y)

refused-never : {x y : Steps} → x ≡ y → ((c : Cause) → y ≡ refused c → ⊥) → (c : Cause) → x ≡ refused c → c.place ≡ Nowhere
refused-never e n c h = absurd (n c (sym e ∙ h))

module _ (s r : List ℕ) where
  abbrev request : Request
  request = request_of r

  module _ (f : judge_sheet s ≡ fine) (g : judge_request r ≡ fine) where
    steps-fine : resolving s r ≡ request_steps (walking s) s r request
    unfolding resolving_by steps_of
    steps-fine = rw (f, g) refl

    pub steps-some : {o : RequestOption} {os : List RequestOption} → request.options ≡ o ∷ os → (u : Result LookupScope Refusal) → (walking s).message (options_type r) ≡ u
        → resolving s r ≡ on_type (walking s) s r request u
    steps-some h u e = steps-fine ∙ ap (some_options (walking s) s r request) h ∙ ap (on_type (walking s) s r request) e

    -- an options message that is found: the options decide
    module _ (p : LookupScope) (t : (walking s).message (options_type r) ≡ Ok p)
        (on : resolving s r ≡ on_type (walking s) s r request (Ok p)) where
      same_place : (k : OptionRefused s r) → k.place ≡ p
      same_place k = let y : Ok k.place ≡ Ok p = sym k.type ∙ t in cc

      of-searched : Searched (settled_in s r p) request.options → Resolves s r
      of-searched (fault k e u) =
          refuses p k e f g t u
          (on ∙ ap steps_in (gather-first (walking s) s r (scope_of r) (options_at r p) request.options k e u 0 [] nil)
          ∙ ap (λ (n : ℕ). refused (cause_at n e)) (zero-add k))
      of-searched (passed h) =
          let y = gather-passed (walking s) s r (scope_of r) (options_at r p) request.options h 0 [] nil in
          passes (λ k. fails-none (settled_in s r p) (subst (λ (z : LookupScope). settled_in s r z k.option ≡ fails k.fault) (same_place k) k.refused) (h k.option k.one))
          (refused-never (on ∙ ap steps_in y.is) (λ c e. never cc))

    by-type : {o : RequestOption} {os : List RequestOption} → request.options ≡ o ∷ os → (u : Result LookupScope Refusal) → (walking s).message (options_type r) ≡ u
        → Resolves s r
    by-type h (Err w) t =
        passes (λ k. let y : Ok k.place ≡ Err w = sym k.type ∙ t in never cc)
        (refused-bare w (steps-some h (Err w) t))
    by-type h (Ok p) t = of-searched p t (steps-some h (Ok p) t) (searched (settled_in s r p) request.options)

    by-options : (os : List RequestOption) → request.options ≡ os → Resolves s r
    by-options [] h =
        passes (λ k. among-nil (subst (λ (z : List RequestOption). Among k.option z) h k.one))
        (refused-never (steps-fine ∙ ap (some_options (walking s) s r request) h) (λ c e. never cc))
    by-options (o ∷ os) h = by-type h ((walking s).message (options_type r)) refl

  steps-faulty : {u v : Verdict} (w : Refusal) → judge_sheet s ≡ u → judge_request r ≡ v → first_fault u v ≡ Err w
      → resolving s r ≡ refused (bare w)
  unfolding resolving_by
  steps-faulty w f g h = rw (f, g, h) refl

  by-request : judge_sheet s ≡ fine → (v : Verdict) → judge_request r ≡ v → Resolves s r
  by-request f (Ok _) g = by-options f g request.options refl
  by-request f (Err w) g = passes (λ k. refused-fine w (sym g ∙ k.request)) (refused-bare w (steps-faulty w f g refl))

  by-sheet : (v : Verdict) → judge_sheet s ≡ v → Resolves s r
  by-sheet (Ok _) f = by-request f (judge_request r) refl
  by-sheet (Err w) f = passes (λ k. refused-fine w (sym f ∙ k.sheet)) (refused-bare w (steps-faulty w f refl refl))

  pub resolves : Resolves s r
  resolves = by-sheet (judge_sheet s) refl
