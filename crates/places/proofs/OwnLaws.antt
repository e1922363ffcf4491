-- An option in a request of its own, of the same scope and options type: it is refused there as it is here, or comes to records.
-- Assumes nothing.
use Rattle.std.specs.Prelude.{◌≡◌, List, [], ◌∷◌, ℕ, None, Some, Ok}
use Rattle.basis.specs.Kit.{ap, ◌∙◌}
use Rattle.basis.specs.Among.{Among, here, there}
use Rattle.basis.proofs.AmongLaws.{among-nil}
use Rattle.basis.proofs.Never.{never}
use Rattle.scope.specs.declared.lookup.LookupScope.{LookupScope}
use Rattle.sheetform.specs.Form.{judge_sheet}
use Rattle.request.specs.Request.{RequestOption, request_of}
use Rattle.records.specs.Records.{Recs, nil}
use Rattle.lookups.specs.Lookups.{walking}
use Rattle.faults.specs.declared.Fault.{Fault}
use Rattle.options.specs.Settle.{Settled, known, others, fails, settle}
use Rattle.faults.specs.Faults.{cause_at}
use Rattle.options.specs.Options.{gather}
use Rattle.options.specs.Steps.{records, refused, steps_in, on_type, resolving}
use Rattle.alone.specs.Alone.{alone, fault_of, Own}
use Rattle.places.specs.Places.{scope_of, options_type, options_at, settled_in}
use Rattle.places.proofs.FirstLaws.{first-here, gather-first, gather-passed, steps-some}
use Rattle.reply.specs.Verdicts.{fine}

module _ (s r : List ℕ) (f : judge_sheet s ≡ fine) (p : LookupScope) (t : (walking s).message (options_type r) ≡ Ok p)
    (i : ℕ) (o : RequestOption) (k : Own r i o) where
  abbrev own : List ℕ
  own = alone r i

  own_same : fault_of (settled_in s own p k.own) ≡ fault_of (settled_in s r p o)
  own_same =
      k.same (walking s) s (scope_of own) (options_at own p)
      ∙ ap (λ (z : List ℕ). fault_of (settle (walking s) s r z (options_at own p) o)) k.scope
      ∙ ap (λ (z : List ℕ). fault_of (settle (walking s) s r (scope_of r) (record { name = z; place = p }) o)) k.type

  own-steps : resolving s own ≡ on_type (walking s) s own (request_of own) (Ok p)
  own-steps = steps-some s own f k.fine k.options (Ok p) (ap (λ (z : List ℕ). (walking s).message z) k.type ∙ t)

  own-gathers : resolving s own ≡ steps_in (gather (walking s) s own (scope_of own) (options_at own p) 0 [] nil (k.own ∷ []))
  own-gathers =
      own-steps ∙ ap (λ (os : List RequestOption). steps_in (gather (walking s) s own (scope_of own) (options_at own p) 0 [] nil os)) k.options

  faulty : (v : Settled) (e : Fault) → fault_of v ≡ Some e → v ≡ fails e
  faulty (known x) e h = never cc
  faulty (others x) e h = never cc
  faulty (fails x) e h = let y : x ≡ e = cc in ap fails y

  pub own-refused : (e : Fault) → settled_in s r p o ≡ fails e → resolving s own ≡ refused (cause_at 0 e)
  own-refused e h =
      let there = faulty (settled_in s own p k.own) e (own_same ∙ ap fault_of h) in
      own-gathers
      ∙ ap steps_in (gather-first (walking s) s own (scope_of own) (options_at own p) (k.own ∷ []) 0 e
      (first-here (settled_in s own p) k.own [] e there) 0 [] nil)

  pub record Written : Type 0 where
    pub recs : Recs
    pub is : resolving s own ≡ records recs

  pub own-written : fault_of (settled_in s r p o) ≡ None → Written
  own-written h =
      let g = gather-passed (walking s) s own (scope_of own) (options_at own p) (k.own ∷ []) all 0 [] nil in
      record { recs = _; is = own-gathers ∙ ap steps_in g.is }
    where
      all : (x : RequestOption) → Among x (k.own ∷ []) → fault_of (settled_in s own p x) ≡ None
      all x here = own_same ∙ h
      all x (there m) = among-nil m
