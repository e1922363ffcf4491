-- The laws of a call that looks up the message of an options type where its inputs are fine.
-- Assumes nothing.
use Rattle.std.specs.Prelude.{◌≡◌, refl, List, ℕ, Err, Ok, Result}
use Rattle.basis.specs.Kit.{ap, ◌∙◌}
use Rattle.basis.proofs.Never.{never}
use Rattle.reply.specs.declared.Refusal.{Refusal}
use Rattle.reply.specs.Outcome.{Outcome, refuse, unless}
use Rattle.scope.specs.declared.lookup.LookupScope.{LookupScope}
use Rattle.lookups.specs.Lookups.{walking}
use Rattle.lookups.specs.inner.Admitted.{unless_faulty}
use Rattle.reply.specs.Verdicts.{Verdict, fine}

-- ---- the message that the options type is, of inputs that are judged v
pub record Admits (v : Verdict) (s type : List ℕ) (p : LookupScope) : Type 0 where
  pub fine : v ≡ fine
  pub is : (walking s).message type ≡ Ok p

module _ (s type : List ℕ) where
  pub admits : (v : Verdict) (p : LookupScope) → unless_faulty v ((walking s).message type) ≡ Ok p → Admits v s type p
  admits (Err w) p e = never cc
  admits (Ok _) p e = record { fine = refl; is = e }

  pub admits-none : (v : Verdict) (w : Refusal) → unless_faulty v ((walking s).message type) ≡ Err w → (f : Result LookupScope Refusal → Outcome ℕ)
      → ((x : Refusal) → f (Err x) ≡ refuse x) → unless v (f ((walking s).message type)) ≡ refuse w
  admits-none (Err x) w e f n = let same : x ≡ w = cc in ap refuse same
  admits-none (Ok _) w e f n = ap f e ∙ n w
