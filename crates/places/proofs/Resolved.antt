-- What the two positions of an answer of `resolve` say.
-- Assumes nothing.
use Rattle.std.specs.Prelude.{◌≡◌, refl, Bool, true, false, List, ℕ, ◌<◌, ltb, length, Ok}
use Rattle.basis.specs.Kit.{sym, ap, ◌∙◌}
use Rattle.basis.proofs.Kit.{arith}
use mathlib.Core.Path.{subst}
use mathlib.Core.Logic.{inl, inr}
use Rattle.basis.proofs.Never.{never}
use Rattle.reply.specs.declared.Refusal.TheVariants.{NoRoom}
use Rattle.reply.specs.declared.Where.TheVariants.{Nowhere}
use Rattle.reply.specs.declared.Cause.{Cause}
use Rattle.reply.specs.declared.Answer.{Answer}
use Rattle.reply.specs.Reply.{nowhere, refused_for}
use Rattle.reply.specs.Outcome.{refuse, give, within, answer_of, Answered}
use Rattle.scope.specs.declared.lookup.LookupScope.{LookupScope}
use Rattle.sheetform.specs.Form.{judge_sheet}
use Rattle.request.specs.Request.{request_of}
use Rattle.requestform.specs.Form.{judge_request}
use Rattle.requestform.proofs.FineLaws.{fine-few-options}
use Rattle.records.specs.Records.{Recs, encode}
use Rattle.lookups.specs.Lookups.{walking}
use Rattle.faults.specs.declared.Fault.{Fault}
use Rattle.faults.specs.Faults.{cause_at}
use Rattle.options.specs.Steps.{Steps, records, absent, refused, resolving}
use Rattle.options.specs.Resolve.{outcome_of, resolve_bytes}
use Rattle.alone.specs.Alone.{alone}
use Rattle.alone.proofs.Own.{own-request}
use Rattle.places.specs.Places.{scope_of, options_type, options_at, settled_in, OptionRefused, Positioned, Passes, FirstRefused}
use Rattle.places.specs.Places.{PartRefused, Bare}
use Rattle.places.proofs.PartLaws.{settle-fault, fault-below}
use Rattle.places.proofs.FirstLaws.{FirstFault}
use Rattle.places.proofs.FirstLaws as first
use Rattle.places.proofs.FirstLaws.{Resolves, refuses, passes, resolves}
use Rattle.places.proofs.BareLaws.{bare-nowhere}
use Rattle.places.proofs.OwnLaws.{own-refused, own-written}
use Rattle.reply.specs.Verdicts.{fine}

-- ---- the answer of what a request comes to
module _ (s r : List ℕ) {before after : List ℕ} {a : Answer} (k : Answered (resolve_bytes s r) before after a) where
  answer-is : (x : Steps) → resolving s r ≡ x → a ≡ answer_of (within (length before) (outcome_of x))
  unfolding resolve_bytes
  answer-is x e = k.answer ∙ ap (λ (z : Steps). answer_of (within (length before) (outcome_of z))) e

  pub answer-refused : (c : Cause) → resolving s r ≡ refused c → a ≡ refused_for c
  answer-refused c e = answer-is (refused c) e

  answer-passes : (x : Recs) → resolving s r ≡ records x → Passes a
  answer-passes x e = go (ltb (length before) (length (encode x))) (answer-is (records x) e)
    where
      go : (b : Bool) → a ≡ answer_of {A = ℕ} (elim b [ true ↦ refuse NoRoom | false ↦ give (encode x) ]) → Passes a
      go true h = inr h
      go false h = inl (ap (λ (z : Answer). z.reply) h)

steps-bare : (x : Steps) → ((c : Cause) → x ≡ refused c → c.place ≡ Nowhere) → Bare (outcome_of x)
steps-bare (records x) h c e = never cc
steps-bare absent h c e = never cc
steps-bare (refused w) h c e = let y : w ≡ c = cc in h c (ap refused y)

resolve-bare : (s r : List ℕ) → ((c : Cause) → resolving s r ≡ refused c → c.place ≡ Nowhere) → Bare (resolve_bytes s r)
unfolding resolve_bytes
resolve-bare s r h = steps-bare (resolving s r) h

-- ---- refused at an option
module _ (s r : List ℕ) (p : LookupScope) (n : ℕ) (e : Fault) (f : judge_sheet s ≡ fine) (g : judge_request r ≡ fine)
    (t : (walking s).message (options_type r) ≡ Ok p) (u : FirstFault (settled_in s r p) (request_of r).options n e) where
  abbrev said : Answer
  said = refused_for (cause_at n e)

  inside : n < length (request_of r).options
  inside = first.at-below (request_of r).options n u.option u.at

  first-is : FirstRefused s r said
  first-is = record {
    before = λ i h room left b k.
        let x = first.at_some (request_of r).options i (omega (arith, h, inside)) in
        let y = own-written s r f p t i x.0 (own-request r g i x.0 x.1) (u.before i h x.0 x.1) in
        answer-passes s (alone r i) k y.recs y.is;
    itself = λ room left b k.
        answer-refused s (alone r n) k (cause_at 0 e) (own-refused s r f p t n u.option (own-request r g n u.option u.at) e u.fault);
  }

  part-is : PartRefused s r said
  part-is =
      let x = settle-fault (walking s) s r (scope_of r) (options_at r p) u.option e u.fault in
      record {
        option = u.option;
        at = u.at;
        below = fault-below (walking s) s r (scope_of r) (options_at r p) u.option x;
        place = p;
        type = t;
        fault = e;
        faulty = x;
        answer = refl;
      }

  option_is : OptionRefused s r
  option_is = record {
    sheet = f;
    request = g;
    place = p;
    type = t;
    option = u.option;
    one = first.at-among (request_of r).options n u.option u.at;
    fault = e;
    refused = u.fault;
  }

  small_is : n < nowhere
  small_is = omega (arith, inside, fine-few-options r g)

-- ==== of `resolve`
module _ (s r before after : List ℕ) (a : Answer) (k : Answered (resolve_bytes s r) before after a) where
  -- 1. The option is a position exactly when sheet, request and options type are fine and an option is refused by its own steps.
  pub positioned : Positioned s r a
  positioned = go (resolves s r)
    where
      go : Resolves s r → Positioned s r a
      go (refuses p n e f g t u q) = rw (answer-refused s r k (cause_at n e) q) (record {
        whenever = λ _. inside s r p n e f g t u;
        small = λ _. small_is s r p n e f g t u;
        only = λ _. option_is s r p n e f g t u;
        neither = λ z. absurd (z (option_is s r p n e f g t u));
      })
      go (passes z h) =
          let y = bare-nowhere k (resolve-bare s r h) in
          record { whenever = λ x. absurd (z x); small = λ x. absurd (z x); only = λ x. absurd (x y.0); neither = λ _. y }

  module _ (o : OptionRefused s r) where
    -- 2. It is the first.
    pub first-refused : FirstRefused s r a
    first-refused = go (resolves s r)
      where
        go : Resolves s r → FirstRefused s r a
        go (refuses p n e f g t u q) = subst (FirstRefused s r) (sym (answer-refused s r k (cause_at n e) q)) (first-is s r p n e f g t u)
        go (passes z h) = absurd (z o)

    -- 3. The part is the one at fault.
    pub part-refused : PartRefused s r a
    part-refused = go (resolves s r)
      where
        go : Resolves s r → PartRefused s r a
        go (refuses p n e f g t u q) = subst (PartRefused s r) (sym (answer-refused s r k (cause_at n e) q)) (part-is s r p n e f g t u)
        go (passes z h) = absurd (z o)
