-- How many bytes a request writes, of any sheet and over any look-ups. The statements stand at the end.
--
--   SmallGathered k n x <-> the records that options come to together are small, where none is refused
--      SmallSteps k n x <-> so it is of what a request comes to
--            longest os ==  how many parts the longest name of the options has
--
-- Assumes nothing.
use Rattle.std.specs.Prelude.{◌≡◌, refl, Bool, true, false, List, [], ◌∷◌, ℕ, ◌+◌, ◌-◌, ◌≤◌, eqb, ltb, length, Err, None, Some, Ok, Option, Result}
use Rattle.basis.specs.Kit.{sym, ap, ◌∙◌}
use Rattle.basis.proofs.Kit.{arith}
use Prim.Native.Nat.{max}
use Rattle.basis.proofs.Never.{never}
use borrow.Author.Tests.{ltb-true, ltb-false}
use Rattle.limits.specs.Figures.{most_request, most_constants}
use Rattle.reply.specs.declared.Refusal.TheVariants.{BeyondLimit}
use Rattle.reply.specs.Verdicts.{first_fault, Verdict, fine}
use Rattle.reply.proofs.VerdictLaws.{refused-fine, first-fine-front, first-fine-rest}
use Rattle.field.specs.Leaf.{text}
use Rattle.field.specs.Walk.{Walk, done, cut, step, walk}
use Rattle.request.specs.Table.{option_tag}
use Rattle.request.specs.Request.{RequestOption, Request, heading_of, option_of, option_in, options_in, request_with, request_of}
use Rattle.records.specs.Records.{Recs, nil, append, encode}
use Rattle.records.specs.inner.Emits.{bytes_most}
use Rattle.records.proofs.RecsLaws.{append-append}
use Rattle.requestform.specs.Form.{judge_request}
use Rattle.requestform.proofs.RequestLaws.{request-long}
use Rattle.lookups.specs.Lookups.{Lookups, Message, walking}
use Rattle.known.specs.Known.{Known, set_known, known_recs}
use Rattle.reply.specs.declared.Cause.{Cause}
use Rattle.options.specs.Settle.{Settled}
use Rattle.options.specs.Options.{Gathered, gathered, stopped, next, gather}
use Rattle.options.specs.Steps.{Steps, records, absent, refused, steps_in, on_type, some_options, steps_of}
use Rattle.options.specs.Resolve.{unless, resolving_by}
use Rattle.promises.proofs.SmallLaws.{deepest-append, length-encode-append}
use Rattle.promises.proofs.SmallLaws.{Small, small-nil, small-self, small-more, small-append, set-small}
use Rattle.promises.proofs.WidthLaws.{width, width-walk}
use Rattle.promises.proofs.OptionBounds.{SmallSettled, sets, writes as writing, faulty, settle-small}
use Rattle.reply.specs.declared.Refusal.{Refusal}
use Rattle.request.specs.declared.heading.Heading.{Heading}
use Rattle.scope.specs.declared.lookup.LookupScope.{LookupScope}

abbrev pub longest : List RequestOption → ℕ
longest [] = 0
longest (o ∷ os) = max (length o.parts) (longest os)

-- ---- options one after the other
data SmallGathered (k n : ℕ) : Gathered → Type 0 where
  together : {ks : List Known} {x : Recs} → Small k n (append (known_recs ks) x) → SmallGathered k n (gathered ks x)
  halted : {e : Cause} → SmallGathered k n (stopped e)

set-among : {k m n : ℕ} (a : Known) (ks : List Known) (x : Recs) → Small k m a.made → Small k n (append (known_recs ks) x)
    → Small k (m + n) (append (known_recs (set_known a ks)) x)
set-among a ks x u v =
    let d = deepest-append (known_recs ks) x in
    small-more (omega arith) (omega (arith, length-encode-append (known_recs ks) x))
    (small-append (set-small a u ks (omega arith)) (small-self x (omega arith)))

module _ {k n b c : ℕ} where
  next_small : (i : ℕ) (ks : List Known) (x : Recs) {y : Settled} → Small k n (append (known_recs ks) x) → SmallSettled k b y
      → (f : List Known → Recs → Gathered)
      → ((ks : List Known) (x : Recs) → Small k (b + n) (append (known_recs ks) x) → SmallGathered k c (f ks x))
      → SmallGathered k c (next i ks x y f)
  next_small i ks x u (sets {x = a} v) f g = g (set_known a ks) x (set-among a ks x v u)
  next_small i ks x u (writing {x = y} v) f g =
      g ks (append x y) (rw (← append-append) (small-more (omega arith) (omega arith) (small-append u v)))
  next_small i ks x u faulty f g = halted

module _ (L : Lookups) (s r scope : List ℕ) (m : Message) (k c : ℕ) where
  abbrev FromHere : List RequestOption → (bytes : ℕ) → Type 0
  FromHere os b =
      longest os + (most_constants - 1) ≤ k → (n : ℕ) → n + b ≤ c → (i : ℕ) (ks : List Known) (x : Recs)
      → Small k n (append (known_recs ks) x) → SmallGathered k c (gather L s r scope m i ks x os)

  none_left : FromHere [] 0
  none_left l n h i ks x u = together (small-more (omega arith) (omega arith) u)

  gather-small : (w : Walk) → FromHere (options_in r w) (bytes_most (width w))
  unfolding option_in
  gather-small done = none_left
  gather-small cut = none_left
  gather-small (step t a e w) = go (eqb t option_tag) (gather-small w)
    where
      go : (b : Bool) → FromHere (options_in r w) (bytes_most (width w))
          → FromHere (elim b [ true ↦ option_of r a e ∷ options_in r w | false ↦ options_in r w ]) (bytes_most (width (step t a e w)))
      go false rest l n h i ks x u = rest l n (omega arith) i ks x u
      go true rest l n h i ks x u =
          next_small i ks x u (settle-small L s r scope m a e k (omega arith)) _
          (rest (omega arith) (bytes_most (e - a) + n) (omega arith) (i + 1))

-- ---- a request
data SmallSteps (k n : ℕ) : Steps → Type 0 where
  writes : {x : Recs} → Small k n x → SmallSteps k n (records x)
  none : SmallSteps k n absent
  stops : {e : Cause} → SmallSteps k n (refused e)

module _ {k n : ℕ} where
  steps-in : {g : Gathered} → SmallGathered k n g → SmallSteps k n (steps_in g)
  steps-in (together u) = writes u
  steps-in halted = stops

  some-small : (L : Lookups) (s r : List ℕ) (q : Request) (os : List RequestOption)
      → ((m : Message) → SmallGathered k n (gather L s r (text r q.scope) m 0 [] nil q.options))
      → SmallSteps k n (some_options L s r q os)
  some-small L s r q [] u = none
  some-small L s r q (o ∷ os) u = go (L.message (text r q.options_type))
    where
      go : (v : Result LookupScope Refusal) → SmallSteps k n (on_type L s r q v)
      go (Err w) = stops
      go (Ok p) = steps-in (u (record { name = text r q.options_type; place = p }))

module _ (L : Lookups) (s r : List ℕ) where
  -- a level for each part of the longest name but its last, and for each level of a constant
  steps-small : SmallSteps (longest (request_of r).options + (most_constants - 1)) (bytes_most (length r)) (steps_of L s r)
  unfolding steps_of request_of
  steps-small = go (heading_of r)
    where
      go : (h : Option Heading) → SmallSteps (longest (request_with r h).options + (most_constants - 1)) (bytes_most (length r))
          (some_options L s r (request_with r h) (request_with r h).options)
      go None = none
      go (Some h) =
          some-small L s r (request_with r (Some h)) (options_in r (walk r h.options (length r)))
          λ m. gather-small L s r (text r h.scope) m _ (bytes_most (length r)) (walk r h.options (length r)) (omega arith) 0
          (omega (arith, width-walk r h.options (length r))) 0 [] nil small-nil

  pub records-small : (x : Recs) → steps_of L s r ≡ records x
      → Small (longest (request_of r).options + (most_constants - 1)) (bytes_most (length r)) x
  records-small x e = go (steps_of L s r) e steps-small
    where
      go : {k n : ℕ} (y : Steps) → y ≡ records x → SmallSteps k n y → Small k n x
      go (records z) e (writes u) = let q : x ≡ z = cc in rw q u
      go absent e none = never cc
      go (refused w) e stops = never cc

-- ---- what is fine
fine-length : (r : List ℕ) → judge_request r ≡ fine → length r ≤ most_request
fine-length r p = go (ltb most_request (length r)) refl
  where
    go : (b : Bool) → ltb most_request (length r) ≡ b → length r ≤ most_request
    go true l = absurd (refused-fine BeyondLimit (request-long r (ltb-true most_request (length r) l) ∙ p))
    go false l = ltb-false most_request (length r) l

module _ (v : Verdict) (s r : List ℕ) (x : Recs) (e : resolving_by v s r ≡ records x) where
  fine-both : first_fault v (judge_request r) ≡ fine
  unfolding resolving_by
  fine-both = go (first_fault v (judge_request r)) e
    where
      go : (u : Verdict) → unless u (steps_of (walking s) s r) ≡ records x → u ≡ fine
      go (Ok _) e = refl
      go (Err w) e = never cc

  pub resolved-sheet : v ≡ fine
  resolved-sheet = first-fine-front v (judge_request r) fine-both

  pub resolved-fine : judge_request r ≡ fine
  resolved-fine = first-fine-rest v (judge_request r) fine-both

  pub resolved-steps : steps_of (walking s) s r ≡ records x
  unfolding resolving_by
  resolved-steps = sym (ap (λ (u : Verdict). unless u (steps_of (walking s) s r)) fine-both) ∙ e

-- ==== the statements
-- Whatever the bytes of a request, it writes at most seven times as many.
pub resolving-few : (L : Lookups) (s r : List ℕ) (x : Recs) → steps_of L s r ≡ records x → length (encode x) ≤ bytes_most (length r)
resolving-few L s r x e = (records-small L s r x e).few

-- A fine request, which has at most 8,192 bytes, writes at most 65,536.
pub request-few : (L : Lookups) (s r : List ℕ) → judge_request r ≡ fine → (x : Recs) → steps_of L s r ≡ records x → length (encode x) ≤ 65536
request-few L s r p x e = omega (arith, resolving-few L s r x e, fine-length r p)

-- So does every call of `resolve` and of `resolve_tested`, however the sheet is judged.
pub resolve-few : (v : Verdict) (s r : List ℕ) (x : Recs) → resolving_by v s r ≡ records x → length (encode x) ≤ 65536
resolve-few v s r x e = request-few (walking s) s r (resolved-fine v s r x e) x (resolved-steps v s r x e)
