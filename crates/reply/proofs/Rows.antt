-- The rows of 01's table: at a refusal that a match has found, and that no two refusals share one.
-- Assumes nothing.
use Rattle.std.specs.Prelude.{◌≡◌, Bool, ◌&&◌, ◌||◌, ℕ, ◌/◌, ◌%◌, ◌<◌, eqb, ltb}
use Rattle.basis.specs.Kit.{sym, ap, ◌∙◌}
use Rattle.basis.proofs.Kit.{eq-eqb}
use mathlib.Core.Path.{subst}
use mathlib.Core.Bool.{not}
use mathlib.Core.Logic.{◌⊎◌, inl, inr}
use lib.Dec.{T, eqb→eq, ltb→lt}
use lib.IntN.{nat_abs}
use lib.Signed.{non_neg}
use mir.Val.{to_z, Fits}
use mir.Syntax.{w32, w64}
use Rattle.reply.specs.declared.Refusal.{Refusal}
use Rattle.reply.specs.declared.Positions.{Positions}
use Rattle.reply.specs.declared.Cause.{Cause}
use Rattle.reply.specs.declared.Answer.{Answer}
use Rattle.reply.specs.Reply.{number, second, positions, bare, refused_for, refused_by}
use Rattle.reply.specs.inner.Table.{code_of}
use Rattle.reply.specs.contracts.Refusal.{the_parts as parts, as_values, the_make as make, the_eta as eta, the_beta as beta}
use Rattle.reply.proofs.Variants.{place_in, many, each, each_at, place-lt, here, place-one}

pub refused-bare : (w : Refusal) (c : Cause) (r : Answer) → c ≡ bare w → r ≡ refused_for c → r ≡ refused_by w
refused-bare w c r e q = q ∙ ap refused_for e

-- ---- the refusals in their order

abbrev pub refusals : ℕ
refusals = many parts

abbrev pub place : Refusal → ℕ
place w = place_in parts (as_values w)

pub place-few : (w : Refusal) → place w < refusals
place-few w = place-lt parts (as_values w)

pub record Placed (i : ℕ) : Type 0 where
  pub refusal : Refusal
  pub is : place refusal ≡ i

pub placed : (i : ℕ) → i < refusals → Placed i
placed i h =
    let k = here parts tt i h in
    record { refusal = make k.choice; is = ap (place_in parts) (beta k.choice) ∙ k.place }

-- a test of each refusal, which antt computes
abbrev pub every : (Refusal → Bool) → Bool
every test = each parts (λ c. test (make c))

pub every-at : (test : Refusal → Bool) → T (every test) → (w : Refusal) → T (test w)
every-at test t w = subst (λ v. T (test v)) (eta w) (each_at parts (λ c. test (make c)) t (as_values w))

-- ---- the number that the enum has for a refusal

-- of the ways that the check makes of a cast, one for each variant
pub either : {A B C : Type 0} → (A → C) → (B → C) → A ⊎ B → C
either f g (inl x) = f x
either f g (inr y) = g y

pub coded : {w v : Refusal} {a k : ℕ} → a ≡ k → w ≡ v → k ≡ code_of v → a ≡ code_of w
coded e q t = e ∙ t ∙ sym (ap code_of q)

-- no code is negative, or too long for a word
module _ (w : Refusal) (a : ℕ) (e : a ≡ code_of w) where
  pub code-kept : nat_abs (to_z w64 a) ≡ code_of w
  code-kept = rw e (eqb→eq _ _ (every-at (λ v. eqb (nat_abs (to_z w64 (code_of v))) (code_of v)) tt w))

  pub code-positive : T (non_neg (to_z w64 a))
  code-positive = rw e (every-at (λ v. non_neg (to_z w64 (code_of v))) tt w)

  pub code-small : Fits w32 (nat_abs (to_z w64 a))
  code-small = rw code-kept record { fits = ltb→lt _ _ (every-at (λ v. ltb (code_of v) 4294967296) tt w) }

pub refused-coded : (c : Cause) (k : ℕ) (p : Positions) → k ≡ code_of c.why → p ≡ positions c.place
    → record { reply = k / 100; second = k % 100; absent = 0; length = 0; option = p.option; part = p.part } ≡ refused_for c
refused-coded c k p e f =
    let n : code_of c.why / 100 ≡ number c.why = eqb→eq _ _ (every-at (λ v. eqb (code_of v / 100) (number v)) tt c.why) in
    let s : code_of c.why % 100 ≡ second c.why = eqb→eq _ _ (every-at (λ v. eqb (code_of v % 100) (second v)) tt c.why) in
    rw (e, n, s, f)

-- ---- no two refusals share number and second word
abbrev apart : Refusal → Refusal → Bool
apart v w = not (eqb (number v) (number w) && eqb (second v) (second w)) || eqb (place v) (place w)

apart-same : (a b c d e f : ℕ) → T (not (eqb a b && eqb c d) || eqb e f) → a ≡ b → c ≡ d → e ≡ f
apart-same a b c d e f t p q = eqb→eq e f (simp (eq-eqb a b p, eq-eqb c d q) at t)

pub row-unique : (v w : Refusal) → number v ≡ number w → second v ≡ second w → v ≡ w
row-unique v w p q =
    let t : T (apart v w) = every-at (apart v) (every-at (λ x. every (apart x)) tt v) w in
    let same = apart-same (number v) (number w) (second v) (second w) (place v) (place w) t p q in
    sym (eta v) ∙ ap make (place-one parts tt (as_values v) (as_values w) same) ∙ eta w

pub ruleset row_laws = (code-kept, code-positive, code-small, refused-coded, refused-bare)
