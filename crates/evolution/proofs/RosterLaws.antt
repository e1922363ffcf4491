-- The laws of a loop over all declarations of a sheet, one after the other, that looks for the first reason.
--
--   Asking s f before room i <-> the declarations from the i-th on have the first reason of all, and the room holds any full name of the sheet
--
-- Assumes nothing.
use Rattle.std.specs.Prelude.{◌≡◌, refl, List, [], ◌∷◌, ℕ, zero, suc, ◌+◌, ◌-◌, ◌*◌, ◌^◌, ◌≤◌, ◌<◌, length, take, drop, Option, Some, None, Result, Ok, Err}
use Rattle.basis.specs.Kit.{sym, ap, ◌∙◌}
use Rattle.basis.proofs.Kit.{arith, w64, Fits}
use mathlib.Core.Path.{subst, ap₂}
use lib.ListN.{length-take}
use Rattle.basis.proofs.Never.{never}
use Rattle.basis.proofs.FirstLaws.{Every, none_of, one_of}
use Rattle.names.specs.Names.{Named, every_declared}
use Rattle.names.proofs.StandsLaws.{Stands, all-stand}
use Rattle.names.proofs.FewLaws.{declared-few}
use Rattle.reasons.specs.declared.Reason.{Reason}
use Rattle.reasons.specs.Reasons.{also, reasons_from}
use Rattle.roster.specs.declared.Nth.{Nth}
use Rattle.roster.specs.inner.Nth.{borne, shown, nth, name_or, Finds}
use Rattle.evolution.specs.declared.first.Question.{Question}
use Rattle.evolution.specs.inner.Bearers.{BearerLies, bearer_reason, reason_of, first_reason}
use Rattle.evolution.proofs.LiesLaws.{stands-lies}
use Rattle.evolution.proofs.FieldLaws.{also-stays}
use Rattle.evolution.proofs.EitherLaws.{reason-stands}

-- the i-th of a list, and what follows it
record Ith (P : Named → Type 0) (bs : List Named) (i : ℕ) (q : List ℕ) (x : Nth) : Type 0 where
  one : Named
  holds : P one
  is : x.bearer ≡ shown one.what
  size : x.size ≡ length one.name
  name : name_or q bs i ≡ one.name
  rest : drop i bs ≡ one ∷ drop (suc i) bs
  within : i < length bs

ith : {P : Named → Type 0} {bs : List Named} → Every P bs → (i : ℕ) (q : List ℕ) (x : Nth) → Ok x ≡ nth bs i → Ith P bs i q x
ith none_of i q x e = never cc
ith (one_of {x = b} {xs = bs} h t) zero q x e =
    let u : x ≡ borne (shown b.what) (length b.name) = cc in
    record { one = b; holds = h; is = rw u refl; size = rw u refl; name = refl; rest = refl; within = omega arith }
ith (one_of {x = b} {xs = bs} h t) (suc i) q x e =
    let r = ith t i q x e in
    record {
      one = r.one;
      holds = r.holds;
      is = r.is;
      size = r.size;
      name = r.name;
      rest = r.rest;
      within = let w = r.within in omega arith;
    }

beyond-end : (bs : List Named) (i k : ℕ) → Err k ≡ nth bs i → drop i bs ≡ []
beyond-end [] zero k e = refl
beyond-end [] (suc i) k e = refl
beyond-end (b ∷ bs) zero k e = never cc
beyond-end (b ∷ bs) (suc i) k e = beyond-end bs i k e

-- ---- the loop
pub record Asking (s : List ℕ) (f : ℕ → Named → Option Reason) (before room : List ℕ) (i : ℕ) : Type 0 where
  pub left : reasons_from f 0 (every_declared s) ≡ reasons_from f i (drop i (every_declared s))
  pub fits : length s ≤ length room
  pub sized : length room ≡ length before

pub asking-start : (s : List ℕ) (f : ℕ → Named → Option Reason) (room : List ℕ) → length s ≤ length room → Asking s f room room 0
asking-start s f room h = record { left = refl; fits = h; sized = refl }

pub asking-room : (s : List ℕ) (f : ℕ → Named → Option Reason) (first room : List ℕ) (i : ℕ) → Asking s f first room i → length s ≤ length room
asking-room s f first room i k = k.fits

module _ (s : List ℕ) (f : ℕ → Named → Option Reason) (i : ℕ) (first before after : List ℕ) (k : Asking s f first before i) (r : Result Nth ℕ)
    (q : Finds (every_declared s) i 0 before after r) where
  pub asking-end : (n : ℕ) → r ≡ Err n → None ≡ reasons_from f 0 (every_declared s)
  asking-end n g = sym (k.left ∙ ap (reasons_from f i) (beyond-end (every_declared s) i n (sym g ∙ q.is)))

  module _ (x : Nth) (g : r ≡ Ok x) where
    found : Ith (λ b. Stands s b.what) (every_declared s) i (take 0 before) x
    found = ith (all-stand s) i (take 0 before) x (sym g ∙ q.is)

    pub asking-lies : BearerLies s x.bearer
    asking-lies = subst (BearerLies s) (sym found.is) (stands-lies s found.one.what found.holds)

    named : take x.size after ≡ found.one.name
    named = ap (λ z. take z after) (found.size ∙ ap length (sym found.name)) ∙ q.name ∙ found.name

    pub asking-count : x.size ≡ length (take x.size after)
    asking-count = found.size ∙ ap length (sym named)

    pub asking-size : x.size ≤ length after
    asking-size = omega (arith, length-take x.size after, asking-count)

    pub asking-fits : length s * 1 < 2 ^ 63 → Fits w64 (i + 1)
    asking-fits h = omega (arith, found.within, declared-few s)

    pub asking-less : length (every_declared s) - (i + 1) < length (every_declared s) - i
    asking-less = omega (arith, found.within)

-- ---- what the i-th has, as the code looks at it, is what the list of all has of it
module _ (q : Question) (s t : List ℕ) (i : ℕ) (first before after : List ℕ) (k : Asking s (reason_of q s t) first before i) (r : Result Nth ℕ)
    (h : Finds (every_declared s) i 0 before after r) (x : Nth) (g : r ≡ Ok x) (u : Option Reason)
    (p : u ≡ bearer_reason q s t (take x.size after) i x.bearer) where
  abbrev it : Ith (λ b. Stands s b.what) (every_declared s) i (take 0 before) x
  it = found s (reason_of q s t) i first before after k r h x g

  reason-is : u ≡ reason_of q s t i it.one
  reason-is =
      p ∙ ap₂ (λ y b. bearer_reason q s t y i b) (named s (reason_of q s t) i first before after k r h x g) it.is
      ∙ reason-stands s t it.one.name i q it.one.what it.holds

  split : reasons_from (reason_of q s t) 0 (every_declared s) ≡ also u (reasons_from (reason_of q s t) (suc i) (drop (suc i) (every_declared s)))
  split = k.left ∙ ap (reasons_from (reason_of q s t) i) it.rest ∙ rw reason-is refl

  pub reason-hit : (w : Reason) → u ≡ Some w → Some w ≡ first_reason q s t
  reason-hit w e = sym e ∙ sym (split ∙ also-stays u w e _)

  pub reason-next : u ≡ None → Asking s (reason_of q s t) first after (i + 1)
  reason-next e =
      let z : i + 1 ≡ suc i = omega arith in
      record { left = rw z (split ∙ rw e refl); fits = rw h.sized k.fits; sized = h.sized ∙ k.sized }

pub ruleset first_reason_laws = (asking-start, asking-room, asking-end, asking-lies, asking-count, asking-size, asking-fits, asking-less, reason-hit, reason-next)
