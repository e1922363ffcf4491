-- The test that computes holds of the bytes of scalar values, one after the other, and of no others.
-- Assumes nothing.
use Rattle.std.specs.Prelude.{◌≡◌, refl, true, false, List, [], ◌∷◌, ◌++◌, ℕ, zero, suc, ◌≤◌, ◌<◌, length, drop}
use Rattle.basis.specs.Kit.{sym, ◌∙◌}
use Rattle.basis.proofs.Kit.{arith}
use mathlib.Core.Bool.{true≢false}
use lib.Seq.{drop-append_seam}
use borrow.Author.Tests.{eqb-true}
use Rattle.utf8.specs.Utf8.{utf8, Utf8, none, more, lead_of, utf8_from, is_utf8}
use Rattle.utf8.proofs.Forms.{form-is, form-scalar, form-utf8}
use Rattle.utf8.proofs.Front.{Front, front, front-within, lead-front, lead-some}

utf8-skip : (n : ℕ) (bs : List ℕ) → n ≤ length bs → utf8_from n bs ≡ utf8_from 0 (drop n bs)
unfolding utf8_from
utf8-skip zero bs h = refl
utf8-skip (suc n) [] h = absurd (omega arith)
utf8-skip (suc n) (b ∷ bs) h = utf8-skip n bs (omega arith)

-- where a value stands, the bytes after it decide
pub utf8-step : (bs : List ℕ) (n : ℕ) → Front bs n → utf8_from 0 bs ≡ utf8_from 0 (drop n bs)
unfolding utf8_from
utf8-step bs zero f = refl
utf8-step [] (suc n) f = absurd (omega (arith, front-within f))
utf8-step (b ∷ bs) (suc n) f = simp (utf8_from, lead-front f) (utf8-skip n bs (omega (arith, front-within f)))

pub utf8-not : (bs : List ℕ) → 0 < length bs → lead_of bs ≡ 0 → utf8_from 0 bs ≡ false
unfolding utf8_from
utf8-not [] h e = absurd (omega arith)
utf8-not (b ∷ bs) h e = simp (utf8_from, e)

-- ---- the test and the definition by code points

front-utf8 : {bs : List ℕ} {n : ℕ} → Front bs n → Utf8 (drop n bs) → Utf8 bs
front-utf8 (front {c} {u} f bs) v = rw (form-is f) (more c bs (form-scalar f) (rw (drop-append_seam u bs) at v))

from-sound : (bs : List ℕ) (n : ℕ) → utf8_from n bs ≡ true → Utf8 (drop n bs)
unfolding utf8_from
from-sound [] zero e = none
from-sound [] (suc n) e = absurd (omega (arith, eqb-true (suc n) 0 e))
from-sound (b ∷ bs) (suc n) e = from-sound bs n e
from-sound (b ∷ bs) zero e = go (lead_of (b ∷ bs)) refl e (from-sound bs)
  where
    go : (n : ℕ) → n ≡ lead_of (b ∷ bs) → elim n [ zero ↦ false | suc n ↦ utf8_from n bs ] ≡ true
        → ((n : ℕ) → utf8_from n bs ≡ true → Utf8 (drop n bs)) → Utf8 (b ∷ bs)
    go zero p q rest = absurd (true≢false (sym q))
    go (suc n) p q rest = front-utf8 (lead-some (b ∷ bs) (suc n) p (λ z. omega arith)) (rest n q)

pub utf8-sound : (bs : List ℕ) → is_utf8 bs ≡ true → Utf8 bs
unfolding is_utf8
utf8-sound bs e = from-sound bs 0 e

pub utf8-complete : {bs : List ℕ} → Utf8 bs → is_utf8 bs ≡ true
unfolding is_utf8 utf8_from
utf8-complete none = refl
utf8-complete (more c bs s u) =
    utf8-step (utf8 c ++ bs) (length (utf8 c)) (front (form-utf8 c s) bs) ∙ rw (drop-append_seam (utf8 c) bs) (utf8-complete u)
