-- What `lead_of` finds: the bytes of a scalar value at the front of a list.
-- Assumes nothing.
use Rattle.std.specs.Prelude.{◌≡◌, refl, Bool, true, false, ◌&&◌, List, ◌++◌, ℕ, ◌≤◌, length, take, drop}
use Rattle.basis.specs.Kit.{sym, ◌∙◌}
use Rattle.basis.proofs.Kit.{arith}
use mathlib.Core.Bool.{true≢false}
use mathlib.Core.Logic.{◌⊎◌, inl, inr, ⊎_elim}
use lib.ListN.{take-append-drop, length-append}
use lib.Seq.{take-append_seam}
use Rattle.octets.specs.Octets.{same_bytes}
use Rattle.utf8.specs.Utf8.{is_scalar, utf8, point_of, stands, lead_of}
use Rattle.octets.proofs.SameBytes.{same_refl, same-sound}
use Rattle.utf8.proofs.Forms.{Form, form-utf8, form-is, form-scalar, form-point}

-- a value of n bytes stands at the front
pub data Front : List ℕ → ℕ → Type 0 where
  front : {c : ℕ} {u : List ℕ} → Form c u → (bs : List ℕ) → Front (u ++ bs) (length u)

pub front-within : {bs : List ℕ} {n : ℕ} → Front bs n → n ≤ length bs
front-within (front {u = u} f bs) = omega (arith, length-append u bs)

pub lead-front : {bs : List ℕ} {n : ℕ} → Front bs n → lead_of bs ≡ n
unfolding lead_of stands
lead-front (front f bs) = simp (lead_of, stands, form-point f bs, form-scalar f, ← form-is f, take-append_seam, same_refl)

module _ (bs : List ℕ) where
  stood : (c : ℕ) → stands c bs ≡ true → Front bs (length (utf8 c))
  unfolding stands
  stood c e = go (is_scalar c) refl e
    where
      go : (t : Bool) → is_scalar c ≡ t → (t && same_bytes (take (length (utf8 c)) bs) (utf8 c)) ≡ true → Front bs (length (utf8 c))
      go true p q =
          let whole = rw (same-sound _ _ q) at (take-append-drop (length (utf8 c)) bs) in
          rw whole at (front (form-utf8 c p) (drop (length (utf8 c)) bs))
      go false p q = absurd (true≢false (sym q))

  lead-or : (0 ≡ lead_of bs) ⊎ Front bs (lead_of bs)
  unfolding lead_of
  lead-or = go (stands (point_of bs) bs) refl
    where
      go : (t : Bool) → stands (point_of bs) bs ≡ t → (0 ≡ lead_of bs) ⊎ Front bs (lead_of bs)
      go true e = inr (simp (lead_of, e) (stood (point_of bs) e))
      go false e = inl (simp (lead_of, e))

  pub lead-none : ((n : ℕ) → Front bs n → ⊥) → 0 ≡ lead_of bs
  lead-none h = ⊎_elim (λ e. e) (λ f. absurd (h _ f)) lead-or

  pub lead-some : (n : ℕ) → n ≡ lead_of bs → (n ≡ 0 → ⊥) → Front bs n
  lead-some n e h = ⊎_elim (λ z. absurd (h (e ∙ sym z))) (λ f. rw e f) lead-or
