-- Keys in lent memory: one noted, and those before it.
-- Assumes nothing.
use Rattle.std.specs.Prelude.{◌≡◌, refl, Bool, true, false, List, [], ◌∷◌, ℕ, zero, suc, ◌+◌, ◌*◌, ◌≤◌, ◌<◌, eqb, get_or, length}
use Rattle.basis.specs.Kit.{ap, ◌∙◌, sets}
use Rattle.basis.specs.First.{only_if}
use Rattle.basis.proofs.Kit.{arith, add-one}
use mathlib.Core.Bool.{not}
use lib.ListN.{set, length-set}
use lib.Seq.{get_or-set_same, get_or-set_other}
use mir.Val.{bool_byte}
use Rattle.following.specs.inner.Keys.{Key, key_words, key_at, keys_from}

-- ---- note_key
pub note-room : (ks : List ℕ) (i p : ℕ) → i * key_words + key_words ≤ length ks → i * key_words + 1 < length (set ks (i * key_words) p)
note-room ks i p h = rw length-set (omega arith)

pub note-noted : (ks : List ℕ) (i p : ℕ) (b v : Bool) → b ≡ v
    → set (set ks (i * key_words) p) (i * key_words + 1) (bool_byte b) ≡ sets ks (i * key_words) (p ∷ only_if v 1 0 ∷ [])
note-noted ks i p b v e = rw (e, add-one) (ap (set (set ks (i * key_words) p) (suc (i * key_words))) (go v))
  where
    go : (v : Bool) → bool_byte v ≡ only_if v 1 0
    go true = refl
    go false = refl

pub ruleset note_laws = (note-room, note-noted)

-- ---- the key that was noted, and the others
flag : (b : Bool) → not (eqb (only_if b 1 0) 0) ≡ b
flag true = refl
flag false = refl

module _ (ws : List ℕ) (k p : ℕ) (b : Bool) where
  abbrev noted : List ℕ
  noted = sets ws (k * key_words) (p ∷ only_if b 1 0 ∷ [])

  noted-place : k * key_words + key_words ≤ length ws → get_or noted (k * key_words) 0 ≡ p
  noted-place h =
      get_or-set_other (set ws (k * key_words) p) (suc (k * key_words)) (k * key_words) (only_if b 1 0) 0 (λ e. omega arith)
      ∙ get_or-set_same ws (k * key_words) p 0 (omega arith)

  noted-flag : k * key_words + key_words ≤ length ws → get_or noted (k * key_words + 1) 0 ≡ only_if b 1 0
  noted-flag h =
      rw add-one (get_or-set_same (set ws (k * key_words) p) (suc (k * key_words)) (only_if b 1 0) 0 (rw length-set (omega arith)))

  pub key-noted : k * key_words + key_words ≤ length ws → key_at noted k ≡ record { place = p; joins = b }
  unfolding key_at
  key-noted h = simp (noted-place h, noted-flag h, flag b)

  noted-before : (i : ℕ) → i < k * key_words → get_or noted i 0 ≡ get_or ws i 0
  noted-before i h =
      get_or-set_other (set ws (k * key_words) p) (suc (k * key_words)) i (only_if b 1 0) 0 (λ e. omega arith)
      ∙ get_or-set_other ws (k * key_words) i p 0 (λ e. omega arith)

  key-before : (i : ℕ) → i < k → key_at noted i ≡ key_at ws i
  unfolding key_at
  key-before i h = simp (noted-before (i * key_words) (omega arith), noted-before (i * key_words + 1) (omega arith))

  pub keys-before : (i n : ℕ) → i + n ≤ k → keys_from noted i n ≡ keys_from ws i n
  keys-before i zero h = refl
  keys-before i (suc n) h =
      ap (λ (y : Key). y ∷ keys_from noted (suc i) n) (key-before i (omega arith))
      ∙ ap (λ (ys : List Key). key_at ws i ∷ ys) (keys-before (suc i) n (omega arith))

-- ---- the same keys, and one less of them
module _ (ws ws' : List ℕ) where
  pub keys-fewer : (i n : ℕ) → keys_from ws i (suc n) ≡ keys_from ws' i (suc n) → keys_from ws i n ≡ keys_from ws' i n
  keys-fewer i zero e = refl
  keys-fewer i (suc n) e =
      let h : key_at ws i ≡ key_at ws' i = cc in
      let t : keys_from ws (suc i) (suc n) ≡ keys_from ws' (suc i) (suc n) = cc in
      ap (λ (y : Key). y ∷ keys_from ws (suc i) n) h ∙ ap (λ (ys : List Key). key_at ws' i ∷ ys) (keys-fewer (suc i) n t)

  pub keys-last : (i n k : ℕ) → i + n ≡ k → keys_from ws i (suc n) ≡ keys_from ws' i (suc n) → key_at ws k ≡ key_at ws' k
  keys-last i zero k h e = let z : key_at ws i ≡ key_at ws' i = cc in let q : i ≡ k = omega arith in rw q at z
  keys-last i (suc n) k h e = keys-last (suc i) n k (omega arith) cc
