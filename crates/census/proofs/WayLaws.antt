-- How a scope stands to a message, by their full names, and that the code's ways say so.
--
--   Stands m f w <-> the scope before whose items' names f stands in their full names stands w to the message m
--    Meets m n w <-> the message of the full name n stands w to the message m
--        is_own w <=> the scope is the message itself
--
-- Assumes nothing.
use Rattle.std.specs.Prelude.{◌≡◌, refl, Bool, true, false, List, [], ◌∷◌, ◌++◌, ℕ, suc, ◌+◌, length, drop}
use Rattle.basis.specs.Kit.{sym, ap, ◌∙◌}
use Rattle.basis.specs.First.{only_if}
use Rattle.basis.proofs.Kit.{arith}
use Rattle.basis.proofs.Never.{never}
use mathlib.Core.List.{append_assoc, append_cancel_left}
use lib.ListN.{length-append}
use lib.Seq.{drop-append_seam}
use Rattle.octets.specs.Octets.{same_bytes}
use Rattle.octets.proofs.SameBytes.{same_refl, same-sound}
use Rattle.path.specs.Path.{dot}
use Rattle.names.specs.Names.{inside, file_front}
use Rattle.names.specs.inner.Leads.{leads}
use Rattle.names.proofs.LeadsLaws.{leads-text, text-leads}
use Rattle.likeness.specs.declared.Way.{Way}
use Rattle.likeness.specs.declared.Way.TheVariants.{Own, Within, Off}
use Rattle.census.specs.inner.Census.{onward, file_way}

pub data Stands (m f : List ℕ) : Way → Type 0 where
  stands-own : f ≡ inside m → Stands m f Own
  stands-within : (at : ℕ) (rest : List ℕ) → at ≡ length f → m ≡ f ++ rest → Stands m f (Within at)
  stands-off : ((rest : List ℕ) → m ≡ f ++ rest → ⊥) → Stands m f Off

data Meets (m n : List ℕ) : Way → Type 0 where
  meets-own : m ≡ n → Meets m n Own
  meets-within : (at : ℕ) (rest : List ℕ) → at ≡ length (inside n) → m ≡ inside n ++ rest → Meets m n (Within at)
  meets-off : (m ≡ n → ⊥) → ((rest : List ℕ) → m ≡ inside n ++ rest → ⊥) → Meets m n Off

abbrev pub is_own : Way → Bool
is_own Own = true
is_own (Within at) = false
is_own Off = false

-- ---- what a message's way says of what it holds, and of itself
meets-stands : (m n : List ℕ) {w : Way} → Meets m n w → Stands m (inside n) w
meets-stands m n (meets-own e) = stands-own (rw e refl)
meets-stands m n (meets-within at rest h e) = stands-within at rest h e
meets-stands m n (meets-off k h) = stands-off h

not_same : (m n : List ℕ) → (m ≡ n → ⊥) → same_bytes m n ≡ false
not_same m n k = go (same_bytes m n) refl
  where
    go : (b : Bool) → same_bytes m n ≡ b → b ≡ false
    go true q = absurd (k (same-sound m n q))
    go false q = refl

meets-same : (m n : List ℕ) {w : Way} → Meets m n w → same_bytes m n ≡ is_own w
meets-same m n (meets-own e) = rw e (same_refl n)
meets-same m n (meets-within at rest h e) =
    not_same m n λ q.
    let x : length m ≡ length (inside n ++ rest) = ap length e in
    let y : length m ≡ length n = ap length q in
    omega (arith, x, y, length-append (inside n) rest, length-append n (dot ∷ []))
meets-same m n (meets-off k h) = not_same m n k

-- ---- a message of a scope
module _ (m f n : List ℕ) where
  longer : (rest : List ℕ) → inside (f ++ n) ++ rest ≡ f ++ (n ++ dot ∷ rest)
  longer rest = simp append_assoc

  -- where nothing of the message stands behind the front
  beyond : ((rest : List ℕ) → m ≡ f ++ rest → ⊥) → Meets m (f ++ n) Off
  beyond k = meets-off (k n) λ rest q. k (n ++ dot ∷ rest) (q ∙ longer rest)

  own-short : f ≡ inside m → (rest : List ℕ) → m ≡ f ++ rest → ⊥
  own-short e rest q =
      let x : length m ≡ length (f ++ rest) = ap length q in
      let y : length f ≡ length (inside m) = ap length e in
      omega (arith, x, y, length-append f rest, length-append m (dot ∷ []))

  module _ (rest : List ℕ) (e : m ≡ f ++ rest) where
    within-own : rest ≡ n → Meets m (f ++ n) Own
    within-own q = meets-own (rw (e, q))

    within_on : leads n rest ≡ true → Meets m (f ++ n) (Within (suc (length f + length n)))
    within_on q =
        meets-within (suc (length f + length n)) (drop (suc (length n)) rest)
        (omega (arith, length-append (f ++ n) (dot ∷ []), length-append f n))
        (e ∙ ap (λ x. f ++ x) (leads-text n rest q) ∙ sym (longer (drop (suc (length n)) rest)))

    within-off : same_bytes rest n ≡ false → leads n rest ≡ false → Meets m (f ++ n) Off
    within-off p q =
        meets-off
        (λ h. let z : rest ≡ n = append_cancel_left f rest n (sym e ∙ h) in
        let y : same_bytes rest n ≡ true = rw z (same_refl n) in
        never cc)
        λ r h. let z : rest ≡ n ++ dot ∷ r = append_cancel_left f rest (n ++ dot ∷ r) (sym e ∙ h ∙ longer r) in
        let y : leads n rest ≡ true = rw z (text-leads n r) in
        never cc

    within-cases : (b : Bool) → same_bytes rest n ≡ b → (b' : Bool) → leads n rest ≡ b'
        → Meets m (f ++ n) (only_if b Own (only_if b' (Within (suc (length f + length n))) Off))
    within-cases true p b' q = within-own (same-sound rest n p)
    within-cases false p true q = within_on q
    within-cases false p false q = within-off p q

  onward-meets : {w : Way} → Stands m f w → Meets m (f ++ n) (onward m w n)
  unfolding onward
  onward-meets (stands-own e) = beyond (own-short e)
  onward-meets (stands-within at rest h e) =
      let z : drop at m ≡ rest = rw (h, e) (drop-append_seam f rest) in
      rw (z, h) (within-cases rest e (same_bytes rest n) refl (leads n rest) refl)
  onward-meets (stands-off k) = beyond k

  module _ (w : Way) (k : Stands m f w) where
    pub onward-stands : Stands m (inside (f ++ n)) (onward m w n)
    onward-stands = meets-stands m (f ++ n) (onward-meets k)

    pub onward-same : same_bytes m (f ++ n) ≡ is_own (onward m w n)
    onward-same = meets-same m (f ++ n) (onward-meets k)

-- ---- a file
pub file-stands : (m name : List ℕ) → Stands m (file_front name) (file_way m name)
unfolding file_way
file-stands m [] = stands-within 0 m refl refl
file-stands m (c ∷ cs) = go (leads (c ∷ cs) m) refl
  where
    led : leads (c ∷ cs) m ≡ true → m ≡ inside (c ∷ cs) ++ drop (suc (length (c ∷ cs))) m
    led q = leads-text (c ∷ cs) m q ∙ simp append_assoc

    go : (b : Bool) → leads (c ∷ cs) m ≡ b → Stands m (inside (c ∷ cs)) (only_if b (Within (suc (length (c ∷ cs)))) Off)
    go true q =
        stands-within (suc (length (c ∷ cs))) (drop (suc (length (c ∷ cs))) m) (omega (arith, length-append (c ∷ cs) (dot ∷ []))) (led q)
    go false q =
        stands-off λ rest e.
        let z : m ≡ (c ∷ cs) ++ dot ∷ rest = e ∙ simp append_assoc in
        let y : leads (c ∷ cs) m ≡ true = rw z (text-leads (c ∷ cs) rest) in
        never cc

pub file-other : (m name : List ℕ) → is_own (file_way m name) ≡ false
unfolding file_way
file-other m [] = refl
file-other m (c ∷ cs) = go (leads (c ∷ cs) m)
  where
    go : (b : Bool) → is_own (only_if b (Within (suc (length (c ∷ cs)))) Off) ≡ false
    go true = refl
    go false = refl
