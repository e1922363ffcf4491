-- The ways through the functions that tell how a scope stands to a full name.
-- Assumes nothing.
use Rattle.std.specs.Prelude.{◌≡◌, refl, Bool, true, false, List, [], ◌∷◌, ◌++◌, ℕ, suc, ◌+◌, ◌-◌, ◌≤◌, length, drop}
use Rattle.basis.specs.Kit.{sym, ap, ◌∙◌}
use Rattle.basis.proofs.Kit.{arith, w64, Fits}
use mir.Facts.{Fits-le}
use lib.ListN.{length-append, length-drop}
use lib.Seq.{take_all}
use Rattle.octets.specs.Octets.{part, same_bytes}
use Rattle.path.specs.Path.{dot}
use Rattle.names.specs.inner.Leads.{leads_at}
use Rattle.names.proofs.LeadsLaws.{leads-text}
use Rattle.likeness.specs.declared.Way.{Way}
use Rattle.likeness.specs.declared.Way.TheVariants.{Own, Within, Off}
use Rattle.census.specs.inner.Census.{Reaches, reaches-own, reaches-within, reaches-off, onward, file_way}

-- a name that leads the rest of a text ends within it
module _ (m : List ℕ) (at : ℕ) (n : List ℕ) (h : at ≤ length m) (b : Bool) (q : b ≡ leads_at m at n) (p : b ≡ true) where
  leads-ends : at + length n + 1 ≤ length m
  leads-ends =
      let e : drop at m ≡ n ++ dot ∷ drop (suc (length n)) (drop at m) = leads-text n (drop at m) (sym q ∙ p) in
      let x : length (drop at m) ≡ length (n ++ dot ∷ drop (suc (length n)) (drop at m)) = ap length e in
      omega (arith, x, length-drop at m, length-append n (dot ∷ drop (suc (length n)) (drop at m)))

  pub leads-place : Fits w64 (length m) → Fits w64 (at + length n)
  leads-place = Fits-le (omega (arith, leads-ends))

  pub leads-next : Fits w64 (length m) → Fits w64 (at + length n + 1)
  leads-next = Fits-le leads-ends

  pub leads_reaches : Reaches m (Within (at + length n + 1))
  leads_reaches = reaches-within (at + length n + 1) leads-ends

-- ---- onward, in a scope in which the full name goes on
rest_all : (m : List ℕ) (at : ℕ) → part m at (length m) ≡ drop at m
rest_all m at = take_all (length m - at) (drop at m) (omega (arith, length-drop at m))

module _ (m : List ℕ) (at : ℕ) (n : List ℕ) (b : Bool) (q : b ≡ same_bytes (part m at (length m)) n) where
  rest-same : same_bytes (drop at m) n ≡ b
  rest-same = sym (rw (rest_all m at) at q)

  pub within-own : b ≡ true → Own ≡ onward m (Within at) n
  unfolding onward
  within-own p = rw (rest-same, p)

  module _ (p : b ≡ false) (c : Bool) (u : c ≡ leads_at m at n) where
    pub within_on : c ≡ true → Within (at + length n + 1) ≡ onward m (Within at) n
    unfolding onward
    within_on v = rw (rest-same, p, ← u, v) (ap Within (omega arith))

    pub within-off : c ≡ false → Off ≡ onward m (Within at) n
    unfolding onward
    within-off v = rw (rest-same, p, ← u, v)

-- ---- onward
pub reaches-place : (m : List ℕ) (w : Way) → Reaches m w → (at : ℕ) → w ≡ Within at → at ≤ length m
reaches-place m w k at e = go (rw e at k)
  where
    go : Reaches m (Within at) → at ≤ length m
    go (reaches-within _ h) = h

module _ (m : List ℕ) (w : Way) (n : List ℕ) where
  pub onward-own : w ≡ Own → Off ≡ onward m w n
  unfolding onward
  onward-own h = rw h

  pub onward-off : w ≡ Off → Off ≡ onward m w n
  unfolding onward
  onward-off h = rw h

  pub onward-within : (at : ℕ) → w ≡ Within at → (r : Way) → r ≡ onward m (Within at) n → r ≡ onward m w n
  onward-within at h r q = rw h q

pub ruleset onward_laws = (
  reaches-place,
  onward-own,
  onward-off,
  onward-within,
  within-own,
  within_on,
  within-off,
  leads-place,
  leads-next,
  leads_reaches,
  reaches-own,
  reaches-off,
)

-- ---- file_way
module _ (m : List ℕ) where
  pub file-way-empty : (n : List ℕ) → length n ≡ 0 → Within 0 ≡ file_way m n
  unfolding file_way
  file-way-empty [] h = refl
  file-way-empty (c ∷ cs) h = absurd (omega arith)

  pub file-way-led : (n : List ℕ) → (length n ≡ 0 → ⊥) → (b : Bool) → b ≡ leads_at m 0 n → b ≡ true → Within (length n + 1) ≡ file_way m n
  unfolding file_way
  file-way-led [] h b q p = absurd (h refl)
  file-way-led (c ∷ cs) h b q p = rw (← q, p) (ap Within (omega arith))

  pub file-way-off : (n : List ℕ) → (length n ≡ 0 → ⊥) → (b : Bool) → b ≡ leads_at m 0 n → b ≡ false → Off ≡ file_way m n
  unfolding file_way
  file-way-off [] h b q p = absurd (h refl)
  file-way-off (c ∷ cs) h b q p = rw (← q, p)

  pub reaches-start : Reaches m (Within 0)
  reaches-start = reaches-within 0 (omega arith)

  module _ (n : List ℕ) (b : Bool) (q : b ≡ leads_at m 0 n) (p : b ≡ true) where
    pub file-way-next : Fits w64 (length m) → Fits w64 (length n + 1)
    file-way-next = Fits-le (omega (arith, leads-ends m 0 n (omega arith) b q p))

    pub file-way-reaches : Reaches m (Within (length n + 1))
    file-way-reaches = reaches-within (length n + 1) (omega (arith, leads-ends m 0 n (omega arith) b q p))

pub ruleset file_way_laws = (file-way-empty, file-way-led, file-way-off, reaches-start, file-way-next, file-way-reaches, reaches-off)
