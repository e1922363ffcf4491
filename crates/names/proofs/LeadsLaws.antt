-- What `leads` comes to, and what it says of a text: that this is the name, a dot, and the rest.
-- Assumes nothing.
use Rattle.std.specs.Prelude.{◌≡◌, refl, Bool, true, false, List, [], ◌∷◌, ◌++◌, ℕ, suc, ◌+◌, ◌-◌, ◌≤◌, ◌<◌, eqb, length, get_or, take, drop}
use Rattle.basis.specs.Kit.{sym, ap, ◌∙◌}
use Rattle.basis.proofs.Kit.{arith, eq-eqb, ne_eqb}
use Rattle.basis.proofs.Never.{never}
use lib.ListN.{length-drop}
use lib.Seq.{get_or-drop}
use borrow.Author.Tests.{eqb-true}
use Rattle.octets.specs.Octets.{part, same_bytes}
use Rattle.path.specs.Path.{dot}
use Rattle.names.specs.inner.Leads.{leads, leads_at}

-- ---- what the code tests
short : (n t : List ℕ) → length t ≤ length n → leads n t ≡ false
unfolding leads
short n [] h = refl
short [] (c ∷ cs) h = absurd (omega arith)
short (b ∷ n) (c ∷ cs) h = go (eqb b c) (short n cs (omega arith))
  where
    go : (x : Bool) {r : Bool} → r ≡ false → elim x [ true ↦ r | false ↦ false ] ≡ false
    go true e = e
    go false e = refl

dotless : (n t : List ℕ) → length n < length t → (get_or t (length n) 0 ≡ dot → ⊥) → leads n t ≡ false
unfolding leads
dotless n [] h k = refl
dotless [] (c ∷ cs) h k = ne_eqb c dot k
dotless (b ∷ n) (c ∷ cs) h k = go (eqb b c) (dotless n cs (omega arith) k)
  where
    go : (x : Bool) {r : Bool} → r ≡ false → elim x [ true ↦ r | false ↦ false ] ≡ false
    go true e = e
    go false e = refl

dotted : (n t : List ℕ) → length n < length t → get_or t (length n) 0 ≡ dot → leads n t ≡ same_bytes n (take (length n) t)
unfolding leads same_bytes
dotted n [] h k = absurd (omega arith)
dotted [] (c ∷ cs) h k = eq-eqb c dot k
dotted (b ∷ n) (c ∷ cs) h k = ap (λ (r : Bool). elim (eqb b c) [ true ↦ r | false ↦ false ]) (dotted n cs (omega arith) k)

module _ (t : List ℕ) (at : ℕ) (n : List ℕ) (h : at ≤ length t) where
  pub leads-short : length t - at ≤ length n → false ≡ leads_at t at n
  leads-short k = sym (short n (drop at t) (rw (length-drop at t) k))

  module _ (k : length n < length t - at) where
    longer : length n < length (drop at t)
    longer = rw (length-drop at t) k

    pub leads-dotless : (get_or t (at + length n) 0 ≡ dot → ⊥) → false ≡ leads_at t at n
    leads-dotless g = sym (dotless n (drop at t) longer λ e. g (sym (get_or-drop at t (length n) 0) ∙ e))

    pub leads-dotted : get_or t (at + length n) 0 ≡ dot → (r : Bool) → r ≡ same_bytes n (part t at (at + length n)) → r ≡ leads_at t at n
    leads-dotted g r q =
        let z : at + length n - at ≡ length n = omega arith in
        q ∙ rw z (sym (dotted n (drop at t) longer (get_or-drop at t (length n) 0 ∙ g)))

pub ruleset leads_laws = (leads-short, leads-dotless, leads-dotted)

-- ==== the statements
-- A text that a name leads is that name, a dot, and the rest;
pub leads-text : (n t : List ℕ) → leads n t ≡ true → t ≡ n ++ dot ∷ drop (suc (length n)) t
unfolding leads
leads-text n [] e = never cc
leads-text [] (c ∷ cs) e = rw (eqb-true c dot e) refl
leads-text (b ∷ n) (c ∷ cs) e = go (eqb b c) refl e (leads-text n cs)
  where
    go : (x : Bool) → eqb b c ≡ x → elim x [ true ↦ leads n cs | false ↦ false ] ≡ true
        → (leads n cs ≡ true → cs ≡ n ++ dot ∷ drop (suc (length n)) cs) → c ∷ cs ≡ (b ∷ n) ++ dot ∷ drop (suc (length (b ∷ n))) (c ∷ cs)
    go true q e k = rw (eqb-true b c q) (ap (λ x. c ∷ x) (k e))
    go false q e k = never cc

-- and whatever is so is led by it.
pub text-leads : (n rest : List ℕ) → leads n (n ++ dot ∷ rest) ≡ true
unfolding leads
text-leads [] rest = refl
text-leads (b ∷ n) rest = rw (leads, eq-eqb b b refl) (text-leads n rest)
