-- Identifiers in a text: an identifier holds no dot.
-- Assumes nothing.
use Rattle.std.specs.Prelude.{◌≡◌, refl, Bool, true, false, ◌&&◌, ◌||◌, List, [], ◌∷◌, ℕ, eqb, leb, length}
use Rattle.basis.specs.Kit.{ap}
use mathlib.Core.Path.{subst}
use mathlib.Core.Bool.{and-eq-true_iff, false≢true}
use borrow.Author.Tests.{eqb-true}
use Rattle.limits.specs.Figures.{most_ident}
use Rattle.ident.specs.Ident.{is_letter, is_digit, all_word, is_ident}
use Rattle.path.specs.Path.{dot}
use Rattle.path.specs.inner.Places.{until_dot}

-- a dot is no letter and no digit
word-dotless : (c : ℕ) (cs : List ℕ) → (is_letter c || is_digit c) ≡ true → until_dot cs ≡ cs → until_dot (c ∷ cs) ≡ c ∷ cs
unfolding is_letter is_digit until_dot
word-dotless c cs h e = go (eqb c dot) refl
  where
    go : (b : Bool) → eqb c dot ≡ b → elim b [ true ↦ [] | false ↦ c ∷ until_dot cs ] ≡ c ∷ cs
    go true p = absurd (false≢true (subst (λ (x : ℕ). (is_letter x || is_digit x) ≡ true) (eqb-true c dot p) h))
    go false p = ap (λ (r : List ℕ). c ∷ r) e

words-dotless : (cs : List ℕ) → all_word cs ≡ true → until_dot cs ≡ cs
unfolding all_word until_dot
words-dotless [] h = refl
words-dotless (c ∷ cs) h =
    let k = (and-eq-true_iff (is_letter c || is_digit c) (all_word cs)).0 h in
    word-dotless c cs k.0 (words-dotless cs k.1)

letter-word : (l d : Bool) → l ≡ true → (l || d) ≡ true
letter-word true d h = refl
letter-word false d h = absurd (false≢true h)

pub ident-dotless : (n : List ℕ) → is_ident n ≡ true → until_dot n ≡ n
unfolding is_ident
ident-dotless [] h = absurd (false≢true h)
ident-dotless (c ∷ cs) h =
    let k = (and-eq-true_iff (leb (length (c ∷ cs)) most_ident && is_letter c) (all_word cs)).0 h in
    let l = (and-eq-true_iff (leb (length (c ∷ cs)) most_ident) (is_letter c)).0 k.0 in
    word-dotless c cs (letter-word (is_letter c) (is_digit c) l.1) (words-dotless cs k.1)
