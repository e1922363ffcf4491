-- A text byte by byte, each a dot or another byte: the laws of its pieces between the dots that go by the bytes.
-- Assumes nothing.
use Rattle.std.specs.Prelude.{◌≡◌, refl, List, [], ◌∷◌, ◌++◌, ℕ, suc, ◌≤◌, ◌<◌, length, get_or, take, drop}
use Rattle.basis.specs.Kit.{sym, ap, ◌∙◌}
use Rattle.basis.proofs.Kit.{arith, ne_eqb}
use mathlib.Core.Path.{subst}
use native.Mathlib.Decide.{ℕ_discrete, dec_lt}
use Rattle.path.specs.Path.{Name, Path, dot, on_first, split, spell}
use Rattle.path.specs.inner.Places.{until_dot}

pub data Text : List ℕ → Type 0 where
  ends : Text []
  dotted : {cs : List ℕ} → Text cs → Text (dot ∷ cs)
  other : {c : ℕ} {cs : List ℕ} → (c ≡ dot → ⊥) → Text cs → Text (c ∷ cs)

pub text : (t : List ℕ) → Text t
text [] = ends
text (c ∷ cs) = elim (ℕ_discrete c dot) [
  | yes e ↦ subst (λ (x : ℕ). Text (x ∷ cs)) (sym e) (dotted (text cs))
  | no n ↦ other n (text cs)
]

module _ (c : ℕ) (cs : List ℕ) (n : c ≡ dot → ⊥) where
  pub until-other : until_dot (c ∷ cs) ≡ c ∷ until_dot cs
  unfolding until_dot
  until-other = simp (until_dot, ne_eqb c dot n)

  split-other : split (c ∷ cs) ≡ on_first c (split cs)
  unfolding split
  split-other = simp (split, ne_eqb c dot n)

-- ---- the first piece
pub piece-length-le : {t : List ℕ} → Text t → length (until_dot t) ≤ length t
unfolding until_dot
piece-length-le ends = omega arith
piece-length-le (dotted k) = omega arith
piece-length-le (other {c} {cs} n k) = rw (until-other c cs n) (omega (arith, piece-length-le k))

pub piece-take : {t : List ℕ} → Text t → take (length (until_dot t)) t ≡ until_dot t
unfolding until_dot
piece-take ends = refl
piece-take (dotted k) = refl
piece-take (other {c} {cs} n k) = rw (until-other c cs n) (ap (λ (t : List ℕ). c ∷ t) (piece-take k))

pub piece-dotless : {t : List ℕ} → Text t → until_dot (until_dot t) ≡ until_dot t
unfolding until_dot
piece-dotless ends = refl
piece-dotless (dotted k) = refl
piece-dotless (other {c} {cs} n k) = rw (until-other c cs n, until-other c (until_dot cs) n, piece-dotless k)

pub piece-dot : {t : List ℕ} → Text t → length (until_dot t) < length t → get_or t (length (until_dot t)) 0 ≡ dot
unfolding until_dot
piece-dot ends h = absurd (omega arith)
piece-dot (dotted k) h = refl
piece-dot (other {c} {cs} n k) h = let e = rw (until-other c cs n) at h in rw (until-other c cs n) (piece-dot k (omega arith))

pub piece-last : {t : List ℕ} → Text t → length (until_dot t) ≡ length t → split t ≡ until_dot t ∷ []
unfolding split until_dot on_first
piece-last ends h = refl
piece-last (dotted k) h = absurd (omega arith)
piece-last (other {c} {cs} n k) h =
    let e = rw (until-other c cs n) at h in
    rw (split-other c cs n, until-other c cs n, piece-last k (omega arith))

pub piece-more : {t : List ℕ} → Text t → length (until_dot t) < length t → split t ≡ until_dot t ∷ split (drop (suc (length (until_dot t))) t)
unfolding split until_dot on_first
piece-more ends h = absurd (omega arith)
piece-more (dotted k) h = refl
piece-more (other {c} {cs} n k) h =
    let e = rw (until-other c cs n) at h in
    rw (split-other c cs n, until-other c cs n, piece-more k (omega arith))

-- in either case the pieces are the first one and a rest
pub record Headed (t : List ℕ) : Type 0 where
  pub rest : Path
  pub is : split t ≡ until_dot t ∷ rest

pub headed : {t : List ℕ} → Text t → Headed t
headed {t} k = elim (dec_lt (length (until_dot t)) (length t)) [
  | yes h ↦ record { rest = split (drop (suc (length (until_dot t))) t); is = piece-more k h }
  | no h ↦ record { rest = []; is = piece-last k (omega (arith, piece-length-le k)) }
]

-- ---- all pieces
pub pieces-append : {a : List ℕ} → Text a → (b : List ℕ) → split (a ++ dot ∷ b) ≡ split a ++ split b
unfolding split on_first
pieces-append ends b = refl
pieces-append (dotted k) b = ap (λ (p : Path). [] ∷ p) (pieces-append k b)
pieces-append (other {c} {cs} n k) b = rw (split-other c (cs ++ dot ∷ b) n, split-other c cs n, pieces-append k b, (headed k).is)

pub pieces-length-le : {t : List ℕ} → Text t → length (split t) ≤ suc (length t)
unfolding split on_first
pieces-length-le ends = omega arith
pieces-length-le (dotted k) = omega (arith, pieces-length-le k)
pieces-length-le (other {c} {cs} n k) =
    let e = ap length (headed k).is in
    rw (split-other c cs n, (headed k).is) (omega (arith, pieces-length-le k))

spell-onto : (c : ℕ) (n : Name) (p : Path) → spell ((c ∷ n) ∷ p) ≡ c ∷ spell (n ∷ p)
unfolding spell
spell-onto c n [] = refl
spell-onto c n (m ∷ p) = refl

spell-head : {t : List ℕ} (k : Text t) → spell (split t) ≡ t → spell (until_dot t ∷ (headed k).rest) ≡ t
spell-head k e = ap spell (sym (headed k).is) ∙ e

pub pieces-spell : {t : List ℕ} → Text t → spell (split t) ≡ t
unfolding spell split on_first
pieces-spell ends = refl
pieces-spell (dotted k) = rw (headed k).is (ap (λ (t : List ℕ). dot ∷ t) (spell-head k (pieces-spell k)))
pieces-spell (other {c} {cs} n k) =
    rw (split-other c cs n, (headed k).is)
    (spell-onto c (until_dot cs) (headed k).rest ∙ ap (λ (t : List ℕ). c ∷ t) (spell-head k (pieces-spell k)))

-- ---- names that hold no dot
pub data Dotless : Path → Type 0 where
  none : Dotless []
  more : {n : Name} {p : Path} → until_dot n ≡ n → Dotless p → Dotless (n ∷ p)

dotless-onto : (c : ℕ) (p : Path) → (c ≡ dot → ⊥) → Dotless p → Dotless (on_first c p)
unfolding on_first until_dot
dotless-onto c [] n none = more (until-other c [] n) none
dotless-onto c (m ∷ p) n (more e k) = more (until-other c m n ∙ ap (λ (x : Name). c ∷ x) e) k

pub pieces-dotless : {t : List ℕ} → Text t → Dotless (split t)
unfolding split until_dot
pieces-dotless ends = more refl none
pieces-dotless (dotted k) = more refl (pieces-dotless k)
pieces-dotless (other {c} {cs} n k) = rw (split-other c cs n) (dotless-onto c (split cs) n (pieces-dotless k))
