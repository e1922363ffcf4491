-- A leading dot: the laws of `is_abs` and `without_root`.
-- Assumes nothing.
use Rattle.std.specs.Prelude.{◌≡◌, refl, Bool, true, false, List, [], ◌∷◌, ℕ, suc, ◌-◌, ◌≤◌, eqb, length, get_or, take, drop}
use Rattle.basis.specs.Kit.{sym, ◌∙◌}
use Rattle.basis.proofs.Kit.{arith}
use mathlib.Core.Bool.{false≢true}
use lib.ListN.{length-drop}
use lib.Seq.{take_all}
use Rattle.path.specs.Path.{dot, is_abs, rootless}

pub abs-empty : (s : List ℕ) → length s ≡ 0 → false ≡ is_abs s
unfolding is_abs
abs-empty [] h = refl
abs-empty (c ∷ cs) h = absurd (omega arith)

pub abs-first : (s : List ℕ) → (length s ≡ 0 → ⊥) → eqb (get_or s 0 0) dot ≡ is_abs s
unfolding is_abs
abs-first [] h = absurd (h refl)
abs-first (c ∷ cs) h = refl

pub length-abs : (s : List ℕ) → is_abs s ≡ true → 1 ≤ length s
unfolding is_abs
length-abs [] h = absurd (false≢true h)
length-abs (c ∷ cs) h = omega arith

pub rootless-abs : (s : List ℕ) → is_abs s ≡ true → rootless s ≡ drop 1 s
unfolding is_abs rootless
rootless-abs [] h = refl
rootless-abs (c ∷ cs) h = simp (rootless, h)

pub rootless-rel : (s : List ℕ) → is_abs s ≡ false → rootless s ≡ s
unfolding is_abs rootless
rootless-rel [] h = refl
rootless-rel (c ∷ cs) h = simp (rootless, h)

pub rootless-length-le : (s : List ℕ) → length (rootless s) ≤ length s
unfolding rootless
rootless-length-le [] = omega arith
rootless-length-le (c ∷ cs) = go (eqb c dot)
  where
    go : (b : Bool) → length {A = ℕ} (elim b [ true ↦ cs | false ↦ c ∷ cs ]) ≤ suc (length cs)
    go true = omega arith
    go false = omega arith

module _ (s : List ℕ) (r : Bool) (q : r ≡ is_abs s) where
  pub abs-some : r ≡ true → 1 ≤ length s
  abs-some e = length-abs s (sym q ∙ e)

  pub without-abs : r ≡ true → take (length s - 1) (drop 1 s) ≡ rootless s
  without-abs e = take_all (length s - 1) (drop 1 s) (omega (arith, length-drop 1 s)) ∙ sym (rootless-abs s (sym q ∙ e))

  pub without-rel : r ≡ false → s ≡ rootless s
  without-rel e = sym (rootless-rel s (sym q ∙ e))

pub ruleset abs_laws = (abs-empty, abs-first, abs-some, without-abs, without-rel)
