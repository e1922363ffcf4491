-- Where the walks of the look-ups by full name start: before all scopes at the path, or at the path before its last name.
-- Assumes nothing.
use Rattle.std.specs.Prelude.{◌≡◌, List, [], ℕ, ◌-◌, eqb, length, take, drop}
use Rattle.basis.specs.Kit.{sym, ap, ◌∙◌}
use Rattle.basis.proofs.Kit.{arith}
use native.Mathlib.Decide.{ℕ_discrete}
use lib.ListN.{length-take, length-drop}
use lib.Seq.{take_all}
use Rattle.octets.specs.Octets.{part}
use Rattle.path.specs.Path.{components, spell, parent, last}
use Rattle.path.specs.inner.Places.{names_from}
use Rattle.path.specs.inner.Last.{LastStarts}
use Rattle.path.proofs.PathLaws.{spell-components}
use Rattle.path.proofs.Names.{names-start, names-empty}
use Rattle.cursor.specs.declared.Cursor.{Cursor}
use Rattle.scopes.specs.Scopes.{scopes}
use Rattle.cursor.specs.inner.Cursor.{ahead, start_of, Stands}
use Rattle.cursor.proofs.CursorLaws.{stands-start, ahead-start}

-- ---- at a path
names-all : (t : List ℕ) → names_from t (1 - length t) ≡ components t
names-all t = elim (ℕ_discrete (length t) 0) [
  | yes h ↦ let one : 1 - length t ≡ 1 = omega arith in rw one (names-empty t h)
  | no h ↦ let start : 1 - length t ≡ 0 = omega arith in rw start (names-start t h)
]

module _ (s t : List ℕ) (c : Cursor) (e : c ≡ start_of (eqb (length t) 0)) where
  pub start-stands : Stands s t c
  start-stands = stands-start s t (length t) (λ h. h) c e

  pub start-ahead : ahead s t c ≡ scopes s (components t)
  start-ahead = ahead-start s t (length t) (λ h. h) c e ∙ rw (names-all t)

-- ---- at the path before the last name
pub components-some : (t : List ℕ) → (length t ≡ 0 → ⊥) → components t ≡ [] → ⊥
unfolding spell
components-some t h e = h (ap length (sym (spell-components t) ∙ ap spell e))

front-none : (t : List ℕ) (r : ℕ) → r ≡ 0 → length (take (r - 1) t) ≡ 0
front-none t r h = rw (h, length-take) (omega arith)

-- the last name, as the code takes it from the text
pub last-text : (t : List ℕ) (r : ℕ) → LastStarts t r → part t r (length t) ≡ last (components t)
last-text t r k = take_all (length t - r) (drop r t) (omega (arith, length-drop r t)) ∙ k.name

module _ (s t : List ℕ) (r : ℕ) (k : LastStarts t r) (b : List ℕ) (q : b ≡ take (r - 1) t) (c : Cursor) (e : c ≡ start_of (eqb r 0)) where
  pub start-before-stands : Stands s b c
  start-before-stands = rw q (stands-start s (take (r - 1) t) r (front-none t r) c e)

  pub start-before : ahead s b c ≡ scopes s (parent (components t))
  start-before = rw q (ahead-start s (take (r - 1) t) r (front-none t r) c e ∙ rw k.before)
