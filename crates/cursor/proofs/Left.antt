-- A loop over the scopes that a cursor has still before it: the answer v is what F, a function of scopes, gives of those.
-- Assumes nothing.
use Rattle.std.specs.Prelude.{◌≡◌, refl, List, [], ◌∷◌, ℕ, ◌<◌, length, Option, None, Some}
use Rattle.basis.specs.Kit.{ap, ◌∙◌}
use Rattle.cursor.specs.declared.Cursor.{Cursor}
use Rattle.basis.specs.First.{collect}
use Rattle.scope.specs.Scope.{Scope, holding}
use Rattle.cursor.specs.inner.Cursor.{ahead, Stands, Nexts}
use Rattle.basis.proofs.FirstLaws.{collect-none, collect-some}
use Rattle.cursor.proofs.CursorLaws.{nexts-less, nexts-lies}
use Rattle.cursor.specs.declared.Next.{Next}

pub record Left {A : Type 0} (v : A) (F : List Scope → A) (s t : List ℕ) (c : Cursor) : Type 0 where
  pub stands : Stands s t c
  pub rest : v ≡ F (ahead s t c)

pub left-start : {A : Type 0} (F : List Scope → A) (s t : List ℕ) (c : Cursor) → Stands s t c → Left (F (ahead s t c)) F s t c
left-start F s t c h = record { stands = h; rest = refl }

module _ {A : Type 0} (v : A) (F : List Scope → A) (s t : List ℕ) (c : Cursor) (k : Left v F s t c)
    (r : Option Next) (q : Nexts (ahead s t) s t c r) where
  pub left_end : r ≡ None → v ≡ F []
  left_end g = k.rest ∙ ap F (q.none g)

  module _ (n : Next) (g : r ≡ Some n) where
    pub left_step : v ≡ F (holding s n.scope ∷ ahead s t n.rest)
    left_step = k.rest ∙ ap F (q.some n g).is

    pub left-next : F (holding s n.scope ∷ ahead s t n.rest) ≡ F (ahead s t n.rest) → Left v F s t n.rest
    left-next e = record { stands = (q.some n g).stands; rest = left_step ∙ e }

-- the scopes to come are the loop's measure
pub left_less : (s t : List ℕ) (c : Cursor) (r : Option Next) → Nexts (ahead s t) s t c r → (n : Next) → r ≡ Some n
    → length (ahead s t n.rest) < length (ahead s t c)
left_less s t c = nexts-less (ahead s t) s t c

-- ---- where all that f makes of the scopes is asked for, one after the other
module _ {B : Type 0} (f : Scope → Option B) (v : List B) (s t : List ℕ) (c : Cursor) (k : Left v (collect f) s t c)
    (r : Option Next) (q : Nexts (ahead s t) s t c r) (n : Next) (g : r ≡ Some n) where
  pub left-some : (b : B) → f (holding s n.scope) ≡ Some b → v ≡ b ∷ collect f (ahead s t n.rest)
  left-some b e = left_step v (collect f) s t c k r q n g ∙ collect-some f (holding s n.scope) (ahead s t n.rest) b e

  pub left-none : f (holding s n.scope) ≡ None → Left v (collect f) s t n.rest
  left-none e = left-next v (collect f) s t c k r q n g (collect-none f (holding s n.scope) (ahead s t n.rest) e)

pub ruleset left_laws = (left-start, left_less, nexts-lies)
