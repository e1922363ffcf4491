-- A scope that names lead to is what stands at its place.
--
--   Placed s c <-> the scope c holds what stands at its place, which is one of the sheet
--
-- Assumes nothing.
use Rattle.std.specs.Prelude.{◌≡◌, List, [], ◌∷◌, ℕ, Some}
use Rattle.basis.specs.Kit.{sym, ap, ◌∙◌}
use Rattle.path.specs.Path.{Path}
use Rattle.scope.specs.Scope.{Scope, holding, down}
use Rattle.scope.specs.inner.Answers.{InSheet}
use Rattle.basis.proofs.FirstLaws.{given_holds}
use Rattle.scope.proofs.Held.{down-held, down-lies}
use Rattle.scopes.specs.Scopes.{follow}

pub record Placed (s : List ℕ) (c : Scope) : Type 0 where
  pub held : c ≡ holding s c.place
  pub lies : InSheet s c.place

module _ (s : List ℕ) where
  down-placed : (n : List ℕ) (c : Scope) → Placed s c → (d : Scope) → down s n c ≡ Some d → Placed s d
  down-placed n c k d q =
      let f : down s n (holding s c.place) ≡ Some d = ap (down s n) (sym k.held) ∙ q in
      record { held = down-held s n c.place d f; lies = down-lies s n c.place d f k.lies }

  pub followed-placed : (ns : Path) (c : Scope) → Placed s c → (d : Scope) → follow s ns c ≡ Some d → Placed s d
  followed-placed [] c k d q = let u : d ≡ c = cc in rw u k
  followed-placed (n ∷ ns) c k d q =
      given_holds (down s n c) (follow s ns) d (Placed s d) (λ x f g. followed-placed ns x (down-placed n c k x f) d g) q
