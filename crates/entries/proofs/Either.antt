-- What holds of both answers of a test holds of the answer.
-- Assumes nothing.
use Rattle.std.specs.Prelude.{Bool, true, false}

pub either : {A : Type 0} (P : A → Type 0) (b : Bool) (x y : A) → P x → P y → P (elim b [ true ↦ x | false ↦ y ])
either P true x y p q = p
either P false x y p q = q
