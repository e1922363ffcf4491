-- The laws of reasons: the first of two, and of many, and that there is none exactly where every test holds.
-- Assumes nothing.
use Rattle.std.specs.Prelude.{◌≡◌, refl, Bool, true, false, ◌&&◌, List, [], ◌∷◌, ℕ, suc, Option, Some, None}
use Rattle.basis.specs.Kit.{◌∙◌}
use Rattle.basis.specs.Count.{every}
use Rattle.field.specs.declared.Span.{Span}
use Rattle.names.specs.Names.{Named}
use Rattle.reasons.specs.declared.Why.{Why}
use Rattle.reasons.specs.declared.Reason.{Reason}
use Rattle.reasons.specs.Reasons.{reason, holds, also, or_no, reasons, reasons_from}

-- ---- or_no
module _ (b : Bool) (w : Why) (k : ℕ) (p : Span) where
  pub or-yes : b ≡ true → None ≡ or_no b w k p
  or-yes h = rw h refl

  pub or-no : b ≡ false → Some (reason w k p) ≡ or_no b w k p
  or-no h = rw h refl

  pub holds-or-no : holds (or_no b w k p) ≡ b
  holds-or-no = go b
    where
      go : (b : Bool) → holds (or_no b w k p) ≡ b
      go true = refl
      go false = refl

pub ruleset or_no_laws = (or-yes, or-no)

-- ---- the first of two
pub also-no : (r : Reason) (q : Option Reason) → also (Some r) q ≡ Some r
also-no r q = refl

pub also-assoc : (r q u : Option Reason) → also (also r q) u ≡ also r (also q u)
also-assoc None q u = refl
also-assoc (Some w) q u = refl

pub holds-also : (r q : Option Reason) → holds (also r q) ≡ (holds r && holds q)
holds-also None q = refl
holds-also (Some w) q = refl

-- ---- the first of many
module _ {A : Type 0} (f : A → Option Reason) (good : A → Bool) (same : (x : A) → holds (f x) ≡ good x) where
  pub holds-reasons : (xs : List A) → holds (reasons f xs) ≡ every good xs
  holds-reasons [] = refl
  holds-reasons (x ∷ xs) = holds-also (f x) (reasons f xs) ∙ rw (same x, holds-reasons xs) refl

module _ (f : ℕ → Named → Option Reason) (good : Named → Bool) (same : (k : ℕ) (b : Named) → holds (f k b) ≡ good b) where
  pub holds-reasons-from : (k : ℕ) (bs : List Named) → holds (reasons_from f k bs) ≡ every good bs
  holds-reasons-from k [] = refl
  holds-reasons-from k (b ∷ bs) = holds-also (f k b) (reasons_from f (suc k) bs) ∙ rw (same k b, holds-reasons-from (suc k) bs) refl
