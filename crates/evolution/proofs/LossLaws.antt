-- The laws of losses: the ways through the functions that look at one declaration of the older sheet, or at one number. The older is s, the
-- newer t.
-- Assumes nothing.
use Rattle.std.specs.Prelude.{◌≡◌, refl, Bool, true, ◌&&◌, List, ℕ, zero, suc, eqb, Option, None}
use Rattle.basis.specs.Kit.{sym, ap, ◌∙◌}
use Rattle.basis.specs.Count.{count, any}
use Rattle.basis.proofs.Kit.{arith, ne_eqb}
use Rattle.basis.proofs.CountLaws.{any-count, none-count}
use mathlib.Core.Bool.{not}
use Rattle.octets.specs.Octets.{same_bytes}
use Rattle.field.specs.declared.Span.{Span}
use Rattle.field.specs.Leaf.{span}
use Rattle.sheet.specs.declared.declaration.Declaration.{Declaration}
use Rattle.sheet.specs.Table.{message_tag, enum_tag}
use Rattle.names.specs.Names.{every_declared, of_kind, bears}
use Rattle.names.specs.Numbers.{Number, every_number}
use Rattle.names.specs.Contained.{alike}
use Rattle.likeness.specs.inner.Likes.{is_like}
use Rattle.census.specs.inner.Census.{bearing, numbered}
use Rattle.reasons.specs.declared.Why.{Why}
use Rattle.reasons.specs.declared.Why.TheVariants as why
use Rattle.reasons.specs.declared.Reason.{Reason}
use Rattle.reasons.specs.Reasons.{or_no, number_loss}
use Rattle.roster.specs.declared.Bearer.{Bearer}
use Rattle.roster.specs.declared.Bearer.TheVariants.{Message, Enum, Extension}
use Rattle.evolution.specs.inner.Bearers.{number_for, name_loss, own_loss}
use Rattle.evolution.proofs.LiesLaws.{declared_lies_laws}

-- ---- a count that is 0, or not
count-any : {A : Type 0} (good : A → Bool) (xs : List A) (n : ℕ) → n ≡ count good xs → not (eqb n 0) ≡ any good xs
count-any good xs zero q = sym (none-count good xs (sym q))
count-any good xs (suc n) q =
    rw (ne_eqb (suc n) 0 λ e. absurd (omega (arith, e))) (sym (any-count good xs λ e. absurd (omega (arith, q, e))))

-- ---- loss_of_number
pub number-loss-is : (s t m : List ℕ) (d : Declaration) (k n : ℕ) → n ≡ numbered m (record { declaration = d; whole = true }) s t
    → (r : Option Reason) → r ≡ or_no (not (eqb n 0)) why.NumberChanged k d.name → r ≡ number_loss s t k (number_for m d)
unfolding is_like
number-loss-is s t m d k n q r u = u ∙ rw (count-any (λ (y : Number). same_bytes m y.for && alike s t d y.by) (every_number t) n q) refl

pub ruleset number_loss_laws = (number-loss-is, declared_lies_laws)

-- ---- loss_of_name
pub name_loss_is : (t x : List ℕ) (g : ℕ) (w : Why) (k n : ℕ) → n ≡ bearing g x (every_declared t)
    → (r : Option Reason) → r ≡ or_no (not (eqb n 0)) w k (span 0 0) → r ≡ name_loss t x g w k
unfolding name_loss
name_loss_is t x g w k n q r u = u ∙ rw (count-any (λ b. of_kind g b && bears x b) (every_declared t) n q) refl

-- ---- own_loss
module _ (t x : List ℕ) (k : ℕ) (b : Bearer) where
  pub loss-message : (p : Span) → b ≡ Message p → (r : Option Reason) → r ≡ name_loss t x message_tag why.MessageLost k → r ≡ own_loss t x k b
  unfolding own_loss
  loss-message p g r u = u ∙ ap (own_loss t x k) (sym g)

  pub loss-enum : (p : Span) → b ≡ Enum p → (r : Option Reason) → r ≡ name_loss t x enum_tag why.EnumLost k → r ≡ own_loss t x k b
  unfolding own_loss
  loss-enum p g r u = u ∙ ap (own_loss t x k) (sym g)

  pub loss-extension : (d : Declaration) → b ≡ Extension d → None ≡ own_loss t x k b
  unfolding own_loss
  loss-extension d g = ap (own_loss t x k) (sym g)

pub ruleset own_loss_laws = (loss-message, loss-enum, loss-extension)
