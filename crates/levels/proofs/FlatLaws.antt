-- Outcomes in a row, and the rows of records that are put together.
-- Assumes nothing.
use Rattle.std.specs.Prelude.{◌≡◌, refl, List, [], ◌∷◌, ℕ, suc}
use Rattle.basis.specs.Kit.{sym, ap}
use mathlib.Core.List.{append-nil}
use Rattle.reply.specs.Outcome.{Outcome, refused as refused_for, nothing, give, push}
use Rattle.reply.proofs.Outcomes.{push-push}
use Rattle.entries.specs.declared.Entry.{Entry}
use Rattle.entries.specs.Tree.{leaves, row}
use Rattle.entries.specs.Reading.{Listed, listed, refused, onward, enclosed}
use Rattle.levels.specs.inner.Left.{flat, both}

-- ---- outcomes in a row
module _ {A : Type 0} where
  pub both-push : (l : List A) (o p : Outcome A) → both (push l o) p ≡ push l (both o p)
  both-push l (refused_for c) p = refl
  both-push l nothing p = refl
  both-push l (give x) p = sym (push-push l x p)

  pub both-both : (o p q : Outcome A) → both (both o p) q ≡ both o (both p q)
  both-both (refused_for c) p q = refl
  both-both nothing p q = refl
  both-both (give x) p q = both-push x p q

  pub both-last : (o : Outcome A) → both o (give []) ≡ o
  both-last (refused_for c) = refl
  both-last nothing = refl
  both-last (give x) = ap give (append-nil x)

-- ---- the rows of records
pub flat-leaf : (l : ℕ) (e : Entry) (x : Listed) → flat l (onward (leaves (e ∷ [])) x) ≡ push (row l e ∷ []) (flat l x)
flat-leaf l e (listed t) = refl
flat-leaf l e (refused w) = refl

pub flat-held : (l : ℕ) (e : Entry) (i x : Listed) → flat l (enclosed e i x) ≡ push (row l e ∷ []) (both (flat (suc l) i) (flat l x))
flat-held l e (refused w) x = refl
flat-held l e (listed i) (listed t) = refl
flat-held l e (listed i) (refused w) = refl
