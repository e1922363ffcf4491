-- Records, or what is wrong, one after the other: the laws of `after` and `both`.
-- Assumes nothing.
use Rattle.std.specs.Prelude.{◌≡◌, refl}
use Rattle.basis.specs.Kit.{sym, ap}
use Rattle.records.specs.Records.{Recs, nil, append}
use Rattle.records.specs.Made.{Made, made, wrong, after, both}
use Rattle.records.proofs.RecsLaws.{append-nil-right, append-append}

module _ {W : Type 0} where
  pub both-none : (m : Made W) → both m (made nil) ≡ m
  both-none (made a) = ap made (append-nil-right a)
  both-none (wrong w) = refl

  pub after-nil : (m : Made W) → after nil m ≡ m
  after-nil (made a) = refl
  after-nil (wrong w) = refl

  pub after-after : (a b : Recs) (m : Made W) → after a (after b m) ≡ after (append a b) m
  after-after a b (made c) = ap made (sym (append-append a b c))
  after-after a b (wrong w) = refl
