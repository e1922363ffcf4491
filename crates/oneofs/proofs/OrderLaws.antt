-- Indices of the oneofs of one list, in either numbering: of one kind they rise, of any two they differ, and they stay below the count.
-- Assumes nothing.
use Rattle.std.specs.Prelude.{◌≡◌, refl, List, ℕ, suc, ◌+◌, ◌≤◌, ◌<◌, length}
use Rattle.basis.specs.Kit.{sym}
use Rattle.basis.specs.Among.{Among, Ordered}
use Rattle.basis.proofs.Kit.{arith}
use Rattle.basis.proofs.AmongLaws.{ordered-mono}
use Rattle.basis.proofs.Never.{never}
use Rattle.oneofs.specs.Fields.{real, synthetic, Oneof, oneof, kind_of, opened, real_count, synthetic_last, index_of}
use Rattle.oneofs.proofs.IndexLaws.{reals_before, synthetics_before, Numbers, together, apart, numbers}
use Rattle.oneofs.proofs.OpenedLaws.{reals_with, synthetics_with, Lies, Earlier, synthetic_count}
use Rattle.oneofs.proofs.OpenedLaws.{opened-lies, opened-ordered, opened-many, either-earlier}

-- a oneof counts in one kind
with-one : (x : Oneof) → reals_with x + synthetics_with x ≡ suc (reals_before x + synthetics_before x)
with-one (oneof real r s) = omega arith
with-one (oneof synthetic r s) = omega arith

module _ (numbering reals synthetics : ℕ) where
  rises : (x y : Oneof) → Numbers numbering → Earlier x y → kind_of x ≡ kind_of y → index_of numbering reals x < index_of numbering reals y
  rises x y (together is) e k = omega (arith, is reals x, is reals y, with-one x, e.reals, e.synthetics)
  rises (oneof real r s) (oneof real r' s') (apart of_real of_synthetic) e k = omega (arith, of_real reals r s, of_real reals r' s', e.reals)
  rises (oneof synthetic r s) (oneof synthetic r' s') (apart of_real of_synthetic) e k =
      omega (arith, of_synthetic reals r s, of_synthetic reals r' s', e.synthetics)
  rises (oneof real r s) (oneof synthetic r' s') (apart of_real of_synthetic) e k = never cc
  rises (oneof synthetic r s) (oneof real r' s') (apart of_real of_synthetic) e k = never cc

  differs : (x y : Oneof) → Numbers numbering → Earlier x y → Lies 0 0 reals synthetics x → Lies 0 0 reals synthetics y
      → index_of numbering reals x ≡ index_of numbering reals y → ⊥
  differs x y (together is) e l l' q = omega (arith, is reals x, is reals y, with-one x, e.reals, e.synthetics)
  differs (oneof real r s) (oneof synthetic r' s') (apart of_real of_synthetic) e l l' q =
      omega (arith, of_real reals r s, of_synthetic reals r' s', l.reals-to)
  differs (oneof synthetic r s) (oneof real r' s') (apart of_real of_synthetic) e l l' q =
      omega (arith, of_synthetic reals r s, of_real reals r' s', l'.reals-to)
  differs (oneof real r s) (oneof real r' s') (apart of_real of_synthetic) e l l' q =
      omega (arith, rises (oneof real r s) (oneof real r' s') (apart of_real of_synthetic) e refl)
  differs (oneof synthetic r s) (oneof synthetic r' s') (apart of_real of_synthetic) e l l' q =
      omega (arith, rises (oneof synthetic r s) (oneof synthetic r' s') (apart of_real of_synthetic) e refl)

  below : (x : Oneof) → Numbers numbering → Lies 0 0 reals synthetics x → index_of numbering reals x < reals + synthetics
  below x (together is) l = omega (arith, is reals x, with-one x, l.reals-to, l.synthetics-to)
  below (oneof real r s) (apart of_real of_synthetic) l = omega (arith, of_real reals r s, l.reals-to)
  below (oneof synthetic r s) (apart of_real of_synthetic) l = omega (arith, of_synthetic reals r s, l.synthetics-to)

-- ---- of one list
module _ (numbering : ℕ) (ws : List ℕ) where
  pub index-rises :
      Ordered (λ x y. kind_of x ≡ kind_of y → index_of numbering (real_count ws) x < index_of numbering (real_count ws) y) (opened ws)
  index-rises = ordered-mono (λ x y m m'. rises numbering (real_count ws) 0 x y (numbers numbering)) (opened-ordered ws)

  pub index_below : (x : Oneof) → Among x (opened ws) → index_of numbering (real_count ws) x < length (opened ws)
  index_below x m =
      omega (arith, opened-many ws, below numbering (real_count ws) (synthetic_count ws) x (numbers numbering) (opened-lies ws x m))

  pub index-apart : Ordered (λ x y. index_of numbering (real_count ws) x ≡ index_of numbering (real_count ws) y → ⊥) (opened ws)
  index-apart =
      let lies = opened-lies ws in
      ordered-mono
      (λ x y m m' e. differs numbering (real_count ws) (synthetic_count ws) x y (numbers numbering) e (lies x m) (lies y m'))
      (opened-ordered ws)

  pub index-unique : (x y : Oneof) → Among x (opened ws) → Among y (opened ws)
      → index_of numbering (real_count ws) x ≡ index_of numbering (real_count ws) y → x ≡ y
  index-unique x y m m' q = either-earlier index-apart m m' (λ e. e) (λ d. absurd (d q)) (λ d. absurd (d (sym q)))

-- ---- synthetic ones last
module _ (ws : List ℕ) (x : Oneof) (m : Among x (opened ws)) where
  pub real-low : kind_of x ≡ real → index_of synthetic_last (real_count ws) x < real_count ws
  unfolding index_of
  real-low = go x (opened-lies ws x m)
    where
      go : (x : Oneof) → Lies 0 0 (real_count ws) (synthetic_count ws) x → kind_of x ≡ real
          → index_of synthetic_last (real_count ws) x < real_count ws
      go (oneof real r s) l k = l.reals-to
      go (oneof synthetic r s) l k = never cc

  pub synthetic-high : kind_of x ≡ synthetic → real_count ws ≤ index_of synthetic_last (real_count ws) x
  unfolding index_of
  synthetic-high = go x
    where
      go : (x : Oneof) → kind_of x ≡ synthetic → real_count ws ≤ index_of synthetic_last (real_count ws) x
      go (oneof real r s) k = never cc
      go (oneof synthetic r s) k = omega arith
