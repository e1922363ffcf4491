-- What a sheet declares, file by file.
--
--       filed s k f ==  what the file f declares, as the k-th
--     Filed s k f b <-> b is among that
--   Stands s i fs b <-> b is among what one of the files fs declares, the first of which is the i-th
--
-- Assumes nothing.
use Rattle.std.specs.Prelude.{◌≡◌, refl, Bool, true, List, [], ◌∷◌, ℕ, zero, suc, ◌+◌, ◌≤◌}
use Rattle.basis.specs.Kit.{ap}
use Rattle.basis.proofs.Kit.{arith}
use mathlib.Core.Option as option
use lib.ListN.{get_elem?}
use Rattle.basis.proofs.Never.{never}
use Rattle.basis.specs.Count.{count}
use Rattle.basis.proofs.CountLaws.{count-append, count-some}
use Rattle.basis.specs.Among.{Among}
use Rattle.basis.proofs.AmongLaws.{among-nil, among-append-left, among-append-right, among-append-cases}
use Rattle.field.specs.Leaf.{text}
use Rattle.sheet.specs.Tree.{File}
use Rattle.scope.specs.Scope.{file_scope}
use Rattle.names.specs.Names.{Named, file_front, declared_in, declared_by}

module _ (s : List ℕ) where
  abbrev pub filed : (index : ℕ) → File → List Named
  filed k f = declared_in s (file_front (text s f.package_name)) (file_scope k f) f.items

  abbrev pub Filed : (index : ℕ) → File → Named → Type 0
  Filed k f b = Among b (filed k f)

  pub record Stands (i : ℕ) (fs : List File) (b : Named) : Type 0 where
    pub k : ℕ
    pub at : ℕ
    pub counted : i + k ≡ at
    pub file : File
    pub is : get_elem? fs k ≡ option.some file
    pub among : Filed at file b

  pub stands : (i : ℕ) (fs : List File) (b : Named) → Among b (declared_by s i fs) → Stands i fs b
  stands i [] b m = among-nil m
  stands i (f ∷ fs) b m = among-append-cases (filed i f) now (λ j. later (stands (i + 1) fs b j)) m
    where
      now : Filed i f b → Stands i (f ∷ fs) b
      now j = record { k = 0; at = i; counted = omega arith; file = f; is = refl; among = j }

      later : Stands (i + 1) fs b → Stands i (f ∷ fs) b
      later r = record { k = suc r.k; at = r.at; counted = omega arith; file = r.file; is = r.is; among = r.among }

  pub stood : (i : ℕ) (fs : List File) (b : Named) (k at : ℕ) → i + k ≡ at → (f : File) → get_elem? fs k ≡ option.some f → Filed at f b
      → Among b (declared_by s i fs)
  stood i [] b k at n f e m = never cc
  stood i (g ∷ fs) b zero at n f e m =
      let q : f ≡ g = cc in
      let p : at ≡ i = omega arith in
      among-append-left (declared_by s (i + 1) fs) (rw (q, p) at m)
  stood i (g ∷ fs) b (suc k) at n f e m = among-append-right (filed i g) (stood (i + 1) fs b k at (omega arith) f e m)

  -- where one alone passes a test, two that pass are of one file
  module _ (good : Named → Bool) where
    pub one-file : (i : ℕ) (fs : List File) → count good (declared_by s i fs) ≤ 1
        → (k at : ℕ) → i + k ≡ at → (f : File) → get_elem? fs k ≡ option.some f → (a : Named) → Filed at f a → good a ≡ true
        → (l by : ℕ) → i + l ≡ by → (g : File) → get_elem? fs l ≡ option.some g → (b : Named) → Filed by g b → good b ≡ true → k ≡ l
    one-file i [] h k at n f e a m x l by o g q b j y = never cc
    one-file i (d ∷ fs) h zero at n f e a m x zero by o g q b j y = refl
    one-file i (d ∷ fs) h (suc k) at n f e a m x (suc l) by o g q b j y =
        ap suc (one-file (i + 1) fs (omega (arith, count-append good (filed i d) (declared_by s (i + 1) fs))) k at (omega arith) f e a m x
        l by (omega arith) g q b j y)
    one-file i (d ∷ fs) h zero at n f e a m x (suc l) by o g q b j y =
        let z : f ≡ d = cc in
        let p : at ≡ i = omega arith in
        let first : 1 ≤ count good (filed i d) = count-some good {x = a} (rw (z, p) at m) x in
        let rest = count-some good (stood (i + 1) fs b l by (omega arith) g q j) y in
        absurd (omega (arith, count-append good (filed i d) (declared_by s (i + 1) fs)))
    one-file i (d ∷ fs) h (suc k) at n f e a m x zero by o g q b j y =
        let z : g ≡ d = cc in
        let p : by ≡ i = omega arith in
        let first : 1 ≤ count good (filed i d) = count-some good {x = b} (rw (z, p) at j) y in
        let rest = count-some good (stood (i + 1) fs a k at (omega arith) f e m) x in
        absurd (omega (arith, count-append good (filed i d) (declared_by s (i + 1) fs)))
