-- The laws of parts: the ways through `span_in`, what its places say, and that no bytes are empty wherever they start.
-- Assumes nothing.
use Rattle.std.specs.Prelude.{◌≡◌, refl, Bool, true, false, ◌&&◌, List, [], ℕ, ◌-◌, ◌≤◌, leb, length, None, Some, Option}
use Rattle.basis.specs.Kit.{sym, ◌∙◌}
use Rattle.basis.proofs.Kit.{arith}
use borrow.Author.Tests.{leb-true}
use Rattle.basis.specs.First.{only_if}
use Rattle.basis.proofs.Never.{never}
use Rattle.octets.specs.Octets.{part}
use Rattle.field.specs.declared.Span.{Span}
use Rattle.field.specs.Part.{span_in}
use Rattle.field.specs.Leaf.{span}

-- ---- span_in
module _ (t : List ℕ) (p : Span) where
  pub span-is : (leb p.from p.to && leb p.to (length t)) ≡ true → Some (span p.from p.to) ≡ span_in t p
  unfolding span_in
  span-is h = rw h

  pub span-not : (leb p.from p.to && leb p.to (length t)) ≡ false → None ≡ span_in t p
  unfolding span_in
  span-not h = rw h

record Inside (t : List ℕ) (a e : ℕ) : Type 0 where
  ordered : a ≤ e
  within : e ≤ length t

span-inside : (t : List ℕ) (p : Span) (l : Span) → Some l ≡ span_in t p → Inside t l.from l.to
unfolding span_in
span-inside t p l = go (leb p.from p.to) refl (leb p.to (length t)) refl
  where
    go : (b : Bool) → leb p.from p.to ≡ b → (b' : Bool) → leb p.to (length t) ≡ b'
        → Some l ≡ only_if (b && b') (Some (span p.from p.to)) None → Inside t l.from l.to
    go false x b' x' q = never cc
    go true x false x' q = never cc
    go true x true x' q =
        let u : l ≡ span p.from p.to = cc in
        rw u record { ordered = leb-true p.from p.to x; within = leb-true p.to (length t) x' }

module _ (t : List ℕ) (p : Span) (r : Option Span) (q : r ≡ span_in t p) (u : Span) (g : r ≡ Some u) where
  pub span_ordered : u.from ≤ u.to
  span_ordered = (span-inside t p u (sym g ∙ q)).ordered

  pub span_within : u.to ≤ length t
  span_within = (span-inside t p u (sym g ∙ q)).within

-- ---- none_of: no bytes, wherever they start
pub empty-part : (s : List ℕ) (a : ℕ) → part s a a ≡ []
empty-part s a = let none : a - a ≡ 0 = omega arith in rw none

pub ruleset part_laws = (span-is, span-not, empty-part)
