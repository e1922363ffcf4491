-- The laws of the definition `field_at`: the ways through the function of that name, and where a whole field lies.
-- Assumes nothing.
use Rattle.std.specs.Prelude.{◌≡◌, refl, Bool, true, false, List, ℕ, ◌+◌, ◌-◌, ◌≤◌, ◌<◌, ltb, length, get_or, None, Some, Option}
use Rattle.basis.specs.Kit.{sym, ◌∙◌}
use Rattle.basis.proofs.Kit.{arith, lt-ltb, le-ltb}
use borrow.Author.Tests.{ltb-false}
use Rattle.basis.proofs.Never.{never}
use Rattle.octets.specs.Octets.{big_at}
use Rattle.field.specs.Field.{header, field_at, field}
use Rattle.field.proofs.ReaderLaws.{Reads, reads-ordered, reads-inside, reads-within, reads-less}
use Rattle.field.specs.declared.Field.{Field}

module _ (s : List ℕ) (at end : ℕ) (k : at ≤ end) where
  pub field-short : end - at < header → None ≡ field_at s at end
  unfolding field_at
  field-short h = simp (field_at, lt-ltb end (at + header) (omega arith))

  module _ (h : header ≤ end - at) (n : ℕ) (e : n ≡ big_at 2 s (at + 1)) where
    pub field_cut : end - (at + header) < n → None ≡ field_at s at end
    unfolding field_at
    field_cut g = simp (field_at, le-ltb end (at + header) (omega arith), ← e, lt-ltb end (at + header + n) (omega arith))

    pub field-whole : n ≤ end - (at + header) → Some (field (get_or s at 0) (at + header) (at + header + n)) ≡ field_at s at end
    unfolding field_at
    field-whole g = simp (field_at, le-ltb end (at + header) (omega arith), ← e, le-ltb end (at + header + n) (omega arith))

pub ruleset field_laws = (field-short, field_cut, field-whole)

-- ---- where a whole field lies
pub record Bounds (at end from to : ℕ) : Type 0 where
  pub starts : from ≡ at + header
  pub ordered : from ≤ to
  pub inside : to ≤ end

module _ (s : List ℕ) (at end : ℕ) (r : Option Field) (q : r ≡ field_at s at end) (f : Field) (g : r ≡ Some f) where
  pub field-bounds : Bounds at end f.from f.to
  unfolding field_at
  field-bounds = go (ltb end (at + header)) refl (ltb end (at + header + n)) refl (sym g ∙ q)
    where
      n : ℕ
      n = big_at 2 s (at + 1)

      go : (b : Bool) → ltb end (at + header) ≡ b → (b' : Bool) → ltb end (at + header + n) ≡ b'
          → Some f
          ≡ elim b [ true ↦ None | false ↦ elim b' [ true ↦ None | false ↦ Some (field (get_or s at 0) (at + header) (at + header + n)) ] ]
          → Bounds at end f.from f.to
      go true p b' p' w = never cc
      go false p true p' w = never cc
      go false p false p' w =
          let x : f.from ≡ at + header = cc in
          let y : f.to ≡ at + header + n = cc in
          let fits : at + header + n ≤ end = ltb-false end (at + header + n) p' in
          record { starts = x; ordered = omega arith; inside = omega arith }

-- ---- `field_at` is a reader that every loop over siblings can have
pub field-reads : Reads field_at
field-reads = record {
  ahead = λ s at end f g.
      let b = field-bounds s at end (Some f) (sym g) f refl in
      record { starts = omega (arith, b.starts); ordered = b.ordered; inside = b.inside };
}

module _ (s : List ℕ) (at end : ℕ) (r : Option Field) (q : r ≡ field_at s at end) (f : Field) (g : r ≡ Some f) where
  pub field-ordered : f.from ≤ f.to
  field-ordered = reads-ordered field-reads s at end r q f g

  pub field-inside : f.to ≤ end
  field-inside = reads-inside field-reads s at end r q f g

  pub field-within : end ≤ length s → f.to ≤ length s
  field-within = reads-within field-reads s at end r q f g

  pub field-less : at < end → end - f.to < end - at
  field-less = reads-less field-reads s at end r q f g

pub ruleset field_place_laws = (field-ordered, field-within, field-less)
