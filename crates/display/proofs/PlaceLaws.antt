-- What the lines know of places: a field and a tested span lie in the sheet, and so do an enum's values.
-- Assumes nothing.
use Rattle.std.specs.Prelude.{◌≡◌, refl, length, List, ℕ, ◌-◌, ◌≤◌, ◌<◌, Some, Option}
use Rattle.basis.proofs.Kit.{arith}
use Rattle.field.specs.Field.{field_at}
use Rattle.field.specs.Fields.{Goes}
use Rattle.field.proofs.FieldLaws.{field-bounds, field-inside, field_place_laws}
use Rattle.field.proofs.InFields.{Over, over-next, over-ordered, over-within}
use Rattle.field.proofs.PartLaws.{span_ordered, span_within}
use Rattle.lookups.proofs.LookupLaws.{enum-ordered, enum-within}
use Rattle.field.specs.declared.Field.{Field}
use Rattle.field.specs.declared.fields.Fields.{Fields}

-- where the inside of a field begins: before the end, and further on than the field
module _ (s : List ℕ) (at end : ℕ) (r : Option Field) (q : r ≡ field_at s at end) (f : Field) (g : r ≡ Some f) where
  pub field-starts : f.from ≤ end
  field-starts = let b = field-bounds s at end r q f g in omega (arith, b.ordered, b.inside)

  pub field-entered : at < end → end - f.from < end - at
  field-entered h = let b = field-bounds s at end r q f g in omega (arith, b.starts)

pub ruleset place_laws = (field-inside, field_place_laws, field-starts, field-entered, span_ordered, span_within, enum-ordered, enum-within)

-- ---- the fields of an enum lie in the sheet, those that are left too
pub record Lying (it : Fields) (s : List ℕ) : Type 0 where
  pub over : Over it s it.end
  pub inside : it.end ≤ length s

pub lying-start : (s : List ℕ) (to : ℕ) (it : Fields) → it.bytes.now ≡ s → it.end ≡ to → to ≤ length s → Lying it s
lying-start s to it b e h = record { over = record { bytes = b; end = refl }; inside = rw e h }

module _ (s : List ℕ) (it : Fields) (k : Lying it s) (it' : Fields) (o : Option Field) (x : Goes it it' o) where
  pub lying-next : Lying it' s
  lying-next = record { over = record { bytes = (over-next k.over it' o x).bytes; end = refl }; inside = rw x.end k.inside }

  module _ (w : Field) (g : o ≡ Some w) where
    pub lying-ordered : w.from ≤ w.to
    lying-ordered = over-ordered k.over it' o x w g

    pub lying-within : w.to ≤ length s
    lying-within = over-within k.over it' o x w g k.inside

pub ruleset enum_laws = (lying-start, lying-next, lying-ordered, lying-within, span_ordered, span_within, enum-ordered, enum-within)
