-- Where a walk goes on behind a field: further on, and not past the end.
-- Assumes nothing.
use Rattle.std.specs.Prelude.{◌≡◌, refl, List, ℕ, ◌≤◌, ◌<◌, Option, Some, None}
use Rattle.basis.proofs.Kit.{arith}
use Rattle.field.specs.declared.Field.{Field}
use Rattle.field.specs.Field.{field_at}
use Rattle.field.specs.Fields.{behind}
use Rattle.field.proofs.ReaderLaws.{reads-ahead}
use Rattle.field.proofs.FieldLaws.{field-reads}

module _ (s : List ℕ) (at end : ℕ) (h : at < end) where
  pub behind-further : (o : Option Field) → o ≡ field_at s at end → at < behind end o
  behind-further None q = h
  behind-further (Some f) q = let x = reads-ahead field-reads s at end (Some f) q f refl in omega (arith, x.starts, x.ordered)

  pub behind-within : (o : Option Field) → o ≡ field_at s at end → behind end o ≤ end
  behind-within None q = omega arith
  behind-within (Some f) q = (reads-ahead field-reads s at end (Some f) q f refl).inside

pub ruleset behind_laws = (behind-further, behind-within)
