-- `numbers::field_numbered` meets its contract.
-- Assumes nothing.
use Rattle.std.specs.Prelude.{None}
use Rattle.sheet.specs.Table.{field_tag}
use Rattle.field.proofs.InFields.{SeekingIn}
use Rattle.numbers.specs.Number.{has_number}
use Rattle.scope.specs.inner.Steps.{tells_declared, first_of}
use Rattle.named.proofs.NamedLaws.{declaration_where}
use Rattle.numbers.proofs.field_numbered.Given as goal

abbrev pub invariant-loop-field : goal.invariant-loop-field
invariant-loop-field l =
    SeekingIn None (first_of tells_declared) (declaration_where (has_number l.number) field_tag l.s) l.s l.fn.scope.body.from l.fn.scope.body.to l.field-iterator
