-- `numbers::extension_numbered` meets its contract.
-- Assumes nothing.
use Rattle.std.specs.Prelude.{length, None}
use Rattle.field.proofs.InFields.{SeekingIn}
use Rattle.numbers.specs.Number.{is_extension_of}
use Rattle.scope.specs.inner.Steps.{tells_declared, first_of}
use Rattle.numbers.proofs.NumberLaws.{file_where}
use Rattle.numbers.proofs.extension_numbered.Given as goal

abbrev pub invariant-loop-field : goal.invariant-loop-field
invariant-loop-field l =
    SeekingIn None (first_of tells_declared) (file_where (is_extension_of l.s l.message l.number) l.s) l.s 0 (length l.s) l.field-iterator
