-- `fullname::value_named` meets its contract.
-- Assumes nothing.
use Rattle.std.specs.Prelude.{None}
use Rattle.scope.specs.inner.Steps.{tells_valued, first_of, value_named_at}
use Rattle.field.proofs.InFields.{SeekingIn}
use Rattle.fullname.proofs.value_named.Given as goal

abbrev pub invariant-loop-field : goal.invariant-loop-field
invariant-loop-field l = SeekingIn None (first_of tells_valued) (value_named_at l.name l.s) l.s l.fn.values.from l.fn.values.to l.field-iterator
