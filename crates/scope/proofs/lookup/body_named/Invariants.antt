-- `scope::lookup::body_named` meets its contract.
-- Assumes nothing.
use Rattle.std.specs.Prelude.{None}
use Rattle.scope.specs.inner.Steps.{tells_leaf, first_of, body_at}
use Rattle.field.proofs.InFields.{SeekingIn}
use Rattle.scope.proofs.lookup.body_named.Given as goal

abbrev pub invariant-loop-field : goal.invariant-loop-field
invariant-loop-field l =
    SeekingIn None (first_of tells_leaf) (body_at l.want l.name l.s) l.s l.fn.scope.body.from l.fn.scope.body.to l.field-iterator
