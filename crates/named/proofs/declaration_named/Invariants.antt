-- `named::declaration_named` meets its contract.
-- Assumes nothing.
use Rattle.std.specs.Prelude.{None}
use Rattle.field.proofs.InFields.{SeekingIn}
use Rattle.field.specs.Leaf.{is_text}
use Rattle.scope.specs.inner.Steps.{tells_declared, first_of}
use Rattle.named.proofs.NamedLaws.{declaration_where}
use Rattle.named.proofs.declaration_named.Given as goal

abbrev pub invariant-loop-field : goal.invariant-loop-field
invariant-loop-field l =
    SeekingIn None (first_of tells_declared) (declaration_where (λ d. is_text l.s l.name d.name) l.want l.s) l.s l.fn.scope.body.from l.fn.scope.body.to l.field-iterator
