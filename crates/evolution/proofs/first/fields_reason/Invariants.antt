-- `evolution::first::fields_reason` meets its contract, by its loop's invariant and laws.
-- Assumes nothing.
use Rattle.std.specs.Prelude.{None}
use Rattle.field.proofs.InFields.{SeekingIn}
use Rattle.reasons.specs.Reasons.{also}
use Rattle.evolution.specs.inner.Bearers.{number_for, number_reason}
use Rattle.evolution.proofs.FieldLaws.{field_reason}
use Rattle.evolution.proofs.first.fields_reason.Given as goal

abbrev pub invariant-loop-field : goal.invariant-loop-field
invariant-loop-field l =
    SeekingIn None also (field_reason (λ d. number_reason l.question l.s l.newer l.index (number_for l.message d)) l.s) l.s l.fn.body.from l.fn.body.to l.field-iterator
