-- `messageform::check_enum` meets its contract.
-- Assumes nothing.
use Rattle.field.proofs.InFields.{RestIn}
use Rattle.messageform.specs.Form.{judge_enum}
use Rattle.messageform.proofs.MessageLaws.{values}
use Rattle.messageform.proofs.check_enum.Given as goal

abbrev pub invariant-loop-field : goal.invariant-loop-field
invariant-loop-field l = RestIn (judge_enum l.s l.fn.from l.fn.to) (values l.s) l.s l.fn.to l.field-iterator
