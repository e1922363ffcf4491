-- `requestform::check_options` meets its contract.
-- Assumes nothing.
use Rattle.std.specs.Prelude.{◌≤◌}
use Rattle.reply.specs.declared.Refusal.TheVariants.{BadRequest}
use Rattle.form.specs.Each.{each_from}
use Rattle.field.proofs.InFields.{RestIn}
use Rattle.optionform.specs.Form.{judge_option}
use Rattle.requestform.specs.Form.{judge_options}
use Rattle.requestform.proofs.check_options.Given as goal

abbrev pub invariant-loop-field : goal.invariant-loop-field
invariant-loop-field l =
    RestIn (judge_options l.s l.fn.from l.fn.end) (each_from BadRequest (judge_option l.s) l.index) l.s l.fn.end l.field-iterator
    × (l.index ≤ l.field-iterator.at)
