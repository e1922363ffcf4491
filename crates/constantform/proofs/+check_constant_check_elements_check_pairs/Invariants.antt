-- `constantform::check_constant`, `constantform::check_elements` and `constantform::check_pairs` meet their contracts.
-- Assumes nothing.
use Rattle.std.specs.Prelude.{◌+◌, ◌-◌, ◌*◌}
use Rattle.reply.specs.declared.Refusal.TheVariants.{BadRequest}
use Rattle.form.specs.Each.{each}
use Rattle.field.proofs.InFields.{RestIn}
use Rattle.field.proofs.Rest.{Rest}
use Rattle.constantform.specs.Form.{judge_constant, judge_elements, judge_pairs, pairs_of}
use Rattle.constantform.proofs.+check_constant_check_elements_check_pairs.Given as goal

abbrev pub decreases-check_constant : goal.decreases-check_constant
decreases-check_constant l = 2 * l.left

abbrev pub decreases-check_elements : goal.decreases-check_elements
decreases-check_elements l = 2 * l.left + 1

abbrev pub decreases-check_pairs : goal.decreases-check_pairs
decreases-check_pairs l = 2 * l.left + 1

abbrev pub invariant-check_elements-loop-field : goal.invariant-check_elements-loop-field
invariant-check_elements-loop-field l =
    RestIn (judge_elements l.left l.s l.from l.to) (each BadRequest (judge_constant l.left l.s)) l.s l.to l.field-iterator

abbrev pub invariant-check_pairs-loop-at : goal.invariant-check_pairs-loop-at
invariant-check_pairs-loop-at l = Rest (judge_pairs l.left l.s l.from l.to) (pairs_of (judge_constant l.left l.s) l.s) l.s l.to l.at

abbrev pub decreases-check_pairs-loop-at : goal.decreases-check_pairs-loop-at
decreases-check_pairs-loop-at l = l.to - l.at
