-- `console::input::each_case` meets its contract.
-- Assumes nothing.
use Rattle.std.specs.Prelude.{◌-◌, ◌≤◌}
use Rattle.console.specs.Input.{AnswersCases}
use Rattle.console.proofs.input.each_case.Given as goal

abbrev pub invariant-loop-next : goal.invariant-loop-next
invariant-loop-next g l = AnswersCases g.F.FnMut l.end l.answer × (l.at ≤ l.end)

abbrev pub decreases-loop-next : goal.decreases-loop-next
decreases-loop-next g l = l.end - l.at
