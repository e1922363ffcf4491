-- The calls `clean` and `contained`: "The tests refuse a malformed sheet (1, 3; the older first) and answer yes or no otherwise." And the
-- first reason why not, of sheets that are short enough.
--
--                clean_answer s == what `clean` answers
--          contained_answer s t == what `contained` answers of an older sheet s and a newer one t
--   why_unclean, why_uncontained == the first reason against it
--
-- Assumes nothing.
use Rattle.std.specs.Prelude.{List, ℕ, ltb, length, Option, None}
use Rattle.basis.specs.First.{only_if}
use Rattle.limits.specs.Figures.{most_sheet}
use Rattle.reply.specs.declared.Answer.{Answer}
use Rattle.reply.specs.Verdicts.{first_fault, asked}
use Rattle.sheetform.specs.Form.{judge_sheet}
use Rattle.names.specs.Clean.{clean}
use Rattle.names.specs.Contained.{contained}
use Rattle.reasons.specs.declared.Reason.{Reason}
use Rattle.reasons.specs.Reasons.{clean_reason, contained_reason}

-- [CLEAN-6]
abbrev pub clean_answer : (sheet : List ℕ) → Answer
clean_answer s = asked (judge_sheet s) (clean s)

-- [CONTAIN-4]
abbrev pub contained_answer : (older newer : List ℕ) → Answer
contained_answer s t = asked (first_fault (judge_sheet s) (judge_sheet t)) (contained s t)

unfoldable pub why_unclean : (sheet : List ℕ) → Option Reason
why_unclean s = only_if (ltb most_sheet (length s)) None (clean_reason s)

unfoldable pub why_uncontained : (older newer : List ℕ) → Option Reason
why_uncontained s t = only_if (ltb most_sheet (length s)) None (contained_reason s t)
