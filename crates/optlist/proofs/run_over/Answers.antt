-- `optlist::run_over` meets its contract. Each case finds the input as it was, and changes the lent room alone.
-- Assumes nothing.
use Rattle.std.proofs.Common.{rules, length, refl}
use Rattle.console.proofs.CaseLaws.{answers_within}
use Rattle.optlist.proofs.run_over.Goals as goal

pub each_case-requires : goal.each_case-requires
each_case-requires c = answers_within _ _ (λ f. length f.0.now) (λ f at w. search rules) (λ f at next f' w k. search rules) _ refl
