-- `round::finite` meets its contract, by laws of `Narrowing`. Assumes nothing.
use Rattle.basis.proofs.Kit.{rules}
use Rattle.round.proofs.Narrowing.{finite_laws}
use Rattle.round.proofs.finite.Goals as goal

pub returns-then-e-le872 : goal.returns-then-e-le872
returns-then-e-le872 c = search (rules, finite_laws)

pub overflow_add-m : goal.overflow_add-m
overflow_add-m c = search (rules, finite_laws)

pub overflow_sub-e : goal.overflow_sub-e
overflow_sub-e c = search (rules, finite_laws)

pub overflow_cast-e : goal.overflow_cast-e
overflow_cast-e c = search (rules, finite_laws)

pub round_shift-requires : goal.round_shift-requires
round_shift-requires c = search (rules, finite_laws)

pub overflow_cast-result : goal.overflow_cast-result
overflow_cast-result c = search (rules, finite_laws)

pub returns-then-e-le896 : goal.returns-then-e-le896
returns-then-e-le896 c = search (rules, finite_laws)

pub overflow_sub-b : goal.overflow_sub-b
overflow_sub-b c = search (rules, finite_laws)

pub overflow_mul-b : goal.overflow_mul-b
overflow_mul-b c = search (rules, finite_laws)

pub round_shift-requires-2 : goal.round_shift-requires-2
round_shift-requires-2 c = search (rules, finite_laws)

pub overflow_add-b : goal.overflow_add-b
overflow_add-b c = search (rules, finite_laws)

pub overflow_cast-result-then-b-lt2139095040 : goal.overflow_cast-result-then-b-lt2139095040
overflow_cast-result-then-b-lt2139095040 c = search (rules, finite_laws)

pub returns-then-b-lt2139095040 : goal.returns-then-b-lt2139095040
returns-then-b-lt2139095040 c = search (rules, finite_laws)

pub returns : goal.returns
returns c = search (rules, finite_laws)
