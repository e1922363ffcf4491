-- What the search of an attribute leaves open.
-- Assumes nothing.
use Rattle.std.specs.Prelude.{◌≡◌, Ok}
use Rattle.steps.specs.declared.Reach.TheVariants.{Inside}
use Rattle.naming.proofs.NameLaws.{declare_laws, declare_behind_laws, declare_step_laws}
use Rattle.basis.proofs.Kit.{rules}
use Rattle.naming.proofs.+declare_declare_behind_declare_step.Goals as goal

pub declare-step_of-step-requires-clause-scope_value : goal.declare-step_of-step-requires-clause-scope_value
declare-step_of-step-requires-clause-scope_value t c = search (rules, declare_laws)

pub declare-step_of-step-requires-clause-name_value : goal.declare-step_of-step-requires-clause-name_value
declare-step_of-step-requires-clause-name_value t c = search (rules, declare_laws)

pub declare-declare_step-requires : goal.declare-declare_step-requires
declare-declare_step-requires t c = search (rules, declare_laws)

pub declare_behind-declare-requires : goal.declare_behind-declare-requires
declare_behind-declare-requires t c =
    let is : c.behind.result ≡ Ok (Inside c.in-Ok-Inside.shape c.in-Ok-Inside.place c.in-Ok-Inside.rest) = cc in
    search (rules, declare_behind_laws, is)

pub declare_step-returns-in-Ok : goal.declare_step-returns-in-Ok
declare_step-returns-in-Ok t c = search (rules, declare_step_laws)
