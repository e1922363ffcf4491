-- `resolver::resolve_over` meets its contract.
-- Assumes nothing.
use Rattle.std.specs.Prelude.{◌≡◌, None, Some, Ok, Err}
use Rattle.basis.proofs.Kit.{rules}
use Rattle.resolver.proofs.WriteLaws.{over_laws}
use Rattle.resolver.proofs.resolve_over.Goals as goal

pub write-requires-clause-ready : goal.write-requires-clause-ready
write-requires-clause-ready c =
    let is : c.measure_tested.result ≡ Ok (Some c.in-Ok-Some.measured) = cc in
    search (rules, over_laws, is)

pub returns-in-Ok-None : goal.returns-in-Ok-None
returns-in-Ok-None c =
    let is : c.measure_tested.result ≡ Ok None = cc in
    search (over_laws, is)

pub returns-in-Ok-Some : goal.returns-in-Ok-Some
returns-in-Ok-Some c =
    let is : c.measure_tested.result ≡ Ok (Some c.in-Ok-Some.measured) = cc in
    search (over_laws, is)

pub returns-in-Err : goal.returns-in-Err
returns-in-Err c =
    let is : c.measure_tested.result ≡ Err c.in-Err.cause = cc in
    search (over_laws, is)
