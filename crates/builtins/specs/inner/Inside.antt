-- What the record of a builtin asks of the request that its constant was read from.
--
--   InBuilt x r <-> the span that is held by what a builtin comes to, where one is, is one of r
--
-- Assumes nothing.
use Rattle.std.specs.Prelude.{List, ℕ, Option, None, Some, Ok, Err, Result}
use Rattle.records.specs.inner.Emits.{InBody}
use Rattle.builtins.specs.declared.Built.{Built}
use Rattle.reply.specs.declared.Refusal.{Refusal}

unfoldable pub InBuilt : Result (Option Built) Refusal → List ℕ → Type 0
InBuilt (Ok None) r = Unit {0}
InBuilt (Ok (Some x)) r = InBody x.body r
InBuilt (Err w) r = Unit {0}
