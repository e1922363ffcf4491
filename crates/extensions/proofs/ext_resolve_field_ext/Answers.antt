-- `extensions::ext_resolve_field_ext` meets its contract.
-- Assumes nothing.
use Rattle.reply.proofs.VerdictLaws.{handed-on}
use Rattle.extensions.proofs.ExtensionLaws.{resolve_laws}
use Rattle.extensions.proofs.ext_resolve_field_ext.Goals as goal

pub returns-in_err-first : goal.returns-in_err-first
returns-in_err-first c = handed-on c.from_residual.ensures.1 (search (resolve_laws, c.in_err-first.was))
