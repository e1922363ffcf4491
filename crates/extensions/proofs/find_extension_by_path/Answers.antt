-- `extensions::find_extension_by_path` meets its contract.
-- Assumes nothing.
use Rattle.reply.proofs.VerdictLaws.{handed-on}
use Rattle.extensions.proofs.ExtensionLaws.{extension_by_path_laws}
use Rattle.extensions.proofs.find_extension_by_path.Goals as goal

pub returns-in_err-first : goal.returns-in_err-first
returns-in_err-first c = handed-on c.from_residual.ensures.1 (search (extension_by_path_laws, c.in_err-first.was))
