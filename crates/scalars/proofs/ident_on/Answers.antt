-- `scalars::ident_on` meets its contract.
-- Assumes nothing.
use Rattle.reply.proofs.VerdictLaws.{handed-on}
use Rattle.scalars.proofs.ConstantLaws.{ident_laws}
use Rattle.scalars.proofs.ident_on.Goals as goal

pub returns-in_err-values : goal.returns-in_err-values
returns-in_err-values c = handed-on c.from_residual.ensures.1 (search (ident_laws, c.in_err-values.was))
