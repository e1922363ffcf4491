-- `query::query_over` meets its contract.
-- Assumes nothing.
use Rattle.query.proofs.SeenLaws.{query_over_laws}
use Rattle.basis.proofs.Kit.{rules}
use Rattle.reply.proofs.VerdictLaws.{handed-on}
use Rattle.query.proofs.query_over.Goals as goal

pub declare-naming-requires-clause-namable : goal.declare-naming-requires-clause-namable
declare-naming-requires-clause-namable c = search query_over_laws

pub see_rows-requires-clause-key_words_in_bounds : goal.see_rows-requires-clause-key_words_in_bounds
see_rows-requires-clause-key_words_in_bounds c = search (rules, query_over_laws)

pub returns-in_err-best : goal.returns-in_err-best
returns-in_err-best c = handed-on c.from_residual.ensures.1 (search (query_over_laws, c.in_err-best.was))

pub returns : goal.returns
returns c = search (query_over_laws, c.in_ok-best.was)
