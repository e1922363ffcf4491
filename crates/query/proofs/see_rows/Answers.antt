-- `query::see_rows` meets its contract.
-- Assumes nothing.
use Rattle.query.proofs.SeenLaws.{see_rows_laws}
use Rattle.query.proofs.see_rows.Goals as goal

pub follow_rows-requires-clause-fact : goal.follow_rows-requires-clause-fact
follow_rows-requires-clause-fact c = search see_rows_laws

pub returns : goal.returns
returns c = search see_rows_laws
