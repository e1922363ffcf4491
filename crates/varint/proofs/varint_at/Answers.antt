-- `varint::varint_at` meets its contract, by its loop's invariant and laws.
-- Assumes nothing.
-- The product that a byte is shifted by is searched for without `rules`: with them the search passes its steps.
use Rattle.varint.proofs.VarintReading.{reading_laws}
use Rattle.varint.proofs.varint_at.Goals as goal

pub returns-then-more-eq0 : goal.returns-then-more-eq0
returns-then-more-eq0 c = search reading_laws

pub overflow_mul-result-then-b-lt128 : goal.overflow_mul-result-then-b-lt128
overflow_mul-result-then-b-lt128 c = search reading_laws

pub overflow_add-result-then-b-lt128 : goal.overflow_add-result-then-b-lt128
overflow_add-result-then-b-lt128 c = search reading_laws

pub overflow_mul-value : goal.overflow_mul-value
overflow_mul-value c = search reading_laws

pub overflow_add-value : goal.overflow_add-value
overflow_add-value c = search reading_laws

pub overflow_mul-scale : goal.overflow_mul-scale
overflow_mul-scale c = search reading_laws

pub loop-i-preserved : goal.loop-i-preserved
loop-i-preserved c = search reading_laws
