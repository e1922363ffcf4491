-- `varint::varint_at` meets its contract, by its loop's invariant and laws.
-- Assumes nothing.
use Rattle.varint.proofs.VarintReading.{Reading}
use Rattle.varint.proofs.varint_at.Given as goal

abbrev pub invariant-loop-i : goal.invariant-loop-i
invariant-loop-i l = Reading l.s l.at l.end l.value l.scale l.more l.i
