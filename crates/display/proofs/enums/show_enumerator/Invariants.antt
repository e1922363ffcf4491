-- `display::enums::show_enumerator` meets its contract, by its loop's invariant and laws.
-- Assumes nothing.
use Rattle.display.proofs.PlaceLaws.{Lying}
use Rattle.display.proofs.enums.show_enumerator.Given as goal

abbrev pub invariant-loop-field : goal.invariant-loop-field
invariant-loop-field l = Lying l.field-iterator l.s
