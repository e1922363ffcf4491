-- `oneofs::put_fields` meets its contract, by its loop's invariant and laws.
-- Assumes nothing.
use Rattle.oneofs.proofs.WritingLaws.{Numbering}
use Rattle.oneofs.proofs.put_fields.Given as goal

abbrev pub invariant-loop-i : goal.invariant-loop-i
invariant-loop-i l =
    Numbering l.numbering l.reals l.words l.initial.out l.out l.real l.synthetic l.member l.n l.i
