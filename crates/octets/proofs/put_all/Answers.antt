-- `octets::put_all` meets its contract, by its loop's laws.
-- Assumes nothing.
use Rattle.octets.proofs.Halfway.{laying-next, laying-end}
use Rattle.octets.proofs.put_all.Goals as goal

pub loop-i-preserved : goal.loop-i-preserved
loop-i-preserved g c =
    laying-next c.args.out.now c.args.at c.args.src.now c.loop-i.out c.fitting-n.result c.loop-i.i c.loop-i.invariant
    c.index-src-i.result c.index-src-i.result c.index-src-i.is c.loop-i-test.true

pub returns : goal.returns
returns g c =
    laying-end c.args.out.now c.args.at c.args.src.now c.loop-i.out c.fitting-n.result c.loop-i.i c.loop-i.invariant c.loop-i-test.false
