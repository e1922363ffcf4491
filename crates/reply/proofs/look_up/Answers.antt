-- `reply::look_up` meets its contract, by its loop's invariant and laws.
-- Assumes nothing.
use Rattle.basis.proofs.Kit.{arith}
use Rattle.reply.proofs.Names.{look_up_laws}
use Rattle.reply.proofs.look_up.Goals as goal

pub loop-at-init : goal.loop-at-init
loop-at-init c = search look_up_laws

pub slice_bounds-result-end : goal.slice_bounds-result-end
slice_bounds-result-end c = search look_up_laws

pub returns-then-wide-reply : goal.returns-then-wide-reply
returns-then-wide-reply c = search look_up_laws

pub loop-at-preserved : goal.loop-at-preserved
loop-at-preserved c = search (look_up_laws, c.if-wide-reply.false)

pub returns : goal.returns
returns c = record { is = search look_up_laws; within = omega arith }
