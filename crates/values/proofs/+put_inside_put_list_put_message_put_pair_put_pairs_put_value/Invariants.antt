-- The six writers of constants, which call each other, meet their contracts. The measure is four times the bytes of constant, and up
-- to four more, so that it falls where the same bytes are handed on.
-- Assumes nothing.
use Rattle.std.specs.Prelude.{◌+◌, ◌-◌, ◌*◌}
use Rattle.lookups.specs.Lookups.{walking}
use Rattle.values.specs.inner.Writers.{list_made, pairs_made}
use Rattle.values.proofs.FrontLaws.{Front, FrontIn}
use Rattle.values.proofs.ListLaws.{list_of}
use Rattle.values.proofs.PairLaws.{pairs_of}
use Rattle.values.proofs.+put_inside_put_list_put_message_put_pair_put_pairs_put_value.Given as goal

abbrev pub decreases-put_inside : goal.decreases-put_inside
decreases-put_inside l = 4 * (l.to - l.from) + 1

abbrev pub decreases-put_list : goal.decreases-put_list
decreases-put_list l = 4 * (l.to - l.from) + 2

abbrev pub decreases-put_message : goal.decreases-put_message
decreases-put_message l = 4 * (l.to - l.from) + 2

abbrev pub decreases-put_pair : goal.decreases-put_pair
decreases-put_pair l = 4 * (l.pair.constant.to - l.pair.constant.from) + 4

abbrev pub decreases-put_pairs : goal.decreases-put_pairs
decreases-put_pairs l = 4 * (l.to - l.from)

abbrev pub decreases-put_value : goal.decreases-put_value
decreases-put_value l = 4 * (l.to - l.from) + 3

abbrev pub invariant-put_list-loop-field : goal.invariant-put_list-loop-field
invariant-put_list-loop-field l =
    FrontIn (list_made (walking l.sheet) l.sheet l.request l.shape l.left l.from l.to)
    (list_of (walking l.sheet) l.sheet l.request l.shape l.left) l.request l.from l.to l.field-iterator l.initial.out l.out l.at l.p

abbrev pub invariant-put_pairs-loop-i : goal.invariant-put_pairs-loop-i
invariant-put_pairs-loop-i l =
    Front (pairs_made (walking l.sheet) l.sheet l.request l.scope l.left l.from l.to) (pairs_of (walking l.sheet) l.sheet l.request l.scope l.left)
    l.request l.from l.to l.i l.initial.out l.out l.at l.p

abbrev pub decreases-put_pairs-loop-i : goal.decreases-put_pairs-loop-i
decreases-put_pairs-loop-i l = l.to - l.i
