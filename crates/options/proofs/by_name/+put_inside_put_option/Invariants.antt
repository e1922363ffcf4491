-- `settle::named::put_inside` and `settle::named::put_option` meet their contracts.
-- Assumes nothing.
use Rattle.std.specs.Prelude.{◌+◌, ◌-◌, ◌*◌}
use Rattle.options.proofs.by_name.+put_inside_put_option.Given as goal

abbrev pub decreases-put_inside : goal.decreases-put_inside
decreases-put_inside l = 2 * (l.to - l.from) + 1

abbrev pub decreases-put_option : goal.decreases-put_option
decreases-put_option l = 2 * (l.to - l.from)
