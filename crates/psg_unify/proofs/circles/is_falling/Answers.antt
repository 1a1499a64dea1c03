use Rattle.std.proofs.Common.{◌-◌, reverse, arith}
use Rattle.psg_unify.proofs.Rounds.{walk_begins, walk_ends, all_new, all_new_count}
use Rattle.psg_unify.proofs.circles.is_falling.Goals as goal

pub walk-requires : goal.walk-requires
walk-requires c =
    let all = c.in_ok-marks.ensures.items_if_clones_equal (λ y e. e) in
    let count = all_new_count c.in_ok-marks.marks.items (c.count-count.result - c.args.base) all in
    walk_begins c.args.pool.now c.args.base c.count-count.result c.in_ok-marks.marks.items (reverse c.in_ok-stack.stack.items)
    (all_new c.in_ok-marks.marks.items (c.count-count.result - c.args.base) all) c.count-count.ensures (omega (arith, count, c.requires.base, c.count-count.ensures)) c.requires.closed c.in_ok-stack.ensures

pub returns-clause-yes : goal.returns-clause-yes
returns-clause-yes c = λ e. walk_ends c.args.pool.now c.args.base c.walk.new.marks.items (c.in_ok-falls.ensures.yes e)
