use Rattle.std.proofs.Common.{reverse, sym}
use Rattle.psg_unify.proofs.SolvingSteps.{stays_swap, clash, not_bound_here, same_count}
use Rattle.psg_unify.proofs.Climbs.{going_swap}
use Rattle.psg_unify.proofs.solving.meet_con.Goals as goal

pub unreachable-requires : goal.unreachable-requires
unreachable-requires c = not_bound_here c.args.pool.now c.args.y c.in-Bound.field-0 c.requires.y_end.unbound c.in-Bound.ensures.holds

pub bind_free-requires-clause-other : goal.bind_free-requires-clause-other
bind_free-requires-clause-other c = λ e. c.requires.other (sym e)

pub bind_free-requires-clause-climbing : goal.bind_free-requires-clause-climbing
bind_free-requires-clause-climbing c = c.requires.going.climbing

pub returns-then-con-other-clause-no : goal.returns-then-con-other-clause-no
returns-then-con-other-clause-no c = λ _.
    clash c.args.pool.now c.args.classes.now (reverse c.args.left.now.items) c.args.x c.args.y c.args.con c.in-Con.other c.args.count c.in-Con.count c.requires.x c.in-Con.ensures.holds
    c.if-con-other.true

pub take_apart-requires-clause-y : goal.take_apart-requires-clause-y
take_apart-requires-clause-y c =
    same_count c.args.pool.now c.args.classes.now (reverse c.args.left.now.items) c.args.x c.args.y c.args.con c.in-Con.other c.args.count c.in-Con.count c.requires.solving c.requires.x c.in-Con.ensures.holds
    c.if-con-other.false

pub returns-in_ok-bind_free-in-Free-clause-yes : goal.returns-in_ok-bind_free-in-Free-clause-yes
returns-in_ok-bind_free-in-Free-clause-yes c = λ _.
    stays_swap c.args.pool.now c.bind_free.new.pool c.args.classes.now c.bind_free.new.classes (reverse c.args.left.now.items) (reverse c.args.left.now.items) c.args.x c.args.y
    (c.in_ok-bind_free-in-Free.ensures.bound (reverse c.args.left.now.items))

pub returns-in_ok-bind_free-in-Free-clause-closer : goal.returns-in_ok-bind_free-in-Free-clause-closer
returns-in_ok-bind_free-in-Free-clause-closer c = λ _.
    c.in_ok-bind_free-in-Free.ensures.closer (reverse c.args.left.now.items) (going_swap c.args.pool.now c.args.classes.now c.args.x c.args.y (reverse c.args.left.now.items) c.requires.going)
