use Rattle.std.proofs.Common.{reverse, subst}
use Rattle.psg_pool.specs.Bindings.{Holds}
use Rattle.psg_unify.specs.declared.walking.Item.TheVariants.{Visit}
use Rattle.psg_unify.proofs.Rounds.{on_top, next_none, next_bound, next_con}
use Rattle.psg_unify.proofs.circles.push_next.Goals as goal

pub returns-in-Free : goal.returns-in-Free
returns-in-Free c = next_none c.args.pool.now c.args.id c.in-Free.field-0 (reverse c.args.stack.now.items) (subst (Holds c.args.pool.now c.args.id) c.in-Free.is c.cell-cell.ensures.holds)

pub returns-in_ok-push-in-Bound : goal.returns-in_ok-push-in-Bound
returns-in_ok-push-in-Bound c =
    next_bound c.args.pool.now c.args.id c.in-Bound.to (reverse c.args.stack.now.items) (reverse c.push.new.self.items)
    (subst (Holds c.args.pool.now c.args.id) c.in-Bound.is c.cell-cell.ensures.holds)
    (on_top c.args.stack.now.items c.push.new.self.items (Visit c.in-Bound.to) c.in_ok-push-in-Bound.ensures.items)

pub returns-in_ok-push_arguments-in-Con : goal.returns-in_ok-push_arguments-in-Con
returns-in_ok-push_arguments-in-Con c =
    next_con c.args.pool.now c.args.id c.in-Con.con c.in-Con.count (reverse c.args.stack.now.items) (reverse c.push_arguments.new.stack.items)
    (subst (Holds c.args.pool.now c.args.id) c.in-Con.is c.cell-cell.ensures.holds) c.in_ok-push_arguments-in-Con.ensures
