use Rattle.std.proofs.Common.{◌*◌, ◌^◌, ◌<◌, rules}
use Rattle.psg_explain.proofs.SumLaws.{closed_pairs, own_pairs, product_fits, step_pairs}
use Rattle.psg_explain.proofs.counting_pairs.pairs_of_step.Goals as goal

pub overflow_mul-result : goal.overflow_mul-result
overflow_mul-result c =
    let one : c.many-lefts.result < 2 ^ 64 = search rules in
    let other : c.many-rights.result < 2 ^ 64 = search rules in
    let small : c.many-lefts.result * c.many-rights.result < 2 ^ 128 = product_fits c.many-lefts.result c.many-rights.result one other in
    search (rules, small)

pub returns-in-Own : goal.returns-in-Own
returns-in-Own c = λ def s is. own_pairs def c.args.stage.now s is c.args.front.now c.in-Own.is

pub returns-in-Pair : goal.returns-in-Pair
returns-in-Pair c = λ def s is.
    step_pairs def c.args.stage.now s is c.args.front.now c.in-Pair.before c.in-Pair.child c.in-Pair.left c.in-Pair.right c.many-lefts.result c.many-rights.result c.in-Pair.is c.many-lefts.ensures c.many-rights.ensures

pub returns-in-Closed : goal.returns-in-Closed
returns-in-Closed c = λ def s is. closed_pairs def c.args.stage.now s is c.args.front.now c.in-Closed.before c.in-Closed.inside c.in-Closed.is
