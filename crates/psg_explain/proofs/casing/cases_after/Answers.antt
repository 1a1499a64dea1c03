use Rattle.std.proofs.Common.{map}
use Rattle.psg_explain.specs.Plans.{rows_claimed}
use Rattle.psg_explain.proofs.CasingLaws.{closed_then, own_then, pair_then}
use Rattle.psg_explain.proofs.casing.cases_after.Goals as goal

pub returns-in_ok-cases-in-Own : goal.returns-in_ok-cases-in-Own
returns-in_ok-cases-in-Own c = λ s is.
    own_then c.args.definition.now c.args.stage.now s (map rows_claimed c.args.claims.now) c.in_ok-cases-in-Own.cases.items is c.in-Own.is (c.in_ok-cases-in-Own.ensures s is)

pub returns-in_ok-cases-in-Pair : goal.returns-in_ok-cases-in-Pair
returns-in_ok-cases-in-Pair c = λ s is.
    pair_then c.args.definition.now c.args.stage.now s (map rows_claimed c.args.claims.now) c.in_ok-cases-in-Pair.cases.items is c.in-Pair.before c.in-Pair.child c.in-Pair.left c.in-Pair.right
    c.rows_of-lefts.result.now c.rows_of-rights.result.now c.in-Pair.is c.rows_of-lefts.ensures c.rows_of-rights.ensures (c.in_ok-cases-in-Pair.ensures s is)

pub returns-in_ok-cases-in-Closed : goal.returns-in_ok-cases-in-Closed
returns-in_ok-cases-in-Closed c = λ s is.
    closed_then c.args.definition.now c.args.stage.now s (map rows_claimed c.args.claims.now) c.in_ok-cases-in-Closed.cases.items is c.in-Closed.before c.in-Closed.inside
    c.rows_of-lefts-in-Closed.result.now c.in-Closed.is c.rows_of-lefts-in-Closed.ensures (c.in_ok-cases-in-Closed.ensures s is)
