use Rattle.psg_explain.proofs.CasingLaws.{closed_cases_are, own_cases_made, pair_cases_are}
use Rattle.psg_explain.proofs.casing.cases.Goals as goal

pub returns-in_ok-cases-in-Own : goal.returns-in_ok-cases-in-Own
returns-in_ok-cases-in-Own c = λ s is.
    own_cases_made c.args.definition.now c.args.stage.now s c.as_slice-whole.result.now c.in_ok-cases-in-Own.cases.items c.args.lefts.now c.args.rights.now is c.in-Own.is c.as_slice-whole.ensures c.in_ok-cases-in-Own.ensures

pub returns-in_ok-cases-in-Pair : goal.returns-in_ok-cases-in-Pair
returns-in_ok-cases-in-Pair c = λ s is.
    pair_cases_are c.args.definition.now c.args.stage.now s c.as_slice-whole.result.now c.in_ok-cases-in-Pair.cases.items c.args.lefts.now c.args.rights.now is c.as_slice-whole.ensures
    c.in-Pair.before c.in-Pair.child c.in-Pair.left c.in-Pair.right c.as_slice.result.now c.as_slice-in-Pair.result.now c.in-Pair.is c.as_slice.ensures c.as_slice-in-Pair.ensures c.in_ok-cases-in-Pair.ensures

pub returns-in_ok-cases-in-Closed : goal.returns-in_ok-cases-in-Closed
returns-in_ok-cases-in-Closed c = λ s is.
    closed_cases_are c.args.definition.now c.args.stage.now s c.as_slice-whole.result.now c.in_ok-cases-in-Closed.cases.items c.args.lefts.now c.args.rights.now is c.as_slice-whole.ensures
    c.in-Closed.before c.in-Closed.inside c.as_slice-in-Closed.result.now c.in-Closed.is c.as_slice-in-Closed.ensures c.in_ok-cases-in-Closed.ensures
