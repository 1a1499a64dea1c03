use Rattle.psg_scope.specs.Headers.{keys}
use Rattle.psg_explain.proofs.CasingLaws.{cell_is, end_is, node_is, open_end_is}
use Rattle.psg_explain.proofs.casing.own_cases.Goals as goal

pub returns-in_ok-cases-in-Node : goal.returns-in_ok-cases-in-Node
returns-in_ok-cases-in-Node c = λ f at own.
    node_is c.args.definition.now c.args.site.now c.in-Node.tree f (keys c.args.keys.now) c.in_ok-cases-in-Node.cases.items c.in-Node.is c.in_ok-cases-in-Node.ensures at own

pub returns-in_ok-cases-in-Cell : goal.returns-in_ok-cases-in-Cell
returns-in_ok-cases-in-Cell c = λ f at own. cell_is c.args.definition.now c.args.site.now c.in-Cell.list f c.in_ok-cases-in-Cell.cases.items c.in-Cell.is c.in_ok-cases-in-Cell.ensures at

pub returns-then-unfinished : goal.returns-then-unfinished
returns-then-unfinished c = λ f at own. open_end_is c.args.definition.now c.args.site.now c.in-End.list c.in-End.unfinished f c.in_ok-cases-in-End.cases.items c.in-End.is c.if-unfinished.true c.in_ok-cases-in-End.ensures at

pub returns-in_ok-cases-in-End-2 : goal.returns-in_ok-cases-in-End-2
returns-in_ok-cases-in-End-2 c = λ f at own. end_is c.args.definition.now c.args.site.now c.in-End.list c.in-End.unfinished f c.in_ok-cases-in-End-2.cases.items c.in-End.is c.if-unfinished.false c.in_ok-cases-in-End-2.ensures at
