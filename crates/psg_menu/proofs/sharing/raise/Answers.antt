use Rattle.std.proofs.Common.{sym, subst}
use Rattle.psg_menu.specs.declared.sharing.Rung.{Rung}
use Rattle.psg_menu.specs.Sharing.{IsRaised, TakesRise, rise_of}
use Rattle.psg_menu.proofs.Raising.{HasKindAbove, before_kind, before_seen, first_kind, first_seen, node_kind, raised_before, raised_first, raised_node}
use Rattle.psg_menu.proofs.sharing.raise.Goals as goal

pub raised_operator-requires-clause-hot : goal.raised_operator-requires-clause-hot
raised_operator-requires-clause-hot g c =
    let (above, takes) = c.requires.takes in
    (subst (λ (r : Rung). TakesRise c.args.definition.now (rise_of r) c.args.own.now above) c.in-Node.is takes).0

pub raised_operator-requires-clause-silent : goal.raised_operator-requires-clause-silent
raised_operator-requires-clause-silent g c =
    let (above, takes) = c.requires.takes in
    (subst (λ (r : Rung). TakesRise c.args.definition.now (rise_of r) c.args.own.now above) c.in-Node.is takes).1

pub raised_operator-requires-clause-takes : goal.raised_operator-requires-clause-takes
raised_operator-requires-clause-takes g c =
    let (above, takes) = c.requires.takes in
    (subst (λ (r : Rung). TakesRise c.args.definition.now (rise_of r) c.args.own.now above) c.in-Node.is takes).2

pub returns-in-Node-clause-answer : goal.returns-in-Node-clause-answer
returns-in-Node-clause-answer g c =
    subst (λ (r : Rung). IsRaised c.args.definition.now (rise_of r) c.args.own.now c.raised_operator.result) (sym c.in-Node.is)
    (raised_node c.args.definition.now c.in-Node.op c.in-Node.names.now c.in-Node.children.now c.in-Node.hot c.args.own.now c.raised_operator.result c.raised_operator.ensures.answer)

pub returns-in-Node-clause-kind : goal.returns-in-Node-clause-kind
returns-in-Node-clause-kind g c =
    subst (λ (r : Rung). HasKindAbove c.args.definition.now c.args.own.now c.raised_operator.result (rise_of r)) (sym c.in-Node.is)
    (node_kind c.args.definition.now c.args.own.now c.raised_operator.result c.in-Node.op c.in-Node.names.now c.in-Node.children.now c.in-Node.hot c.raised_operator.ensures.kind)

pub eval_cell-requires-clause-takes : goal.eval_cell-requires-clause-takes
eval_cell-requires-clause-takes g c =
    let (above, takes) = c.requires.takes in
    (subst (λ (r : Rung). TakesRise c.args.definition.now (rise_of r) c.args.own.now above) c.in-First.is takes).0

pub returns-in-First-clause-answer : goal.returns-in-First-clause-answer
returns-in-First-clause-answer g c =
    subst (λ (r : Rung). IsRaised c.args.definition.now (rise_of r) c.args.own.now c.eval_cell.result) (sym c.in-First.is)
    (raised_first c.args.definition.now c.in-First.list c.in-First.rest.now c.args.own.now c.eval_cell.result c.eval_cell.ensures.answer)

pub returns-in-First-clause-kind : goal.returns-in-First-clause-kind
returns-in-First-clause-kind g c =
    subst (λ (r : Rung). HasKindAbove c.args.definition.now c.args.own.now c.eval_cell.result (rise_of r)) (sym c.in-First.is)
    (first_kind c.args.definition.now c.args.own.now c.eval_cell.result c.in-First.list c.in-First.rest.now c.eval_cell.ensures.kind)

pub returns-in-First-clause-seen : goal.returns-in-First-clause-seen
returns-in-First-clause-seen g c =
    let (above, takes) = c.requires.takes in
    first_seen c.args.definition.now c.args.own.now c.eval_cell.result c.in-First.rest.now
    (subst (λ (r : Rung). TakesRise c.args.definition.now (rise_of r) c.args.own.now above) c.in-First.is takes).1 c.eval_cell.ensures.seen

pub eval_cell-requires-in-Before-clause-takes : goal.eval_cell-requires-in-Before-clause-takes
eval_cell-requires-in-Before-clause-takes g c =
    let (above, takes) = c.requires.takes in
    (subst (λ (r : Rung). TakesRise c.args.definition.now (rise_of r) c.args.own.now above) c.in-Before.is takes).0

pub returns-in-Before-clause-answer : goal.returns-in-Before-clause-answer
returns-in-Before-clause-answer g c =
    subst (λ (r : Rung). IsRaised c.args.definition.now (rise_of r) c.args.own.now c.eval_cell-in-Before.result) (sym c.in-Before.is)
    (raised_before c.args.definition.now c.in-Before.list c.in-Before.element.now c.args.own.now c.eval_cell-in-Before.result c.eval_cell-in-Before.ensures.answer)

pub returns-in-Before-clause-kind : goal.returns-in-Before-clause-kind
returns-in-Before-clause-kind g c =
    subst (λ (r : Rung). HasKindAbove c.args.definition.now c.args.own.now c.eval_cell-in-Before.result (rise_of r)) (sym c.in-Before.is)
    (before_kind c.args.definition.now c.args.own.now c.eval_cell-in-Before.result c.in-Before.list c.in-Before.element.now c.eval_cell-in-Before.ensures.kind)

pub returns-in-Before-clause-seen : goal.returns-in-Before-clause-seen
returns-in-Before-clause-seen g c =
    let (above, takes) = c.requires.takes in
    before_seen c.args.definition.now c.args.own.now c.eval_cell-in-Before.result c.in-Before.element.now
    (subst (λ (r : Rung). TakesRise c.args.definition.now (rise_of r) c.args.own.now above) c.in-Before.is takes).1 c.eval_cell-in-Before.ensures.seen
