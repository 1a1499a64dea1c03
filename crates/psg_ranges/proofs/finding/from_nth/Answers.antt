use Rattle.std.proofs.Common.{◌-◌, ap, sym, inr, eqb-true, arith}
use Rattle.std.proofs.lemmas.List.{nil_from_length}
use Rattle.psg_ranges.proofs.Finds.{left_all, left_next, left_end}
use Rattle.psg_ranges.proofs.finding.from_nth.Goals as goal

pub nodes-init : goal.nodes-init
nodes-init c = left_all c.args.ranges.now c.args.number

pub nodes-preserved : goal.nodes-preserved
nodes-preserved c =
    left_next c.args.ranges.now c.nodes.rest.now c.beside-rest.result.now c.args.number c.nodes.left (c.nodes.left - 1) c.nodes.invariant (omega (arith, c.nodes-test.true))
    c.beside-rest.ensures

pub returns-then-is_empty : goal.returns-then-is_empty
returns-then-is_empty c =
    left_end c.args.ranges.now c.nodes.rest.now c.args.number c.nodes.left c.nodes.invariant (inr (nil_from_length c.nodes.rest.now (eqb-true _ 0 (sym c.if-is_empty.ensures))))
