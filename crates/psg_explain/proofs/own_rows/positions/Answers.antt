use Rattle.std.proofs.Common.{drop, ap, arith}
use Rattle.psg_eval.specs.OwnRows.{positions}
use Rattle.psg_explain.proofs.CasingLaws.{all_dropped}
use Rattle.psg_explain.proofs.GivenLaws.{all_there}
use Rattle.psg_explain.proofs.SplitLaws.{positions_next}
use Rattle.psg_explain.proofs.own_rows.positions.Goals as goal

pub loop-item-preserved : goal.loop-item-preserved
loop-item-preserved c =
    positions_next c.args.items.now c.loop-item.item-index c.item-item.result c.loop-item-test.true c.item-item.is c.args.names.now c.loop-item.next c.in_ok-n.n c.loop-item.found.items c.add_position.new.found.items
    (positions c.args.items.now c.args.names.now) c.in_ok-n.ensures.found c.in_ok-n.ensures.left c.loop-item.invariant

pub returns : goal.returns
returns c =
    all_there c.loop-item.found.items (positions (drop c.loop-item.item-index c.args.items.now) (drop c.loop-item.next c.args.names.now)) (positions c.args.items.now c.args.names.now) c.loop-item.invariant
    (ap (λ l. positions l (drop c.loop-item.next c.args.names.now)) (all_dropped c.args.items.now c.loop-item.item-index (omega arith)))
